-- What lines ask for that are commands which take no memory.
use Rattle.std.proofs.Common.{◌≡◌, ℕ, List, Bool, true, false, Option, Some, None, option_map, option_and_then, refl, sym, subst}
use Rattle.std.specs.Prelude.{◌&&◌, codes, IsUtf8, IfSome, if◌then◌else◌}
use Rattle.std.specs.Str.{bytes_eq}
use Rattle.std.proofs.lemmas.Bool.{and_parts}
use Rattle.std.proofs.lemmas.Slice.Eq.{bytes_eq-Decides}
use Rattle.serde_json.specs.Data.{Data}
use Rattle.serde_json.specs.Read.{read}
use Rattle.rx_note.specs.declared.note.Terminal.TheVariants.{Completed}
use Rattle.rx_scenario.specs.Scenario.{Command, remove, give_back, end, decline, dispose, disconnect, drain}
use Rattle.rx_scenario.specs.Reading.{is_name_text, action_in, action_by, command_by, node_command_by, book_command_by}
use Rattle.rx_scenario.specs.Reading.{is_one_of, has_only, has_only_steps, name_in, terminal_in}
use Rattle.rx_scenario.specs.Reading.{remove_of, return_of, end_command_of, decline_of, dispose_of, disconnect_of, drain_of}
use Rattle.rx_line.specs.Orders.{plain, task, order_in, does, says, is_timed, command_in, task_in, IsOrderOf}
use Rattle.rx_line.specs.declared.free.FreeCommand.{FreeCommand}
use Rattle.rx_line.specs.FreeCommands.{free_command_of, past_mark, Said, member_in, is_end, free_of_node, free_named, free_by, free_said}
use Rattle.rx_line.specs.FreeCommands.{free_first, free_in}
use Rattle.rx_line.proofs.WordsLexed.{same_rest}
use Rattle.rx_line.proofs.ObjectsRead.{of_one, of_two, reads_one, reads_two}

-- what such an object asks for -----------------------------------------------------------------------

abbrev Asks : Data → Command → Type 0
Asks d c = order_in d ≡ Some (task (plain c))

asks_drain : Asks (of_one (codes "do") (codes "drain")) drain
unfolding order_in says does task_in command_in is_timed action_in action_by command_by node_command_by book_command_by is_one_of has_only has_only_steps
    drain_of
asks_drain = refl

asks_end : (name : List ℕ) → is_name_text name ≡ true → Asks (of_two (codes "do") (codes "end") (codes "node") name) (end name Completed)
unfolding order_in says does task_in command_in is_timed action_in action_by command_by node_command_by book_command_by is_one_of has_only has_only_steps
    name_in terminal_in end_command_of
asks_end name is = rw is refl

asks_decline : (name : List ℕ) → is_name_text name ≡ true → Asks (of_two (codes "do") (codes "decline") (codes "node") name) (decline name)
unfolding order_in says does task_in command_in is_timed action_in action_by command_by node_command_by book_command_by is_one_of has_only has_only_steps
    name_in decline_of
asks_decline name is = rw is refl

asks_dispose : (name : List ℕ) → is_name_text name ≡ true → Asks (of_two (codes "do") (codes "dispose") (codes "node") name) (dispose name)
unfolding order_in says does task_in command_in is_timed action_in action_by command_by node_command_by book_command_by is_one_of has_only has_only_steps
    name_in dispose_of
asks_dispose name is = rw is refl

asks_disconnect : (name : List ℕ) → is_name_text name ≡ true → Asks (of_two (codes "do") (codes "disconnect") (codes "hub") name) (disconnect name)
unfolding order_in says does task_in command_in is_timed action_in action_by command_by node_command_by book_command_by is_one_of has_only has_only_steps
    name_in disconnect_of
asks_disconnect name is = rw is refl

asks_remove : (name : List ℕ) → is_name_text name ≡ true → Asks (of_two (codes "do") (codes "remove") (codes "res") name) (remove name)
unfolding order_in says does task_in command_in is_timed action_in action_by command_by node_command_by book_command_by is_one_of has_only has_only_steps
    name_in remove_of
asks_remove name is = rw is refl

asks_return : (name : List ℕ) → is_name_text name ≡ true → Asks (of_two (codes "do") (codes "return") (codes "lease") name) (give_back name)
unfolding order_in says does task_in command_in is_timed action_in action_by command_by node_command_by book_command_by is_one_of has_only has_only_steps
    name_in return_of
asks_return name is = rw is refl

-- which it is ----------------------------------------------------------------------------------------

is_word : (w word : List ℕ) → bytes_eq w word ≡ true → w ≡ word
is_word w word is = (bytes_eq-Decides w word).0 is

-- by two tests
pick : {A : Type 0} (b : Bool) (x : A) (o : Option A) (c : A) (P : Type 0) → (b ≡ true → x ≡ c → P) → (o ≡ Some c → P) → (if b then Some x else o) ≡ Some c → P
pick true x o c P here there is = here refl (same_rest x c is)
pick false x o c P here there is = there is

module _ (what key name : List ℕ) (named : is_name_text name ≡ true) (c : Command) where
  abbrev Goal : Type 0
  Goal = Asks (of_two (codes "do") what key name) c

  given : (w k : List ℕ) (x : Command) → Asks (of_two (codes "do") w k name) x → bytes_eq what w ≡ true → bytes_eq key k ≡ true → x ≡ c → Goal
  given w k x asks word member is =
      subst (λ y. Asks (of_two (codes "do") what key name) y) is
      (subst (λ u. Asks (of_two (codes "do") u key name) x) (sym (is_word what w word))
      (subst (λ u. Asks (of_two (codes "do") w u name) x) (sym (is_word key k member)) asks))

  of_node : bytes_eq key (codes "node") ≡ true → free_of_node what name ≡ Some c → Goal
  unfolding free_of_node
  of_node node is =
      pick (bytes_eq what (codes "end")) (end name Completed) _ c Goal (λ w. given (codes "end") (codes "node") _ (asks_end name named) w node)
      (pick (bytes_eq what (codes "decline")) (decline name) _ c Goal (λ w. given (codes "decline") (codes "node") _ (asks_decline name named) w node)
      (pick (bytes_eq what (codes "dispose")) (dispose name) _ c Goal (λ w. given (codes "dispose") (codes "node") _ (asks_dispose name named) w node)
      (λ none. absurd (cc)))) is

  by_node : (b : Bool) (o : Option Command) → (b ≡ true → free_of_node what name ≡ Some c → Goal) → (o ≡ Some c → Goal)
      → (if b then free_of_node what name else o) ≡ Some c → Goal
  by_node true o here there is = here refl is
  by_node false o here there is = there is

  named_asks : free_named what key name ≡ Some c → Goal
  unfolding free_named
  named_asks is =
      by_node (bytes_eq key (codes "node")) _ of_node
      (pick (bytes_eq key (codes "hub") && bytes_eq what (codes "disconnect")) (disconnect name) _ c Goal
      (λ b. let both = and_parts (bytes_eq key (codes "hub")) (bytes_eq what (codes "disconnect")) b in given (codes "disconnect") (codes "hub") _ (asks_disconnect name named) both.1 both.0)
      (pick (bytes_eq key (codes "res") && bytes_eq what (codes "remove")) (remove name) _ c Goal
      (λ b. let both = and_parts (bytes_eq key (codes "res")) (bytes_eq what (codes "remove")) b in given (codes "remove") (codes "res") _ (asks_remove name named) both.1 both.0)
      (pick (bytes_eq key (codes "lease") && bytes_eq what (codes "return")) (give_back name) _ c Goal
      (λ b. let both = and_parts (bytes_eq key (codes "lease")) (bytes_eq what (codes "return")) b in given (codes "return") (codes "lease") _ (asks_return name named) both.1 both.0)
      (λ none. absurd (cc))))) is

-- the line -------------------------------------------------------------------------------------------

no_none : {A : Type 0} (a : A) → None ≡ Some a → ⊥
no_none a is = cc

record Second (rest what : List ℕ) (c : Command) : Type 0 where
  after_comma : List ℕ
  comma_is : past_mark 44 rest ≡ Some after_comma
  other : Said
  member_is : member_in after_comma ≡ Some other
  by : free_by what other ≡ Some c

second_by : (rest what s : List ℕ) (c : Command) → past_mark 44 rest ≡ Some s → (o : Option Said) → member_in s ≡ o
    → option_and_then (free_by what) o ≡ Some c → Second rest what c
second_by rest what s c e None f is = absurd (cc)
second_by rest what s c e (Some other) f is = record { after_comma = s; comma_is = e; other = other; member_is = f; by = is }

second_of : (rest what : List ℕ) (c : Command) (o : Option (List ℕ)) → past_mark 44 rest ≡ o
    → option_and_then (free_by what) (option_and_then member_in o) ≡ Some c → Second rest what c
second_of rest what c None e is = absurd (cc)
second_of rest what c (Some s) e is = second_by rest what s c e (member_in s) refl is

-- what is behind the tests of a member
record Whole (what : List ℕ) (other : Said) (c : Command) : Type 0 where
  ends : is_end other.rest ≡ true
  name : is_name_text other.value ≡ true
  named : free_named what other.key other.value ≡ Some c

whole_by : (what : List ℕ) (other : Said) (c : Command) (e n : Bool) → is_end other.rest ≡ e → is_name_text other.value ≡ n
    → (if e && n then free_named what other.key other.value else None) ≡ Some c → Whole what other c
whole_by what other c true true a b is = record { ends = a; name = b; named = is }
whole_by what other c false n a b is = absurd (no_none c is)
whole_by what other c true false a b is = absurd (no_none c is)

module _ (line : List ℕ) (c : Command) where
  two : (r : List ℕ) (said : Said) → past_mark 123 line ≡ Some r → member_in r ≡ Some said → said.key ≡ codes "do"
      → Second said.rest said.value c → (d : Data) × (read line ≡ Some d) × Asks d c
  two r said begins first word second =
      let whole = whole_by said.value second.other c (is_end second.other.rest) (is_name_text second.other.value) refl refl second.by in (
        of_two said.key said.value second.other.key second.other.value,
        reads_two line r second.after_comma said second.other begins first second.comma_is second.member_is whole.ends,
        subst (λ k. Asks (of_two k said.value second.other.key second.other.value) c) (sym word)
            (named_asks said.value second.other.key second.other.value whole.name c whole.named),
      )

  one : (r : List ℕ) (said : Said) → past_mark 123 line ≡ Some r → member_in r ≡ Some said → said.key ≡ codes "do" → is_end said.rest ≡ true
      → (b : Bool) → bytes_eq said.value (codes "drain") ≡ b → (if b then Some drain else None) ≡ Some c → (d : Data) × (read line ≡ Some d) × Asks d c
  one r said begins first word ends false what is = absurd (no_none c is)
  one r said begins first word ends true what is = (
    of_one said.key said.value,
    reads_one line r said begins first ends,
    subst (λ y. Asks (of_one said.key said.value) y) (same_rest drain c is)
        (subst (λ k. Asks (of_one k said.value) drain) (sym word)
        (subst (λ v. Asks (of_one (codes "do") v) drain) (sym (is_word said.value (codes "drain") what)) asks_drain)),
  )

  said_by_end : (r : List ℕ) (said : Said) → past_mark 123 line ≡ Some r → member_in r ≡ Some said → said.key ≡ codes "do" → (b : Bool)
      → is_end said.rest ≡ b
      → (if b then (if bytes_eq said.value (codes "drain") then Some drain else None) else option_and_then (free_by said.value)
      (option_and_then member_in (past_mark 44 said.rest))) ≡ Some c → (d : Data) × (read line ≡ Some d) × Asks d c
  said_by_end r said begins first word true ends is = one r said begins first word ends (bytes_eq said.value (codes "drain")) refl is
  said_by_end r said begins first word false ends is = two r said begins first word (second_of said.rest said.value c (past_mark 44 said.rest) refl is)

  said_asks : (r : List ℕ) (said : Said) → past_mark 123 line ≡ Some r → member_in r ≡ Some said → said.key ≡ codes "do"
      → free_said said.value said.rest ≡ Some c → (d : Data) × (read line ≡ Some d) × Asks d c
  unfolding free_said
  said_asks r said begins first word is = said_by_end r said begins first word (is_end said.rest) refl is

  first_by : (r : List ℕ) (said : Said) → past_mark 123 line ≡ Some r → member_in r ≡ Some said → (b : Bool) → bytes_eq said.key (codes "do") ≡ b
      → (if b then free_said said.value said.rest else None) ≡ Some c → (d : Data) × (read line ≡ Some d) × Asks d c
  first_by r said begins first false word is = absurd (no_none c is)
  first_by r said begins first true word is = said_asks r said begins first (is_word said.key (codes "do") word) is

  by_member : (r : List ℕ) → past_mark 123 line ≡ Some r → (o : Option Said) → member_in r ≡ o → option_and_then free_first o ≡ Some c
      → (d : Data) × (read line ≡ Some d) × Asks d c
  by_member r begins None first is = absurd (no_none c is)
  by_member r begins (Some said) first is = first_by r said begins first (bytes_eq said.key (codes "do")) refl is

  by_brace : (o : Option (List ℕ)) → past_mark 123 line ≡ o → option_and_then free_first (option_and_then member_in o) ≡ Some c
      → (d : Data) × (read line ≡ Some d) × Asks d c
  by_brace None begins is = absurd (no_none c is)
  by_brace (Some r) begins is = by_member r begins (member_in r) refl is

  asked : free_in line ≡ Some c → (d : Data) × (read line ≡ Some d) × Asks d c
  unfolding free_in
  asked is = by_brace (past_mark 123 line) refl is

  pub free_order : IsUtf8 line → free_in line ≡ Some c → IsOrderOf line (task (plain c))
  free_order utf8 is =
      let found = asked is in
      record { value = found.0; json = record { text = utf8; value = found.1 }; order = found.2 }

-- of what was found
pub found_order : (line : List ℕ) (found : Option FreeCommand) → IsUtf8 line → option_map free_command_of found ≡ free_in line
    → IfSome found (λ c. IsOrderOf line (task (plain (free_command_of c))))
found_order line None utf8 is = tt
found_order line (Some c) utf8 is = free_order line (free_command_of c) utf8 (sym is)
