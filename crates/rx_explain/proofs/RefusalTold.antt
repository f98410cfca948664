-- What is told of an event that is refused, step by step up to the input.
use Rattle.std.proofs.Common.{◌≡◌, ℕ, ◌-◌, ◌<◌, ◌++◌, Bool, true, false, List, length, take, Option, Some, None, Vec, Bor, refl, ap, sym, subst, ◌∙◌, arith, slice_get}
use Rattle.std.specs.Prelude.{Result, Ok, Err, IfOk, String, string_bytes, codes, is_some, ◌||◌, IsUtf8}
use Rattle.std.specs.Fmt.{decimal}
use Rattle.std.specs.declared.alloc.Global.{Global}
use Rattle.std.proofs.lemmas.Bool.{false≢true}
use Rattle.std.proofs.lemmas.List.{append_assoc}
use Rattle.std.proofs.lemmas.Option.{same_Some, none-some, slice_get-get_or}
use Rattle.std.specs.Slice.{IsItemAt}
use Rattle.std.specs.List.{slice_range}
use Rattle.serde_json.specs.Data.{Data, null, boolean, number, string, array, object}
use Rattle.serde_json.specs.Find.{as_array, get}
use Rattle.serde_json.specs.Read.{read}
use Rattle.rx_event.specs.declared.event.Event.{Event}
use Rattle.rx_event.specs.declared.refusal.Refusal.{Refusal}
use Rattle.rx_event.specs.Kept.{nothing_kept}
use Rattle.rx_event.specs.Lawful.{IsLawful}
use Rattle.rx_register.specs.CallBehind.{refusal_of}
use Rattle.rx_audit.specs.declared.verdict.Verdict.{Verdict}
use Rattle.rx_audit.specs.declared.verdict.Verdict.TheVariants.{Lawful, Unlawful, Unsettled}
use Rattle.rx_audit.specs.Verdict.{IsVerdict}
use Rattle.rx_device.specs.Input.{IsJsonOf, most_bytes}
use Rattle.rx_dump.specs.History.{history_of}
use Rattle.rx_dump.specs.Names.{dump_in, names_in}
use Rattle.rx_explain.specs.Worded.{IsWorded, WordsRefusal, TellsRefusal, TellsFirst, TellsFirstIn, TellsFirstOf}
use Rattle.rx_explain.proofs.AcceptedAsRead.{lawful_alone, itself, one_value}
use Rattle.rx_explain.proofs.FirstRefused.{place_told}

-- after a history -----------------------------------------------------------------------------------

module _ {E : Type 0} (names : Data) (h : List Event) (e : Event) where
  pub words_known : (w : Refusal) (answer : Result (String Global) E) → (IsLawful nothing_kept h → Some w ≡ refusal_of nothing_kept h e) →
      IfOk answer (λ s. IsWorded names e w (string_bytes s)) → IfOk answer (λ s. WordsRefusal names h e (string_bytes s))
  words_known w (Ok s) is worded = λ why r. subst (λ k. IsWorded names e k (string_bytes s)) (same_Some w why (is r.lawful ∙ r.refused)) worded
  words_known w (Err error) is worded = tt

  pub words_none : (answer : Result (String Global) E) → (IsLawful nothing_kept h → None ≡ refusal_of nothing_kept h e) →
      IfOk answer (λ s. WordsRefusal names h e (string_bytes s))
  words_none (Ok s) is = λ why r. absurd (none-some why (is r.lawful ∙ r.refused))
  words_none (Err error) is = tt

  -- where it is not lawful and settled there is no refusal to word
  pub words_forced : (v : Verdict) (answer : Result (String Global) E) → IsVerdict h v →
      ((live held waiting : Vec ℕ Global) → v ≡ Lawful live held waiting → ⊥) → IfOk answer (λ s. WordsRefusal names h e (string_bytes s))
  words_forced v (Err error) is none = tt
  words_forced (Lawful live held waiting) (Ok s) is none = absurd (none live held waiting refl)
  words_forced (Unlawful p) (Ok s) is none = λ why r. absurd (false≢true (lawful_alone h r.lawful r.settled (Unlawful p) is))
  words_forced Unsettled (Ok s) is none = λ why r. absurd (false≢true (lawful_alone h r.lawful r.settled Unsettled is))

pub placed_so : {E : Type 0} (a b c shown d told : List ℕ) (answer : Result (String Global) E) →
    IfOk answer (λ s. string_bytes s ≡ a ++ (b ++ (c ++ (shown ++ (d ++ told))))) → IfOk answer (λ s. (x : List ℕ) × (string_bytes s ≡ a ++ b ++ c ++ x ++ d ++ told))
placed_so a b c shown d told (Ok s) is = (shown, is ∙ six) where
  six : a ++ (b ++ (c ++ (shown ++ (d ++ told)))) ≡ a ++ b ++ c ++ shown ++ d ++ told
  six = sym (append_assoc a b (c ++ (shown ++ (d ++ told)))) ∙ sym (append_assoc (a ++ b) c (shown ++ (d ++ told)))
      ∙ sym (append_assoc (a ++ b ++ c) shown (d ++ told)) ∙ sym (append_assoc (a ++ b ++ c ++ shown) d told)
placed_so a b c shown d told (Err error) is = tt

pub found_there : (h : List Event) (place : ℕ) (e : Bor Event) → IsItemAt h place (Some e) → slice_get h place ≡ Some e.now
found_there h place e is = slice_get-get_or h place e.now is.3.0 ∙ ap Some (sym (is.3.1 e.now))

pub before_there : (h front : List Event) (place : ℕ) → front ≡ slice_range h 0 place → front ≡ take place h
before_there h front place is =
    let same : place - 0 ≡ place = omega arith in
    is ∙ ap (λ k. take k h) same

-- in a history --------------------------------------------------------------------------------------

module _ {E : Type 0} (names : Data) (h : List Event) (place : ℕ) where
  pub told_there : (front : List Event) (e : Event) (said told : List ℕ) (answer : Result (String Global) E) → slice_get h place ≡ Some e →
      front ≡ take place h → said ≡ told → WordsRefusal names front e told →
      IfOk answer (λ s. (shown : List ℕ) × (string_bytes s ≡ codes "event " ++ decimal place ++ codes ", " ++ shown ++ codes ": " ++ said)) →
      IfOk answer (λ s. (f : Event) → slice_get h place ≡ Some f → TellsRefusal names h place f (string_bytes s))
  told_there front e said told (Ok s) found before same words is = λ f there.
      subst (λ k. TellsRefusal names h place k (string_bytes s)) (same_Some e f (sym found ∙ there)) (record {
        shown = is.0;
        told = told;
        is = is.1 ∙ ap (λ k. codes "event " ++ decimal place ++ codes ", " ++ is.0 ++ codes ": " ++ k) same;
        worded = subst (λ k. WordsRefusal names k e told) before words;
      })
  told_there front e said told (Err error) found before same words is = tt

  pub told_nowhere : (answer : Result (String Global) E) → slice_get h place ≡ None →
      IfOk answer (λ s. (f : Event) → slice_get h place ≡ Some f → TellsRefusal names h place f (string_bytes s))
  told_nowhere (Ok s) none = λ f there. absurd (none-some f (sym none ∙ there))
  told_nowhere (Err error) none = tt

abbrev place_in : Verdict → ℕ
place_in (Unlawful p) = p
place_in _ = 0

abbrev is_unlawful : Verdict → Bool
is_unlawful (Unlawful p) = true
is_unlawful _ = false

pub first_at : (names : Data) (h : List Event) (q : ℕ) (s : String Global) → IsVerdict h (Unlawful q) →
    ((e : Event) → slice_get h q ≡ Some e → TellsRefusal names h q e (string_bytes s)) → TellsFirst names h (Some s)
first_at names h q s is tells place e why found refused =
    let same : q ≡ place = ap place_in (place_told h (Unlawful q) place e why is found refused) in
    subst (λ k. slice_get h k ≡ Some e → TellsRefusal names h k e (string_bytes s)) same (tells e) found

pub first_unsettled : (names : Data) (h : List Event) (told : Option (String Global)) → IsVerdict h Unsettled → TellsFirst names h told
first_unsettled names h told is place e why found refused =
    absurd (false≢true (ap is_unlawful (place_told h Unsettled place e why is found refused)))

pub first_lawful : (names : Data) (h : List Event) → TellsFirst names h None
first_lawful names h place e why found refused = tt

-- in a dump -----------------------------------------------------------------------------------------

pub dump_worded : {E : Type 0} (names d : Data) (h : List Event) (answer : Result (Option (String Global)) E) → history_of d ≡ Some h →
    IfOk answer (TellsFirst names h) → IfOk answer (λ told. (k : List Event) → history_of d ≡ Some k → TellsFirst names k told)
dump_worded names d h (Ok told) reading is = λ k other. subst (λ j. TellsFirst names j told) (same_Some h k (sym reading ∙ other)) is
dump_worded names d h (Err error) reading is = tt

pub no_dump_worded : (names d : Data) (told : Option (String Global)) → history_of d ≡ None →
    (k : List Event) → history_of d ≡ Some k → TellsFirst names k told
no_dump_worded names d told none k other = absurd (none-some k (sym none ∙ other))

no_array : (d : Data) → is_some (as_array d) ≡ false → history_of d ≡ None
unfolding history_of
no_array null e = refl
no_array (boolean b) e = refl
no_array (number n) e = refl
no_array (string s) e = refl
no_array (array ds) e = absurd (false≢true (sym e))
no_array (object ms) e = refl

-- a value that is taken for a scenario has no history
no_history_in : (d : Data) (told : Option (String Global)) → (is_some (as_array d) || is_some (get (codes "dump") d)) ≡ false → TellsFirstIn d told
no_history_in d told e = by_parts (is_some (as_array d)) (get (codes "dump") d) refl refl e where
  by_parts : (a : Bool) (o : Option Data) → is_some (as_array d) ≡ a → get (codes "dump") d ≡ o → (a || is_some o) ≡ false → TellsFirstIn d told
  by_parts true o is has fails = absurd (false≢true (sym fails))
  by_parts false (Some x) is has fails = absurd (false≢true (sym fails))
  by_parts false None is has fails = no_dump_worded (names_in d) (dump_in d) told (ap history_of (itself d has) ∙ no_array d is)

pub no_history_worded : {E : Type 0} (d : Data) (answer : Result (Option (String Global)) E) → (is_some (as_array d) || is_some (get (codes "dump") d)) ≡ false →
    IfOk answer (TellsFirstIn d)
no_history_worded d (Ok told) e = no_history_in d told e
no_history_worded d (Err error) e = tt

-- in an input ---------------------------------------------------------------------------------------

pub input_worded : {E : Type 0} (input : List ℕ) (d : Data) (answer : Result (Option (String Global)) E) → IsJsonOf input d →
    IfOk answer (TellsFirstIn d) → IfOk answer (TellsFirstOf input)
input_worded input d (Ok told) json is = λ other short other_json. subst (λ k. TellsFirstIn k told) (one_value input d other json other_json) is
input_worded input d (Err error) json is = tt

pub long_worded : (input : List ℕ) (told : Option (String Global)) → most_bytes < length input → TellsFirstOf input told
long_worded input told long d short json = absurd (omega arith)

pub no_json_worded : (input : List ℕ) (told : Option (String Global)) → (IsUtf8 input → read input ≡ None) → TellsFirstOf input told
no_json_worded input told none d short json = absurd (none-some d (sym (none json.text) ∙ json.value))
