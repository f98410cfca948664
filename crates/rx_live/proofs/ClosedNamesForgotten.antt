-- Names of closed nodes are forgotten, one after another.
use Rattle.rx_live.proofs.Common.{◌≡◌, ℕ, ◌==◌, Bool, true, false, cond, List, [], ◌∷◌, ◌++◌, length, arith, Option, Some, None, option_map, refl, sym, ap}
use Rattle.rx_live.proofs.Common.{◌∙◌, subst, inl, inr, ◌⊎◌, String, Global, string_bytes, IfSome, is_some, nat_eq, list_any, option_and_then, ◌||◌, eqb-true}
use Rattle.rx_live.proofs.Common.{eq-eqb, none-some, same_Some, list_any_push, Name, State, has_key, Spot, Names, spot_of, name_of_number, IsPaired, Forgets}
use Rattle.rx_live.proofs.Common.{node_key_at}
use Rattle.rx_live.proofs.Common.{open_node_in, AreOpenSame, AreOpen}
use Rattle.rx_live.proofs.AcceptedBindsNames.{forgot}
use Rattle.rx_live.proofs.NamesOfOpenNodes.{no_node, node_found, open_forgot}
use Rattle.std.proofs.Common.{rules}

abbrev pub spot_at : Names → ℕ → Option Spot
spot_at nodes number = option_and_then (spot_of nodes) (name_of_number nodes number)

-- one -------------------------------------------------------------------------------------------------

-- a number that has a name, and its spot
record Stands (nodes : Names) (number : ℕ) (spot : Spot) : Type 0 where
  pub name : Name
  pub known : name_of_number nodes number ≡ Some name
  pub found : spot_of nodes name ≡ Some spot
  pub is : spot.number ≡ number

stands : (nodes : Names) (number : ℕ) (spot : Spot) → IsPaired nodes → spot_at nodes number ≡ Some spot → Stands nodes number spot
stands nodes number spot paired = by_name (name_of_number nodes number) refl where
  by_name : (o : Option Name) → name_of_number nodes number ≡ o → option_and_then (spot_of nodes) o ≡ Some spot → Stands nodes number spot
  by_name None known found = absurd (none-some spot found)
  by_name (Some name) known found =
      let number_is : Some spot.number ≡ Some number = sym (ap (option_map (λ (s : Spot). s.number)) found) ∙ paired.numbered number name known in
      record { name = name; known = known; found = found; is = same_Some spot.number number number_is }

-- one that has none
pub left_nameless : (book : State) (nodes : Names) (number : ℕ) → IsPaired nodes → spot_at nodes number ≡ None → (name : Name) →
    name_of_number nodes number ≡ Some name → is_some (open_node_in book nodes name) ≡ true
left_nameless book nodes number paired none name known =
    let nowhere : spot_of nodes name ≡ None = sym (ap (option_and_then (spot_of nodes)) known) ∙ none in
    let clash : None ≡ Some number = sym (ap (option_map (λ (s : Spot). s.number)) nowhere) ∙ paired.numbered number name known in
    absurd (none-some number clash)

-- an open node
pub left_open : (book : State) (nodes : Names) (number : ℕ) (spot : Spot) → spot_at nodes number ≡ Some spot → has_key book.keys (node_key_at spot) ≡ true →
    (name : Name) → name_of_number nodes number ≡ Some name → is_some (open_node_in book nodes name) ≡ true
left_open book nodes number spot found alive name known =
    node_found book nodes name spot true (sym (ap (option_and_then (spot_of nodes)) known) ∙ found) alive

-- a closed one
pub forgot_one : {book : State} {old new : Names} (number : ℕ) (spot : Spot) (result : Option (String Global)) → IsPaired old → spot_at old number ≡ Some spot →
    has_key book.keys (node_key_at spot) ≡ false → option_map string_bytes result ≡ name_of_number old number →
    IfSome result (λ n. Forgets old number (string_bytes n) new) → AreOpenSame None book old new × (name_of_number new number ≡ None)
forgot_one {book} {old} {new} number spot result paired found closed value some =
    let s = stands old number spot paired found in
    let forgets : Forgets old number s.name new = forgot old new number s.name result s.known value some in
    let at_spot : Forgets old spot.number s.name new = subst (λ (k : ℕ). Forgets old k s.name new) (sym s.is) forgets in (
      open_forgot None book s.name spot refl s.found closed at_spot,
      forgets.names number ∙
          gone (number == number) (eq-eqb number number refl) (name_of_number old number),
    )
  where
    gone : (b : Bool) → b ≡ true → (o : Option Name) → cond b None o ≡ None
    gone true is o = refl
    gone false is o = absurd (cc)

pub left_forgotten : (book : State) (nodes : Names) (number : ℕ) → name_of_number nodes number ≡ None → (name : Name)
    → name_of_number nodes number ≡ Some name →
    is_some (open_node_in book nodes name) ≡ true
left_forgotten book nodes number none name known = absurd (none-some name (sym none ∙ known))

-- many ------------------------------------------------------------------------------------------------

-- what has a name is open, or among the numbers that are still to be looked at
abbrev pub AreLeft : State → Names → List ℕ → Type 0
AreLeft book nodes numbers =
    (k : ℕ) (name : Name) → name_of_number nodes k ≡ Some name → (is_some (open_node_in book nodes name) ≡ true) ⊎ (list_any (nat_eq k) numbers ≡ true)

or_cases : (a b : Bool) → (a || b) ≡ true → (a ≡ true) ⊎ (b ≡ true)
or_cases x0 b is = search rules

pub left_one : (book : State) (old new : Names) (numbers : List ℕ) (n : ℕ) → AreOpenSame None book old new →
    ((name : Name) → name_of_number new n ≡ Some name → is_some (open_node_in book new name) ≡ true) → AreLeft book old (numbers ++ n ∷ [])
    → AreLeft book new numbers
left_one book old new numbers n same mine left k name known = by_old (same.names k) where
  by_place : (list_any (nat_eq k) numbers ≡ true) ⊎ (nat_eq k n ≡ true) → (is_some (open_node_in book new name) ≡ true) ⊎ (list_any (nat_eq k) numbers ≡ true)
  by_place (inl there) = inr there
  by_place (inr here) = inl (mine name (ap (name_of_number new) (sym (eqb-true k n here)) ∙ known))

  by_left : (is_some (open_node_in book old name) ≡ true) ⊎ (list_any (nat_eq k) (numbers ++ n ∷ []) ≡ true) →
      (is_some (open_node_in book new name) ≡ true) ⊎ (list_any (nat_eq k) numbers ≡ true)
  by_left (inl alive) = inl (ap is_some (same.nodes name) ∙ alive)
  by_left (inr there) = by_place (or_cases (list_any (nat_eq k) numbers) (nat_eq k n) (sym (list_any_push (nat_eq k) numbers n) ∙ there))

  by_old : (name_of_number new k ≡ name_of_number old k) ⊎ (name_of_number new k ≡ None)
      → (is_some (open_node_in book new name) ≡ true) ⊎ (list_any (nat_eq k) numbers ≡ true)
  by_old (inl was) = by_left (left k name (sym was ∙ known))
  by_old (inr none) = absurd (none-some name (sym none ∙ known))

none_left : (numbers : List ℕ) → length numbers ≡ 0 → numbers ≡ []
none_left [] none = refl
none_left (n ∷ numbers) none = absurd (omega (arith, none))

pub left_end : (book : State) (nodes : Names) (numbers : List ℕ) → length numbers ≡ 0 → AreLeft book nodes numbers → AreLeft book nodes []
left_end book nodes numbers none left = subst (λ (ns : List ℕ). AreLeft book nodes ns) (none_left numbers none) left

pub left_none : (book : State) (nodes : Names) → IsPaired nodes → AreLeft book nodes [] → AreOpen book nodes
left_none book nodes paired left name = by_spot (spot_of nodes name) refl where
  by_left : (is_some (open_node_in book nodes name) ≡ true) ⊎ (false ≡ true) → is_some (open_node_in book nodes name) ≡ true
  by_left (inl alive) = alive
  by_left (inr there) = absurd (cc)

  by_spot : (o : Option Spot) → spot_of nodes name ≡ o → is_some (open_node_in book nodes name) ≡ is_some (spot_of nodes name)
  by_spot None is = ap is_some (no_node book nodes name is) ∙ sym (ap is_some is)
  by_spot (Some s) is = by_left (left s.number name (paired.named name s is)) ∙ sym (ap is_some is)
