-- Who stands below whom in a sound tree.
use Rattle.rx_tree.proofs.Common.{◌≡◌, ◌≢◌, ℕ, zero, suc, ◌<◌, ◌≤◌, ◌==◌, ◌||◌, Bool, true, false, List, [], ◌∷◌, get_or, Option, Some, None, is_some}
use Rattle.rx_tree.proofs.Common.{option_map, refl, sym, ap, ◌∙◌, inl, inr, arith, true≢false, option_and_then, option_map_or, option_or, cases_eq}
use Rattle.rx_tree.proofs.Common.{ltb-true, nat_tests, cond_some, option_and_then_some, Entry, Key, Slots, entry_of, entry_at, find}
use Rattle.rx_tree.proofs.Common.{with_number, Node, IsSound, named_above, is_below, entry_found, with_number-same}
use Rattle.rx_tree.specs.Below.{ancestors_within, record_in, record_of, up, ancestors}
use Rattle.rx_tree.proofs.Laws.Parents.{named_parent}
use Rattle.rx_tree.proofs.Laws.FoundAfterWrite.{with_number-other}
use Rattle.std.proofs.Common.{rules}

-- one test for both
option_map_or-same : {X Y : Type 0} (f g : X → Y) (o : Option X) (d : Y) → ((x : X) → o ≡ Some x → f x ≡ g x) → option_map_or f o d ≡ option_map_or g o d
option_map_or-same f g x2 d same = search rules

-- climbs along a function to smaller numbers
module _ (parent : ℕ → Option ℕ) (falls : (n p : ℕ) → parent n ≡ Some p → p < n) where
  no_parent_of_zero : (o : Option ℕ) → parent 0 ≡ o → o ≡ None
  no_parent_of_zero x0 e = search rules

  -- more steps lead no further
  climb_enough : (k j n : ℕ) → n ≤ k → n ≤ j → ancestors_within k parent n ≡ ancestors_within j parent n
  climb_enough zero zero n a b = refl
  climb_enough zero (suc j) n a b = search (rules, no_parent_of_zero)
  climb_enough (suc k) zero n a b = search (rules, no_parent_of_zero)
  climb_enough (suc k) (suc j) n a b = ap (λ (xs : List ℕ). n ∷ xs) (option_map_or-same (ancestors_within k parent) (ancestors_within j parent) (parent n) []
      (λ p e. let l : p < n = falls n p e in climb_enough k j p (omega arith) (omega arith)))

  -- a number, and then the climb of its parent
  pub climb_step : (n : ℕ) → ancestors_within n parent n ≡ n ∷ option_map_or (λ p. ancestors_within p parent p) (parent n) []
  climb_step n = search (rules, climb_enough, option_map_or-same)

module _ (tree : Slots Node) where
  -- parents have smaller numbers
  pub up-lt : (n p : ℕ) → up tree n ≡ Some p → p < n
  up-lt n p e = search (rules, option_and_then_some, cond_some, ltb-true)

  -- the top itself, or what stands below it by its parent
  pub is_below_step : (top n : ℕ) → is_below tree top n ≡ ((top == n) || option_map_or (is_below tree top) (up tree n) false)
  unfolding ancestors
  is_below_step top n = search (rules, climb_step, up-lt)

  -- the record of a number is the one that its key finds
  record_here : (n : ℕ) (node : Node) (es : List (Option (Entry Node))) (i : ℕ) → get_or es i None ≡ Some (entry_of n node) →
      ((j : ℕ) (e : Entry Node) → get_or es j None ≡ Some e → e.number ≡ n → j ≡ i) → record_in es n ≡ Some node
  record_here n node [] i at only = absurd (true≢false (ap is_some (sym at)))
  record_here n node (o ∷ es) zero at only =
      ap (λ x. option_or (with_number n x) (record_in es n)) at ∙ ap (λ x. option_or x (record_in es n)) (with_number-same n (entry_of n node) refl)
  record_here n node (None ∷ es) (suc i) at only =
      record_here n node es i at (λ j e found number. let s : suc j ≡ suc i = only (suc j) e found number in omega arith)
  record_here n node (Some e ∷ es) (suc i) at only = elim (cases_eq e.number n) [
    | inl same ↦ absurd (let z : 0 ≡ suc i = only 0 e refl same in omega arith)
    | inr other ↦ ap (λ x. option_or x (record_in es n)) (with_number-other n e other) ∙
        record_here n node es i at (λ j x found number. let s : suc j ≡ suc i = only (suc j) x found number in omega arith)
  ]

  module _ (sound : IsSound tree) where
    pub record_found : (key : Key) (node : Node) → find tree key ≡ Some node → record_of tree key.number ≡ Some node
    record_found key node found = record_here key.number node tree.entries key.slot (entry_found tree key node found) only where
      only : (j : ℕ) (e : Entry Node) → entry_at tree j ≡ Some e → e.number ≡ key.number → j ≡ key.slot
      only j e at number =
          let other : Key = record { slot = j; number = key.number } in
          let there : find tree other ≡ Some e.value = ap (with_number key.number) at ∙ with_number-same key.number e number in
          ap (λ k. k.slot) (sound.apart other key (ap is_some there) (ap is_some found) refl)

    -- the parent's number is that of the key above
    pub up_found : (key : Key) (node : Node) → find tree key ≡ Some node → up tree key.number ≡ option_map (λ p. p.number) node.above
    up_found key node found =
        ap (option_and_then (named_above key.number)) (record_found key node found ∙ sym found) ∙ sym (named_parent tree key node found sound)

    -- what a node's key says of what it is below
    pub is_below_found : (top : ℕ) (key : Key) (node : Node) → find tree key ≡ Some node →
        is_below tree top key.number ≡ ((top == key.number) || option_map_or (λ p. is_below tree top p.number) node.above false)
    is_below_found top key node found =
        is_below_step top key.number ∙ ap (λ o. (top == key.number) || option_map_or (is_below tree top) o false) (up_found key node found) ∙
        ap (λ b. (top == key.number) || b) (mapped node.above) where
          mapped : (o : Option Key) → option_map_or (is_below tree top) (option_map (λ p. p.number) o) false ≡ option_map_or (λ p. is_below tree top p.number)
              o false
          mapped None = refl
          mapped (Some p) = refl

    pub below_itself : (key : Key) (node : Node) → find tree key ≡ Some node → is_below tree key.number key.number ≡ true
    below_itself key node found = is_below_found key.number key node found ∙ itself (option_map_or (λ p. is_below tree key.number p.number) node.above false)
      where
        itself : (b : Bool) → ((key.number == key.number) || b) ≡ true
        itself b = grind (arith, nat_tests)

    pub below_child : (top : ℕ) (key p : Key) (node : Node) → find tree key ≡ Some node → node.above ≡ Some p → is_below tree top p.number ≡ true →
        is_below tree top key.number ≡ true
    below_child top key p node found above below =
        is_below_found top key node found ∙ ap (λ o. (top == key.number) || option_map_or (λ k. is_below tree top k.number) o false) above ∙
        ap (λ b. (top == key.number) || b) below ∙ either (top == key.number) where
          either : (b : Bool) → (b || true) ≡ true
          either true = refl
          either false = refl

    -- neither the top nor below it
    pub not_below : (top : ℕ) (key : Key) (node : Node) → find tree key ≡ Some node → top ≢ key.number →
        ((p : Key) → node.above ≡ Some p → is_below tree top p.number ≡ false) → is_below tree top key.number ≡ false
    not_below top key node found other above =
        is_below_found top key node found ∙ apart (option_map_or (λ p. is_below tree top p.number) node.above false) (of node.above refl) where
          of : (o : Option Key) → node.above ≡ o → option_map_or (λ p. is_below tree top p.number) o false ≡ false
          of None e = refl
          of (Some p) e = above p e

          apart : (b : Bool) → b ≡ false → ((top == key.number) || b) ≡ false
          apart b none = rw none (grind (arith, nat_tests, other))
