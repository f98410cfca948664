-- What keeps a tree sound.
use Rattle.rx_tree.proofs.Common.{◌≡◌, ◌≢◌, ℕ, Option, Some, None, is_some, IsSome, IfSome, sym, ap, subst, ◌∙◌, inl, inr, ◌⊎◌, Event, Key, cases_key}
use Rattle.rx_tree.proofs.Common.{none_not_some, Slots, find, KeepsOthers, Node, IsPlaced, IsSound}
use Rattle.std.proofs.Common.{rules}

pub IfSome-same : {X : Type 0} (P Q : X → Type 0) (o : Option X) → ((x : X) → o ≡ Some x → P x → Q x) → IfSome o P → IfSome o Q
IfSome-same x0 x1 x2 more h = search rules

-- a place stays one where what was found still is
pub IsPlaced-kept : (s t : Slots Node) (number : ℕ) (made : Event) (above : Option Key) → ((key : Key) → IsSome (find s key) → IsSome (find t key)) →
    IsPlaced s number made above → IsPlaced t number made above
IsPlaced-kept s t number made above kept placed = search (rules, IfSome-same)

-- the room is no part of it
pub IsSound-same : (s t : Slots Node) → ((key : Key) → find t key ≡ find s key) → IsSound s → IsSound t
IsSound-same s t same sound =
    record {
      apart = λ a b found_a found_b numbers. sound.apart a b (ap is_some (sym (same a)) ∙ found_a) (ap is_some (sym (same b)) ∙ found_b) numbers;
      placed = λ key node found. IsPlaced-kept s t key.number node.made node.above (λ other there. ap is_some (same other) ∙ there)
          (sound.placed key node (sym (same key) ∙ found));
    }

-- another record of the same event at a key keeps the tree sound
module _ (s t : Slots Node) (key : Key) (before after : Node) (was : find s key ≡ Some before) (now : find t key ≡ Some after) (kept : KeepsOthers s t key)
    (made : after.made ≡ before.made) (above : after.above ≡ before.above) where
  pub same_found : (k : Key) → is_some (find t k) ≡ is_some (find s k)
  same_found k = search (rules, cases_key)

  pub IsSound-at : IsSound s → IsSound t
  IsSound-at sound =
      record {
        apart = λ a b found_a found_b numbers. sound.apart a b (sym (same_found a) ∙ found_a) (sym (same_found b) ∙ found_b) numbers;
        placed = λ k node found. stays k node found (cases_key k key);
      } where
        more : (k : Key) → IsSome (find s k) → IsSome (find t k)
        more k found = same_found k ∙ found

        stays : (k : Key) (n : Node) → find t k ≡ Some n → (k ≡ key) ⊎ (k ≢ key) → IsPlaced t k.number n.made n.above
        stays k n found (inl at) =
            let same : n ≡ after = let e : find t key ≡ Some n = ap (find t) (sym at) ∙ found in cc in
            let placed : IsPlaced t k.number before.made before.above =
            IsPlaced-kept s t k.number before.made before.above more (sound.placed k before (ap (find s) at ∙ was)) in
            subst (λ (m : Node). IsPlaced t k.number m.made m.above) (sym same)
            (subst (λ a. IsPlaced t k.number after.made a) (sym above) (subst (λ m. IsPlaced t k.number m before.above) (sym made) placed))
        stays k n found (inr at) = IsPlaced-kept s t k.number n.made n.above more (sound.placed k n (sym (kept k at) ∙ found))

module _ (s t : Slots Node) (key : Key) (node : Node) (free : find s key ≡ None) (opened : find t key ≡ Some node) (kept : KeepsOthers s t key) where
  -- what was found still is
  pub opened_keeps : (k : Key) → IsSome (find s k) → find t k ≡ find s k
  opened_keeps k found = search (rules, cases_key, none_not_some)

  -- a new record, under a number that no other has, keeps the tree sound
  pub IsSound-opened : ((k : Key) → k.number ≡ key.number → find s k ≡ None) → IsPlaced s key.number node.made node.above → IsSound s → IsSound t
  IsSound-opened unused placed sound =
      record {
        apart = λ a b found_a found_b numbers. apart a b found_a found_b numbers (cases_key a key) (cases_key b key);
        placed = λ k n found. stays k n found (cases_key k key);
      } where
        fresh : (k : Key) → k ≢ key → k.number ≡ key.number → IsSome (find t k) → ⊥
        fresh k other number found = none_not_some (find t k) (kept k other ∙ unused k number) found

        apart : (a b : Key) → IsSome (find t a) → IsSome (find t b) → a.number ≡ b.number → (a ≡ key) ⊎ (a ≢ key) → (b ≡ key) ⊎ (b ≢ key) → a ≡ b
        apart a b found_a found_b numbers (inl at_a) (inl at_b) = at_a ∙ sym at_b
        apart a b found_a found_b numbers (inl at_a) (inr at_b) = absurd (fresh b at_b (sym numbers ∙ ap (λ k. k.number) at_a) found_b)
        apart a b found_a found_b numbers (inr at_a) (inl at_b) = absurd (fresh a at_a (numbers ∙ ap (λ k. k.number) at_b) found_a)
        apart a b found_a found_b numbers (inr at_a) (inr at_b) =
            sound.apart a b (ap is_some (sym (kept a at_a)) ∙ found_a) (ap is_some (sym (kept b at_b)) ∙ found_b) numbers

        more : (k : Key) → IsSome (find s k) → IsSome (find t k)
        more k found = ap is_some (opened_keeps k found) ∙ found

        stays : (k : Key) (n : Node) → find t k ≡ Some n → (k ≡ key) ⊎ (k ≢ key) → IsPlaced t k.number n.made n.above
        stays k n found (inl at) =
            let same : n ≡ node = let e : find t key ≡ Some n = ap (find t) (sym at) ∙ found in cc in
            subst (λ (m : Node). IsPlaced t k.number m.made m.above) (sym same)
            (subst (λ (j : Key). IsPlaced t j.number node.made node.above) (sym at) (IsPlaced-kept s t key.number node.made node.above more placed))
        stays k n found (inr at) = IsPlaced-kept s t k.number n.made n.above more (sound.placed k n (sym (kept k at) ∙ found))
