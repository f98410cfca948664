-- Links lead to places where something stands.
use Rattle.rx_tree.proofs.Common.{◌≡◌, ℕ, ◌&&◌, cond, Bool, true, false, Option, Some, None, is_some, IsSome, IfSome, refl, sym, ap, subst, inl, inr, not}
use Rattle.rx_tree.proofs.Common.{true≢false, option_map_or, option_and_then, is_root, Entry, Key, Slots, entry_at, find, with_number, Place, Roots, Due}
use Rattle.rx_tree.proofs.Common.{Waiting, Children, Held, Sibling, Noted, Stored, Node, Stowed, is_owned, is_lent, is_among, Steps, is_end, places, tells}
use Rattle.rx_tree.proofs.Common.{cases_place, next_in, previous_in, first_among, last_among, some_same, stands, sibling_ring, resource_ring, home_of}
use Rattle.rx_tree.proofs.Common.{IsTiedAt, IsSound, found_entry}
use Rattle.rx_tree.proofs.TieRecords.{home_stands}
use Rattle.std.proofs.Common.{rules}

-- the slot of a key that finds a node is not free
pub slot_stands : (nodes : Slots Node) (key : Key) → IsSome (find nodes key) → is_some (entry_at nodes key.slot) ≡ true
slot_stands nodes key found = search (rules, with_number)

module _ {T : Type 0} (nodes : Slots Node) (resources : Slots (Stowed T)) where
  -- and so does the end of a ring on which something stands
  pub end_stands : (noted : ℕ → Bool) (q e : Place) → IsSound nodes → home_of nodes resources noted q ≡ Some e → stands nodes resources e ≡ true
  end_stands noted (Sibling j) e sound at = of (entry_at nodes j) refl at where
    root : (b : Bool) → cond b (Some Roots) None ≡ Some e → stands nodes resources e ≡ true
    root true s = subst (λ z. stands nodes resources z ≡ true) (some_same Roots e s) refl
    root false s = absurd (true≢false (ap is_some (sym s)))

    by : (o : Option Key) (b : Bool) → IfSome o (λ key. IsSome (find nodes key)) →
        option_map_or (λ key. Some (Children key.slot)) o (cond b (Some Roots) None) ≡ Some e → stands nodes resources e ≡ true
    by None b there s = root b s
    by (Some k) b there s = subst (λ z. stands nodes resources z ≡ true) (some_same (Children k.slot) e s) (slot_stands nodes k there)

    of : (o : Option (Entry Node)) → entry_at nodes j ≡ o → option_and_then (λ x. sibling_ring x.value) o ≡ Some e → stands nodes resources e ≡ true
    of None read s = absurd (true≢false (ap is_some (sym s)))
    of (Some x) read s = let k : Key =
        record { slot = j; number = x.number } in by x.value.above (is_root x.value.made) (sound.placed k x.value (found_entry nodes k x.value read)).there s
  end_stands noted (Noted j) e sound at = of (noted j && is_some (entry_at nodes j)) at where
    of : (b : Bool) → cond b (Some Due) None ≡ Some e → stands nodes resources e ≡ true
    of true s = subst (λ z. stands nodes resources z ≡ true) (some_same Due e s) refl
    of false s = absurd (true≢false (ap is_some (sym s)))
  end_stands noted (Stored r) e sound at = of (entry_at resources r) at where
    by : (k : Key) (a b : Bool) → is_some (find nodes k) ≡ a → cond (a && b) (Held k.slot) Waiting ≡ e → stands nodes resources e ≡ true
    by k true true there s = subst (λ z. stands nodes resources z ≡ true) s (slot_stands nodes k there)
    by k true false there s = subst (λ z. stands nodes resources z ≡ true) s refl
    by k false b there s = subst (λ z. stands nodes resources z ≡ true) s refl

    of : (o : Option (Entry (Stowed T))) → option_and_then (λ x. resource_ring nodes x.value) o ≡ Some e → stands nodes resources e ≡ true
    of None s = absurd (true≢false (ap is_some (sym s)))
    of (Some x) s = lent (is_lent x.value) s where
      lent : (l : Bool) → cond l None (Some (cond (is_owned nodes x.value) (Held x.value.node.slot) Waiting)) ≡ Some e → stands nodes resources e ≡ true
      lent true s = absurd (true≢false (ap is_some (sym s)))
      lent false s = by x.value.node (is_some (find nodes x.value.node)) (not x.value.removed) refl
          (some_same (cond (is_owned nodes x.value) (Held x.value.node.slot) Waiting) e s)
  end_stands noted Roots e sound at = absurd (true≢false (ap is_some (sym at)))
  end_stands noted _ e sound at = absurd (true≢false (ap is_some (sym at)))

  -- and the end of the ring where a resource belongs
  pub ring_stands : (stowed : Stowed T) (e : Place) → resource_ring nodes stowed ≡ Some e → stands nodes resources e ≡ true
  ring_stands stowed e at = search (rules, is_lent, slot_stands, true≢false, some_same)

  module _ (n p : Steps Place) (tied : IsTiedAt n p nodes resources) where
    on_ring : (e q : Place) → is_among places q (tied.rings e) ≡ true → stands nodes resources q ≡ true
    on_ring e q i = home_stands nodes resources tied.noted q e (tied.ringed.members e q i)

    pub next_stands : (q : Place) → stands nodes resources q ≡ true → stands nodes resources (n q) ≡ true
    next_stands q there = of (is_end q) refl where
      inner : (o : Option Place) → home_of nodes resources tied.noted q ≡ o → is_end q ≡ false → stands nodes resources (n q) ≡ true
      inner None at single = subst (λ z. stands nodes resources z ≡ true) (sym (tied.ringed.loose q single at).to) there
      inner (Some e) at single = elim (next_in tells n p e (tied.rings e) e q (tied.ringed.leads e (tied.ringed.ends e q at).0) (tied.ringed.listed e q at)) [
        | inl end ↦ subst (λ z. stands nodes resources z ≡ true) (sym end) (end_stands tied.noted q e tied.sound at)
        | inr more ↦ on_ring e (n q) more
      ]

      of : (b : Bool) → is_end q ≡ b → stands nodes resources (n q) ≡ true
      of true ends = elim (cases_place tells (n q) q) [
        | inl same ↦ subst (λ z. stands nodes resources z ≡ true) (sym same) there
        | inr other ↦ on_ring q (n q) (first_among tells n p q (tied.rings q) q (tied.ringed.leads q ends) other)
      ]
      of false single = inner (home_of nodes resources tied.noted q) refl single

    pub previous_stands : (q : Place) → stands nodes resources q ≡ true → stands nodes resources (p q) ≡ true
    previous_stands q there = of (is_end q) refl where
      inner : (o : Option Place) → home_of nodes resources tied.noted q ≡ o → is_end q ≡ false → stands nodes resources (p q) ≡ true
      inner None at single = subst (λ z. stands nodes resources z ≡ true) (sym (tied.ringed.loose q single at).back) there
      inner (Some e) at single = elim (previous_in tells n p e (tied.rings e) e q (tied.ringed.leads e (tied.ringed.ends e q at).0)
          (tied.ringed.listed e q at)) [
            | inl end ↦ subst (λ z. stands nodes resources z ≡ true) (sym end) (end_stands tied.noted q e tied.sound at)
            | inr more ↦ on_ring e (p q) more
          ]

      of : (b : Bool) → is_end q ≡ b → stands nodes resources (p q) ≡ true
      of true ends = elim (cases_place tells (p q) q) [
        | inl same ↦ subst (λ z. stands nodes resources z ≡ true) (sym same) there
        | inr other ↦ on_ring q (p q) (last_among tells n p q (tied.rings q) q (tied.ringed.leads q ends) other)
      ]
      of false single = inner (home_of nodes resources tied.noted q) refl single
