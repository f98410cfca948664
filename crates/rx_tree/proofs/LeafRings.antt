-- What rings say of the node at their end, and what the removal of a childless node leaves of them.
use Rattle.rx_tree.proofs.Common.{◌≡◌, ◌≢◌, ℕ, ◌<◌, cond, Bool, true, false, List, [], ◌∷◌, Option, Some, None, option_map, is_some, IsSome, IfSome, ap}
use Rattle.rx_tree.proofs.Common.{refl, sym, subst, ◌∙◌, inl, inr, true≢false, option_map_or, option_and_then, false≢true, is_root, Entry, Key, Slots, key_at}
use Rattle.rx_tree.proofs.Common.{entry_at, find, Place, Roots, Children, Held, Sibling, Stored, Node, Stowed, is_among, Steps, IsLink, Leads}
use Rattle.rx_tree.proofs.Common.{AreRings, is_place, is_end, slot_of, places, tells, cases_place, place_apart, among_here, next_in, previous_in, first_among}
use Rattle.rx_tree.proofs.Common.{last_among, some_same, sibling_ring, home_of, IsTiedAt, some_of, entry_found, found_entry, one_key}
use Rattle.rx_tree.proofs.TieRecords.{aged}
use Rattle.std.proofs.Common.{rules}

-- as it was, but for one place that has no home
abbrev pub lone : (Place → Option Place) → Place → Place → Option Place
lone home item q = cond (is_place item q) None (home q)

pub lone_here : (home : Place → Option Place) (item : Place) → lone home item item ≡ None
lone_here home item = ap (λ b. cond b None (home item)) (tells.self item)

pub lone_other : (home : Place → Option Place) (item q : Place) → item ≢ q → lone home item q ≡ home q
lone_other home item q apart = ap (λ b. cond b None (home q)) (place_apart tells item q apart)

-- what has a home but for one place has it
pub lone_some : (home : Place → Option Place) (item q e : Place) → lone home item q ≡ Some e → home q ≡ Some e
lone_some home item q e at = search (rules, true≢false)

module _ (n p : Steps Place) (home : Place → Option Place) (rings : Place → List Place) (R : AreRings places n p home rings) where
  -- links lead to what stands somewhere
  module _ (S : Place → Type 0) (stood : (q e : Place) → home q ≡ Some e → S q × S e) where
    pub next_there : (q : Place) → S q → S (n q)
    next_there q there = of (is_end q) refl where
      inner : (o : Option Place) → home q ≡ o → is_end q ≡ false → S (n q)
      inner None at single = subst S (sym (R.loose q single at).to) there
      inner (Some e) at single = elim (next_in tells n p e (rings e) e q (R.leads e (R.ends e q at).0) (R.listed e q at)) [
        | inl end ↦ subst S (sym end) (stood q e at).1
        | inr more ↦ (stood (n q) e (R.members e (n q) more)).0
      ]

      of : (b : Bool) → is_end q ≡ b → S (n q)
      of true ends = elim (cases_place tells (n q) q) [
        | inl same ↦ subst S (sym same) there
        | inr other ↦ (stood (n q) q (R.members q (n q) (first_among tells n p q (rings q) q (R.leads q ends) other))).0
      ]
      of false single = inner (home q) refl single

    pub previous_there : (q : Place) → S q → S (p q)
    previous_there q there = of (is_end q) refl where
      inner : (o : Option Place) → home q ≡ o → is_end q ≡ false → S (p q)
      inner None at single = subst S (sym (R.loose q single at).back) there
      inner (Some e) at single = elim (previous_in tells n p e (rings e) e q (R.leads e (R.ends e q at).0) (R.listed e q at)) [
        | inl end ↦ subst S (sym end) (stood q e at).1
        | inr more ↦ (stood (p q) e (R.members e (p q) more)).0
      ]

      of : (b : Bool) → is_end q ≡ b → S (p q)
      of true ends = elim (cases_place tells (p q) q) [
        | inl same ↦ subst S (sym same) there
        | inr other ↦ (stood (p q) q (R.members q (p q) (last_among tells n p q (rings q) q (R.leads q ends) other))).0
      ]
      of false single = inner (home q) refl single

  -- an end that is no place's home leads to itself
  pub empty_ring : (e : Place) → is_end e ≡ true → ((x : Place) → home x ≢ Some e) → IsLink n p e e
  empty_ring e ends none = of (rings e) (R.leads e ends) (λ x i. R.members e x i) where
    of : (xs : List Place) → Leads n p e xs e → ((x : Place) → is_among places x xs ≡ true → home x ≡ Some e) → IsLink n p e e
    of [] h m = h
    of (x ∷ xs) h m = absurd (none x (m x (among_here tells x xs)))

  -- and an end that leads to itself is no place's home
  pub nothing_on : (e : Place) → is_end e ≡ true → n e ≡ e → (x : Place) → home x ≢ Some e
  nothing_on e ends loop x at = of (rings e) (R.leads e ends) (R.listed e x at) (λ y i. (R.ends e y (R.members e y i)).1) where
    of : (xs : List Place) → Leads n p e xs e → is_among places x xs ≡ true → ((y : Place) → is_among places y xs ≡ true → is_end y ≡ false) → ⊥
    of [] h i inner = false≢true i
    of (y ∷ xs) h i inner = true≢false (sym ends ∙ ap is_end (sym loop ∙ h.0.to) ∙ inner y (among_here tells y xs))

-- at a slot stands a node whose parent is the key's
pub record IsChildAt (nodes : Slots Node) (key : Key) (slot : ℕ) : Type 0 where
  pub child : Key
  pub node : Node
  pub at : key_at nodes slot ≡ Some child
  pub found : find nodes child ≡ Some node
  pub above : node.above ≡ Some key
  pub later : key.number < child.number

module _ {T : Type 0} (nodes : Slots Node) (resources : Slots (Stowed T)) where
  -- a place whose home is a ring of resources is that of a resource
  pub held_is : (noted : ℕ → Bool) (slot : ℕ) (q : Place) → home_of nodes resources noted q ≡ Some (Held slot) → q ≡ Stored (slot_of q)
  held_is noted slot x2 at = search (rules, true≢false, some_same)

  module _ (n p : Steps Place) (tied : IsTiedAt n p nodes resources) where
    -- what stands on a node's ring of children is a child
    pub child_at : (key : Key) → IsSome (find nodes key) → (slot : ℕ) → home_of nodes resources tied.noted (Sibling slot) ≡ Some (Children key.slot) →
        IsChildAt nodes key slot
    child_at key there slot at = of (entry_at nodes slot) refl at where
      by : (m : ℕ) (o : Option Key) (b : Bool) → IfSome o (λ k. IsSome (find nodes k)) → IfSome o (λ k. k.number < m) →
          option_map_or (λ k. Some (Children k.slot)) o (cond b (Some Roots) None) ≡ Some (Children key.slot) → (o ≡ Some key) × (key.number < m)
      by m None true some lower e = absurd (true≢false (sym (tells.self Roots) ∙ ap (is_place Roots) (some_same Roots (Children key.slot) e)))
      by m None false some lower e = absurd (true≢false (ap is_some (sym e)))
      by m (Some k) b some lower e =
          let slots : k.slot ≡ key.slot = ap slot_of (some_same (Children k.slot) (Children key.slot) e) in
          let x = some_of (find nodes k) some in
          let y = some_of (find nodes key) there in
          let same = (one_key nodes k key x.0 y.0 slots x.1 y.1).0 in
          (ap (λ z. Some z) same, subst (λ z. z.number < m) same lower)

      of : (o : Option (Entry Node)) → entry_at nodes slot ≡ o → option_and_then (λ e. sibling_ring e.value) o ≡ Some (Children key.slot) →
          IsChildAt nodes key slot
      of None read at = absurd (true≢false (ap is_some (sym at)))
      of (Some e) read at =
          let child : Key = record { slot = slot; number = e.number } in
          let found : find nodes child ≡ Some e.value = found_entry nodes child e.value read in
          let placed = tied.sound.placed child e.value found in
          let up = by e.number e.value.above (is_root e.value.made) placed.there placed.lower at in
          record {
            child = child;
            node = e.value;
            at = ap (option_map (λ x. record { slot = slot; number = x.number })) read;
            found = found;
            above = up.0;
            later = up.1;
          }

    -- a ring that leads to no node is empty
    pub no_child : (slot : ℕ) → ((j : ℕ) → n (Children slot) ≢ Sibling j) → n (Children slot) ≡ Children slot
    no_child slot none = elim (cases_place tells (n (Children slot)) (Children slot)) [
      | inl same ↦ same
      | inr other ↦
          let i = first_among tells n p (Children slot) (tied.rings (Children slot)) (Children slot) (tied.ringed.leads (Children slot) refl) other in
          let a = aged nodes resources tied.noted (n (Children slot)) (Children slot) (tied.ringed.members (Children slot) (n (Children slot)) i) refl in
          absurd (none a.slot a.is)
    ]

    pub first_child_at : (key : Key) → IsSome (find nodes key) → (slot : ℕ) → n (Children key.slot) ≡ Sibling slot → IsChildAt nodes key slot
    first_child_at key there slot at =
        let other : n (Children key.slot) ≢ Children key.slot =
        λ same. true≢false (sym (tells.self (Sibling slot)) ∙ ap (is_place (Sibling slot)) (sym at ∙ same)) in
        let i = first_among tells n p (Children key.slot) (tied.rings (Children key.slot)) (Children key.slot)
        (tied.ringed.leads (Children key.slot) refl) other in
        child_at key there slot (ap (home_of nodes resources tied.noted) (sym at) ∙ tied.ringed.members (Children key.slot) (n (Children key.slot)) i)

    -- and so is one that leads to no resource
    pub none_held : (slot : ℕ) → ((j : ℕ) → n (Held slot) ≢ Stored j) → n (Held slot) ≡ Held slot
    none_held slot none = elim (cases_place tells (n (Held slot)) (Held slot)) [
      | inl same ↦ same
      | inr other ↦
          let i = first_among tells n p (Held slot) (tied.rings (Held slot)) (Held slot) (tied.ringed.leads (Held slot) refl) other in
          absurd (none (slot_of (n (Held slot))) (held_is tied.noted slot (n (Held slot)) (tied.ringed.members (Held slot) (n (Held slot)) i)))
    ]

    -- no node has a childless one for its parent
    pub no_above : (key : Key) → n (Children key.slot) ≡ Children key.slot → (k : Key) (node : Node) → find nodes k ≡ Some node → node.above ≡ Some key → ⊥
    no_above key loop k node found above =
        nothing_on n p (home_of nodes resources tied.noted) tied.rings tied.ringed (Children key.slot) refl loop (Sibling k.slot)
        (ap (option_and_then (λ e. sibling_ring e.value)) (entry_found nodes k node found) ∙
        ap (λ o. option_map_or (λ z. Some (Children z.slot)) o (cond (is_root node.made) (Some Roots) None)) above)
