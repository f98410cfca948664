-- The oldest of a ring of siblings, and the next younger of each.
use Rattle.rx_tree.proofs.Common.{◌≡◌, ◌≢◌, ℕ, ◌+◌, ◌<◌, ◌≤◌, cond, Bool, true, false, List, [], ◌∷◌, Option, Some, None, option_map, is_some, IsSome, IfSome}
use Rattle.rx_tree.proofs.Common.{IfNone, refl, sym, ap, subst, ◌∙◌, inl, inr, ◌⊎◌, arith, true≢false, option_map_or, option_and_then, false≢true, Event}
use Rattle.rx_tree.proofs.Common.{is_root, parent_named, Key, Slots, key_at, find, Place, Roots, Children, Sibling, Node, Stowed, is_among, Steps, Leads}
use Rattle.rx_tree.proofs.Common.{is_place, is_end, slot_of, places, tells, among_here, among_there, among_cons, some_same, key_on, Rises, sibling_ring}
use Rattle.rx_tree.proofs.Common.{is_by_age, home_of, IsTiedAt, IsChild, IsRoot, IsFirst, HasNone, parent_number, some_of, entry_found, one_key, found_entry}
use Rattle.rx_tree.proofs.Laws.Parents.{named_parent, child_found, parent_key}
use Rattle.rx_tree.proofs.Chain.{key_on_found}
use Rattle.rx_tree.proofs.TieRecords.{aged}
use Rattle.std.proofs.Common.{rules}

-- none of these places is older
pub record IsOldest (nodes : Slots Node) (ps : List Place) (x : Place) : Type 0 where
  pub among : is_among places x ps ≡ true
  pub oldest : (q : Place) → is_among places q ps ≡ true → (key_on nodes x).number ≤ (key_on nodes q).number

-- a ring by age begins with the oldest
pub first_oldest : (nodes : Slots Node) (n p : Steps Place) (a : Place) (ps : List Place) (e : Place) → Leads n p a ps e → Rises nodes ps →
    ((n a ≡ e) × (ps ≡ [])) ⊎ IsOldest nodes ps (n a)
first_oldest nodes n p a [] e h up = inl (h.to, refl)
first_oldest nodes n p a (x ∷ ps) e h up = inr (subst (λ z. IsOldest nodes (x ∷ ps) z) (sym h.0.to) (record {
  among = among_here tells x ps;
  oldest = λ q i. elim (among_cons tells q x ps i) [
    | inl same ↦ let at : (key_on nodes q).number ≡ (key_on nodes x).number = ap (λ z. (key_on nodes z).number) same in omega (arith, at)
    | inr rest ↦ let less = up.0 q rest in omega (arith, less)
  ];
}))

-- none of these places is younger
pub record IsYoungest (nodes : Slots Node) (ps : List Place) (x : Place) : Type 0 where
  pub youngest : (q : Place) → is_among places q ps ≡ true → (key_on nodes q).number ≤ (key_on nodes x).number

-- of these places that are younger than one, the oldest
pub record IsNextYounger (nodes : Slots Node) (ps : List Place) (x y : Place) : Type 0 where
  pub among : is_among places y ps ≡ true
  pub younger : (key_on nodes x).number < (key_on nodes y).number
  pub least : (q : Place) → is_among places q ps ≡ true → (key_on nodes x).number < (key_on nodes q).number → (key_on nodes y).number ≤ (key_on nodes q).number

-- a ring by age goes on with the next younger
pub next_younger : (nodes : Slots Node) (n p : Steps Place) (a : Place) {ps : List Place} {e : Place} (x : Place) → Leads n p a ps e → Rises nodes ps →
    is_among places x ps ≡ true → ((n x ≡ e) × IsYoungest nodes ps x) ⊎ IsNextYounger nodes ps x (n x)
next_younger nodes n p a {ps = []} x h up i = absurd (false≢true i)
next_younger nodes n p a {ps = y ∷ ps} {e} x h up i = elim (among_cons tells x y ps i) [
  | inl same ↦ subst (λ z. ((n z ≡ e) × IsYoungest nodes (y ∷ ps) z) ⊎ IsNextYounger nodes (y ∷ ps) z (n z)) (sym same)
      (here (first_oldest nodes n p y ps e h.1 up.1))
  | inr rest ↦ there rest (next_younger nodes n p y x h.1 up.1 rest)
] where
  number_of : {x y : Place} → x ≡ y → (key_on nodes x).number ≡ (key_on nodes y).number
  number_of same = ap (λ z. (key_on nodes z).number) same

  here : ((n y ≡ e) × (ps ≡ [])) ⊎ IsOldest nodes ps (n y) → ((n y ≡ e) × IsYoungest nodes (y ∷ ps) y) ⊎ IsNextYounger nodes (y ∷ ps) y (n y)
  here (inl none) = inl (
    none.0,
    record {
      youngest = λ q j. elim (among_cons tells q y ps j) [
        | inl same ↦ let at = number_of same in omega (arith, at)
        | inr rest ↦ absurd (false≢true (sym (ap (is_among places q) none.1) ∙ rest))
      ];
    },
  )
  here (inr first) = inr (record {
    among = among_there tells (n y) y ps first.among;
    younger = up.0 (n y) first.among;
    least = λ q j less. elim (among_cons tells q y ps j) [
      | inl same ↦ let at = number_of same in absurd (omega (arith, at, less))
      | inr rest ↦ first.oldest q rest
    ];
  })

  there : is_among places x ps ≡ true → ((n x ≡ e) × IsYoungest nodes ps x) ⊎ IsNextYounger nodes ps x (n x) →
      ((n x ≡ e) × IsYoungest nodes (y ∷ ps) x) ⊎ IsNextYounger nodes (y ∷ ps) x (n x)
  there rest (inl last) = inl (
    last.0,
    record {
      youngest = λ q j. elim (among_cons tells q y ps j) [
        | inl same ↦ let at = number_of same in let less = up.0 x rest in omega (arith, at, less)
        | inr more ↦ last.1.youngest q more
      ];
    },
  )
  there rest (inr next) = inr (record {
    among = among_there tells (n x) y ps next.among;
    younger = next.younger;
    least = λ q j less. elim (among_cons tells q y ps j) [
      | inl same ↦ let at = number_of same in let before = up.0 x rest in absurd (omega (arith, at, less, before))
      | inr more ↦ next.least q more less
    ];
  })

some_key : (a b : Key) → Some a ≡ Some b → a ≡ b
some_key a b e = cc

root_named : (made : Event) → is_root made ≡ true → parent_named made ≡ None
root_named x0 root = search (rules, false≢true)

-- the nodes of a ring are those that are so
pub record IsRingOf (nodes : Slots Node) (IsSo : Key → Type 0) (ps : List Place) : Type 0 where
  pub enters : (k : Key) → IsSo k → is_among places (Sibling k.slot) ps ≡ true
  pub keys : (k : Key) → IsSo k → key_on nodes (Sibling k.slot) ≡ k
  pub so : (q : Place) → is_among places q ps ≡ true → IsSo (key_on nodes q)
  pub is : (q : Place) → is_among places q ps ≡ true → q ≡ Sibling (slot_of q)
  pub at : (q : Place) → is_among places q ps ≡ true → key_at nodes (slot_of q) ≡ Some (key_on nodes q)

-- a place of a node's that stands on this ring
pub record IsSiblingOn (nodes : Slots Node) (e q : Place) : Type 0 where
  pub node : Node
  pub is : q ≡ Sibling (slot_of q)
  pub found : find nodes (key_on nodes q) ≡ Some node
  pub ring : sibling_ring node ≡ Some e
  pub at : key_at nodes (slot_of q) ≡ Some (key_on nodes q)

module _ {T : Type 0} (nodes : Slots Node) (resources : Slots (Stowed T)) (n p : Steps Place) (tied : IsTiedAt n p nodes resources) where
  pub sibling_on : (e q : Place) → is_by_age e ≡ true → is_among places q (tied.rings e) ≡ true → IsSiblingOn nodes e q
  sibling_on e q age i =
      let home = tied.ringed.members e q i in
      let a = aged nodes resources tied.noted q e home age in
      let number : (key_on nodes (Sibling a.slot)).number ≡ a.entry.number = ap (λ o. option_map_or (λ m. m) (option_map (λ x. x.number) o) 0) a.at in
      subst (λ z. IsSiblingOn nodes e z) (sym a.is) (record {
        node = a.entry.value;
        is = refl;
        found = found_entry nodes (key_on nodes (Sibling a.slot)) a.entry.value (a.at ∙ (λ j. Some (record { number = sym number j; value = a.entry.value })));
        ring = sym (ap (option_and_then (λ x. sibling_ring x.value)) a.at) ∙ subst (λ z. home_of nodes resources tied.noted z ≡ Some e) a.is home;
        at = ap (option_map (λ x. let k : Key = record { slot = a.slot; number = x.number } in k)) a.at ∙
            (λ j. Some (record { slot = a.slot; number = sym number j }));
      })

  pub on_sibling : (e : Place) (k : Key) (node : Node) → find nodes k ≡ Some node → sibling_ring node ≡ Some e →
      is_among places (Sibling k.slot) (tied.rings e) ≡ true
  on_sibling e k node found ring = search (rules, entry_found, node, found, ring)

  -- the ring that a child stands on
  child_ring : (parent child : Key) (node : Node) → IsChild nodes parent child → find nodes child ≡ Some node → sibling_ring node ≡ Some (Children parent.slot)
  child_ring parent child node is found = ap (λ o. option_map_or (λ key. Some (Children key.slot)) o (cond (is_root node.made) (Some Roots) None))
      (parent_key nodes parent child node.above tied.sound is (named_parent nodes child node found tied.sound) (tied.sound.placed child node found).there)

  ring_child : (parent child : Key) (node : Node) → IsSome (find nodes parent) → find nodes child ≡ Some node →
      sibling_ring node ≡ Some (Children parent.slot) → IsChild nodes parent child
  ring_child parent child node there found ring = of node.above refl ring where
    root : (b : Bool) → cond b (Some Roots) None ≡ Some (Children parent.slot) → IsChild nodes parent child
    root true e = absurd (true≢false (ap (is_place Roots) (some_same Roots (Children parent.slot) e)))
    root false e = absurd (true≢false (ap is_some (sym e)))

    of : (o : Option Key) → node.above ≡ o → option_map_or (λ key. Some (Children key.slot)) o (cond (is_root node.made) (Some Roots) None) ≡ Some
        (Children parent.slot) → IsChild nodes parent child
    of None above e = root (is_root node.made) e
    of (Some k) above e =
        let slot : k.slot ≡ parent.slot = ap slot_of (some_same (Children k.slot) (Children parent.slot) e) in
        let open_above : IsSome (find nodes k) = subst (λ o. IfSome o (λ key. IsSome (find nodes key))) above (tied.sound.placed child node found).there in
        let x = some_of (find nodes k) open_above in
        let y = some_of (find nodes parent) there in
        let same : k ≡ parent = (one_key nodes k parent x.0 y.0 slot x.1 y.1).0 in
        record {
          there = there;
          named = sym (named_parent nodes child node found tied.sound) ∙ ap (option_map (λ key. key.number)) above ∙ ap (λ key. Some key.number) same;
        }

  -- the ring of the children of an open node
  pub children_ring : (key : Key) → IsSome (find nodes key) → IsRingOf nodes (IsChild nodes key) (tied.rings (Children key.slot))
  children_ring key there = record {
    enters = λ k is. let x = some_of (find nodes k) (child_found nodes k key.number is.named) in
        on_sibling (Children key.slot) k x.0 x.1 (child_ring key k x.0 is x.1);
    keys = λ k is. let x = some_of (find nodes k) (child_found nodes k key.number is.named) in key_on_found nodes k x.0 (Sibling k.slot) refl x.1;
    so = λ q i. let s = sibling_on (Children key.slot) q refl i in ring_child key (key_on nodes q) s.node there s.found s.ring;
    is = λ q i. (sibling_on (Children key.slot) q refl i).is;
    at = λ q i. (sibling_on (Children key.slot) q refl i).at;
  }

  -- what comes first on a ring is the oldest of its nodes
  module _ (IsSo : Key → Type 0) (e : Place) (ends : is_end e ≡ true) (age : is_by_age e ≡ true) (ring : IsRingOf nodes IsSo (tied.rings e)) where
    first_is : (slot : ℕ) → n e ≡ Sibling slot → IsOldest nodes (tied.rings e) (Sibling slot)
    first_is slot at = elim (first_oldest nodes n p e (tied.rings e) e (tied.ringed.leads e ends) (tied.rises e age)) [
      | inl none ↦ absurd (false≢true (ap is_end (sym at ∙ none.0) ∙ ends))
      | inr some ↦ subst (λ z. IsOldest nodes (tied.rings e) z) at some
    ]

    pub first_found : (slot : ℕ) → n e ≡ Sibling slot → key_at nodes slot ≡ Some (key_on nodes (Sibling slot))
    first_found slot at = ring.at (Sibling slot) (first_is slot at).among

    pub first_some : (slot : ℕ) → n e ≡ Sibling slot → IfSome (key_at nodes slot) (IsFirst IsSo 0)
    first_some slot at = subst (λ o. IfSome o (IsFirst IsSo 0)) (sym (first_found slot at)) (record {
      one = ring.so (Sibling slot) (first_is slot at).among;
      at_least = omega arith;
      least = λ other is _. let less =
          (first_is slot at).oldest (Sibling other.slot) (ring.enters other is) in let same : (key_on nodes (Sibling other.slot)).number ≡ other.number =
          ap (λ k. k.number) (ring.keys other is) in omega (arith, less, same);
    })

    pub first_there : (slot : ℕ) → n e ≡ Sibling slot → IfNone (key_at nodes slot) (HasNone IsSo 0)
    first_there slot at = subst (λ o. IfNone o (HasNone IsSo 0)) (sym (first_found slot at)) tt

    pub first_none : ((slot : ℕ) → n e ≢ Sibling slot) → HasNone IsSo 0
    first_none other k is = elim (first_oldest nodes n p e (tied.rings e) e (tied.ringed.leads e ends) (tied.rises e age)) [
      | inl none ↦ absurd (false≢true (sym (ap (is_among places (Sibling k.slot)) none.1) ∙ ring.enters k is))
      | inr some ↦ absurd (other (slot_of (n e)) (ring.is (n e) some.among))
    ]

    -- what comes after one of them is the next younger
    next_is : (key : Key) → IsSo key → (slot : ℕ) → n (Sibling key.slot) ≡ Sibling slot → IsNextYounger nodes (tied.rings e) (Sibling key.slot) (Sibling slot)
    next_is key is slot at = elim (next_younger nodes n p e (Sibling key.slot) (tied.ringed.leads e ends) (tied.rises e age) (ring.enters key is)) [
      | inl last ↦ absurd (false≢true (ap is_end (sym at ∙ last.0) ∙ ends))
      | inr next ↦ subst (λ z. IsNextYounger nodes (tied.rings e) (Sibling key.slot) z) at next
    ]

    pub next_found : (key : Key) → IsSo key → (slot : ℕ) → n (Sibling key.slot) ≡ Sibling slot → key_at nodes slot ≡ Some (key_on nodes (Sibling slot))
    next_found key is slot at = ring.at (Sibling slot) (next_is key is slot at).among

    pub next_first : (key : Key) → IsSo key → (slot : ℕ) → n (Sibling key.slot) ≡ Sibling slot → IsFirst IsSo (key.number + 1) (key_on nodes (Sibling slot))
    next_first key is slot at =
        let next = next_is key is slot at in
        let own : (key_on nodes (Sibling key.slot)).number ≡ key.number = ap (λ k. k.number) (ring.keys key is) in
        record {
          one = ring.so (Sibling slot) next.among;
          at_least = let less = next.younger in omega (arith, less, own);
          least = λ other so from. let same : (key_on nodes (Sibling other.slot)).number ≡ other.number =
              ap (λ k. k.number) (ring.keys other so) in let less = next.least (Sibling other.slot) (ring.enters other so) (omega (arith, own, same, from)) in
              omega (arith, less, same);
        }

    pub next_none : (key : Key) → IsSo key → ((slot : ℕ) → n (Sibling key.slot) ≢ Sibling slot) → HasNone IsSo (key.number + 1)
    next_none key is other k so = elim (next_younger nodes n p e (Sibling key.slot) (tied.ringed.leads e ends) (tied.rises e age) (ring.enters key is)) [
      | inl last ↦
          let own : (key_on nodes (Sibling key.slot)).number ≡ key.number = ap (λ k. k.number) (ring.keys key is) in
          let same : (key_on nodes (Sibling k.slot)).number ≡ k.number = ap (λ k. k.number) (ring.keys k so) in
          let less = last.1.youngest (Sibling k.slot) (ring.enters k so) in
          omega (arith, own, same, less)
      | inr next ↦ absurd (other (slot_of (n (Sibling key.slot))) (ring.is (n (Sibling key.slot)) next.among))
    ]

  -- the next younger child of the same node
  module _ (key : Key) where
    parent_ring : (parent : Key) → IsChild nodes parent key → IsRingOf nodes (IsChild nodes parent) (tied.rings (Children parent.slot))
    parent_ring parent is = children_ring parent is.there

    pub sibling_some : (slot : ℕ) → n (Sibling key.slot) ≡ Sibling slot → IfSome (key_at nodes slot)
        (λ next. (parent : Key) → IsChild nodes parent key → IsFirst (IsChild nodes parent) (key.number + 1) next)
    sibling_some slot at = of (key_at nodes slot) refl where
      of : (o : Option Key) → key_at nodes slot ≡ o → IfSome o
          (λ next. (parent : Key) → IsChild nodes parent key → IsFirst (IsChild nodes parent) (key.number + 1) next)
      of None read = tt
      of (Some next) read = λ parent is.
          let same : key_on nodes (Sibling slot) ≡ next = some_key (key_on nodes (Sibling slot)) next
          (sym (next_found (IsChild nodes parent) (Children parent.slot) refl refl (parent_ring parent is) key is slot at) ∙ read) in
          subst (λ k. IsFirst (IsChild nodes parent) (key.number + 1) k) same
          (next_first (IsChild nodes parent) (Children parent.slot) refl refl (parent_ring parent is) key is slot at)

    pub sibling_there : (slot : ℕ) → n (Sibling key.slot) ≡ Sibling slot → IfNone (key_at nodes slot)
        ((parent : Key) → IsChild nodes parent key → HasNone (IsChild nodes parent) (key.number + 1))
    sibling_there slot at = of (key_at nodes slot) refl where
      of : (o : Option Key) → key_at nodes slot ≡ o → IfNone o ((parent : Key) → IsChild nodes parent key → HasNone (IsChild nodes parent) (key.number + 1))
      of None read = λ parent is. absurd
          (true≢false (sym (ap is_some (next_found (IsChild nodes parent) (Children parent.slot) refl refl (parent_ring parent is) key is slot at)) ∙
          ap is_some read))
      of (Some next) read = tt

    pub sibling_none : ((slot : ℕ) → n (Sibling key.slot) ≢ Sibling slot) → (parent : Key) → IsChild nodes parent key →
        HasNone (IsChild nodes parent) (key.number + 1)
    sibling_none other parent is = next_none (IsChild nodes parent) (Children parent.slot) refl refl (parent_ring parent is) key is other

    -- a node with a key above is a child, and one with none is not
    pub named_above_one : (node : Node) (parent : Key) → find nodes key ≡ Some node → node.above ≡ Some parent → parent_number nodes key ≡ None → ⊥
    named_above_one node parent found above none =
        true≢false (ap is_some (ap (option_map (λ k. k.number)) (sym above) ∙ named_parent nodes key node found tied.sound ∙ none))

    pub named_above_none : (node : Node) (parent : Key) → find nodes key ≡ Some node → node.above ≡ None → IsChild nodes parent key → ⊥
    named_above_none node parent found above is =
        true≢false (ap is_some (sym is.named ∙ sym (named_parent nodes key node found tied.sound) ∙ ap (option_map (λ k. k.number)) above))

  -- a root names no node above it, and stands on the ring of the roots
  root_found : (key : Key) → IsRoot nodes key → (node : Node) × (find nodes key ≡ Some node) × (is_root node.made ≡ true)
  root_found key is = search (rules, is, false≢true)

  root_ring : (key : Key) (node : Node) → find nodes key ≡ Some node → is_root node.made ≡ true → sibling_ring node ≡ Some Roots
  root_ring key node found root = of node.above (sym (tied.sound.placed key node found).named ∙ root_named node.made root) where
    of : (o : Option Key) → option_map (λ k. k.number) o ≡ None → option_map_or (λ k. Some (Children k.slot)) o (cond (is_root node.made) (Some Roots) None) ≡
        Some Roots
    of None e = ap (λ b. cond b (Some Roots) None) root
    of (Some k) e = absurd (true≢false (ap is_some e))

  ring_root : (key : Key) (node : Node) → find nodes key ≡ Some node → sibling_ring node ≡ Some Roots → IsRoot nodes key
  ring_root key node found ring = search (rules, found, ring, true≢false, false≢true, some_same)

  pub roots_ring : IsRingOf nodes (IsRoot nodes) (tied.rings Roots)
  roots_ring = record {
    enters = λ k is. let x = root_found k is in on_sibling Roots k x.0 x.1 (root_ring k x.0 x.1 x.2);
    keys = λ k is. let x = root_found k is in key_on_found nodes k x.0 (Sibling k.slot) refl x.1;
    so = λ q i. let s = sibling_on Roots q refl i in ring_root (key_on nodes q) s.node s.found s.ring;
    is = λ q i. (sibling_on Roots q refl i).is;
    at = λ q i. (sibling_on Roots q refl i).at;
  }
