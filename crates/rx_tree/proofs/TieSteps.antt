-- How a tree stays tied when places join and leave rings and when records come, change and go.
use Rattle.rx_tree.proofs.Common.{◌≡◌, ◌≢◌, ℕ, ◌<◌, ◌==◌, ◌&&◌, cond, Bool, true, false, List, [], ◌∷◌, ◌++◌, Option, Some, None, is_some, refl, sym, ap, ◌∙◌}
use Rattle.rx_tree.proofs.Common.{subst, inl, inr, arith, true≢false, not, false≢true, false_from_ne_true, nat_tests, Slots, entry_at, Place, Roots, Due}
use Rattle.rx_tree.proofs.Common.{Noted, Node, Stowed, is_among, without, Steps, AreRings, Joins, Leaves, is_place, places, tells, among_here, among_there}
use Rattle.rx_tree.proofs.Common.{among_cons, among_without, put_ring, by_ring, rings_joined, rings_left, key_on, Rises, is_by_age, home_of, IsTiedAt}
use Rattle.rx_slots.proofs.Laws.Places.{among_append}

-- rings stay what they are where each place has the home that it had
pub rings_same : (n p : Steps Place) (home home' : Place → Option Place) (rings : Place → List Place) → AreRings places n p home rings →
    ((q : Place) → home' q ≡ home q) → AreRings places n p home' rings
rings_same n p home home' rings R same = let e : home ≡ home' = (λ i q. sym (same q) i) in subst (λ h. AreRings places n p h rings) e R

-- and where each place has the links that it had
abbrev pub tied_links : {T : Type 0} {n : Steps Place} (p n' p' : Steps Place) (nodes : Slots Node) (resources : Slots (Stowed T)) →
    ((q : Place) → n' q ≡ n q) → ((q : Place) → p' q ≡ p q) → IsTiedAt n p nodes resources → IsTiedAt n' p' nodes resources
tied_links {n} p n' p' nodes resources next previous tied =
    record {
      rings = tied.rings;
      noted = tied.noted;
      ringed = (let e : n ≡ n' = (λ i q. sym (next q) i) in let f : p ≡ p' = (λ i q. sym (previous q) i) in
          subst (λ m. AreRings places m p' (home_of nodes resources tied.noted) tied.rings) e
          (subst (λ m. AreRings places n m (home_of nodes resources tied.noted) tied.rings) f tied.ringed));
      rises = tied.rises;
      sound = tied.sound;
      resources_apart = tied.resources_apart;
    }

-- the ages of the places of a ring
pub rises_without : (nodes : Slots Node) (x : Place) (ps : List Place) → Rises nodes ps → Rises nodes (without places x ps)
rises_without nodes x [] r = tt
rises_without nodes x (p ∷ ps) r = of (is_place x p) (rises_without nodes x ps r.1) where
  of : (b : Bool) → Rises nodes (without places x ps) → Rises nodes (cond (not b) (p ∷ without places x ps) (without places x ps))
  of true again = again
  of false again = (λ q i. r.0 q (among_without tells x q ps i).0, again)

pub rises_last : (nodes : Slots Node) (x : Place) (ps : List Place) → Rises nodes ps →
    ((q : Place) → is_among places q ps ≡ true → (key_on nodes q).number < (key_on nodes x).number) → Rises nodes (ps ++ x ∷ [])
rises_last nodes x [] r less = (λ q i. absurd (false≢true i), tt)
rises_last nodes x (p ∷ ps) r less = (
  λ q i. elim (among_append tells q ps (x ∷ []) i) [
    | inl l ↦ r.0 q l
    | inr last ↦ elim (among_cons tells q x [] last) [
      | inl same ↦ subst (λ z. (key_on nodes p).number < (key_on nodes z).number) (sym same) (less p (among_here tells p ps))
      | inr rest ↦ absurd (false≢true rest)
    ]
  ],
  rises_last nodes x ps r.1 (λ q i. less q (among_there tells q p ps i)),
)

pub rises_same : (old new : Slots Node) (ps : List Place) → ((q : Place) → is_among places q ps ≡ true → (key_on new q).number ≡ (key_on old q).number) →
    Rises old ps → Rises new ps
rises_same old new [] same r = tt
rises_same old new (p ∷ ps) same r = (
  λ q i. let a = same p (among_here tells p ps) in let b = same q (among_there tells q p ps i) in let c = r.0 q i in rw (a, b) c,
  rises_same old new ps (λ q i. same q (among_there tells q p ps i)) r.1,
)

module _ {T : Type 0} (nodes : Slots Node) (resources : Slots (Stowed T)) where
  -- a noted node is taken off the chain
  module _ (noted : ℕ → Bool) (slot : ℕ) where
    abbrev pub unnoted : ℕ → Bool
    unnoted j = noted j && not (slot == j)

    pub unnoted_here : home_of nodes resources unnoted (Noted slot) ≡ None
    unnoted_here = ap (λ b. cond (b && is_some (entry_at nodes slot)) (Some Due) None) (of (noted slot) (slot == slot) (grind (arith, nat_tests))) where
      of : (a b : Bool) → b ≡ true → (a && not b) ≡ false
      of true true e = refl
      of false true e = refl
      of a false e = absurd (false≢true e)

    pub unnoted_others : (q : Place) → Noted slot ≢ q → home_of nodes resources unnoted q ≡ home_of nodes resources noted q
    unnoted_others (Noted j) apart = ap (λ b. cond (b && is_some (entry_at nodes j)) (Some Due) None)
        (of (noted j) (slot == j) (false_from_ne_true (slot == j) (λ e. let s : slot ≡ j = grind (arith, nat_tests, e) in apart (ap (λ k. Noted k) s)))) where
          of : (a b : Bool) → b ≡ false → (a && not b) ≡ a
          of true false e = refl
          of false false e = refl
          of a true e = absurd (true≢false e)
    unnoted_others Roots apart = refl
    unnoted_others _ apart = refl

  abbrev pub tied_unnoted : (n p n' p' : Steps Place) (slot : ℕ) → IsTiedAt n p nodes resources → Leaves places n p n' p' (Noted slot) →
      IsTiedAt n' p' nodes resources
  tied_unnoted n p n' p' slot tied leaves = record {
    rings = λ q. without places (Noted slot) (tied.rings q);
    noted = unnoted tied.noted slot;
    ringed = rings_left tells n p n' p' (home_of nodes resources tied.noted)
        (home_of nodes resources (unnoted tied.noted slot)) tied.rings tied.ringed (Noted slot)
        leaves refl (unnoted_here tied.noted slot) (unnoted_others tied.noted slot);
    rises = λ e age. rises_without nodes (Noted slot) (tied.rings e) (tied.rises e age);
    sound = tied.sound;
    resources_apart = tied.resources_apart;
  }

  -- a node is put on the chain
  module _ (noted : ℕ → Bool) (slot : ℕ) where
    abbrev pub with_noted : ℕ → Bool
    with_noted j = cond (slot == j) true (noted j)

    pub noted_here : is_some (entry_at nodes slot) ≡ true → home_of nodes resources with_noted (Noted slot) ≡ Some Due
    noted_here there = let here : (slot == slot) ≡ true =
        grind (arith, nat_tests) in ap (λ b. cond (cond b true (noted slot) && is_some (entry_at nodes slot)) (Some Due) None) here ∙
        ap (λ b. cond b (Some Due) None) there

    pub noted_others : (q : Place) → Noted slot ≢ q → home_of nodes resources with_noted q ≡ home_of nodes resources noted q
    noted_others (Noted j) apart = ap (λ b. cond (cond b true (noted j) && is_some (entry_at nodes j)) (Some Due) None)
        (false_from_ne_true (slot == j) (λ e. let s : slot ≡ j = grind (arith, nat_tests, e) in apart (ap (λ k. Noted k) s)))
    noted_others _ apart = refl

  abbrev pub tied_noted : {n : Steps Place} (p n' p' : Steps Place) (slot : ℕ) (tied : IsTiedAt n p nodes resources) →
      home_of nodes resources tied.noted (Noted slot) ≡ None →
      is_some (entry_at nodes slot) ≡ true → Joins places n p n' p' Due (Noted slot) → IsTiedAt n' p' nodes resources
  tied_noted {n} p n' p' slot tied off there joins = record {
    rings = put_ring places Due (tied.rings Due ++ Noted slot ∷ []) tied.rings;
    noted = with_noted tied.noted slot;
    ringed = rings_joined tells n p n' p' (home_of nodes resources tied.noted) (home_of nodes resources (with_noted tied.noted slot)) tied.rings tied.ringed Due
        (Noted slot) joins refl refl off (noted_here tied.noted slot there) (noted_others tied.noted slot);
    rises = λ e. by_ring tells (λ q ps. is_by_age q ≡ true → Rises nodes ps) Due (tied.rings Due ++ Noted slot ∷ []) tied.rings (λ age. absurd (false≢true age))
        (λ q apart age. tied.rises q age) e;
    sound = tied.sound;
    resources_apart = tied.resources_apart;
  }
