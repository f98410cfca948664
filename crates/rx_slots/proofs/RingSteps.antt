-- What joining, leaving and growing leave of tied rings.
use Rattle.rx_slots.proofs.Common.{◌≡◌, ◌≢◌, ℕ, zero, suc, ◌<◌, ◌≤◌, ◌+◌, ◌==◌, ◌++◌, cond, map, true, false, List, [], ◌∷◌, length, get_or, Option, Some, ap}
use Rattle.rx_slots.proofs.Common.{None, refl, sym, subst, ◌∙◌, inl, inr, arith, zero-add, length-append, range_with_len, cases_eq, nat_tests, Link, Place}
use Rattle.rx_slots.proofs.Common.{End, Member, list_at, is_in, take_out, without, AreRings, Joins, Leaves, number_of, is_place, places, alone, link_in}
use Rattle.rx_slots.proofs.Common.{next_in, previous_in, within, IsTiedIn, lists_in}
use Rattle.std.proofs.lemmas.List.FromFn.{map-range_with_len_more}
use Rattle.rx_slots.proofs.PlacesApart.{tells}
use Rattle.rx_slots.proofs.Laws.Places.{place_apart, cases_place}
use Rattle.rx_slots.proofs.Laws.Rings.{some_same, some_none, put_ring, rings_joined, rings_left}
use Rattle.rx_slots.proofs.RingsShowLists.{seen, of_lt, free_home, out_ring, end_ring, ring_members, rings_seen, past_empty}
use Rattle.std.proofs.Common.{rules}

module _ (ends members ends' members' : List Link) (same_ends : length ends' ≡ length ends) (same_members : length members' ≡ length members)
    (tied : IsTiedIn ends members) where
  pub there_still : (p : Place) → within (length ends) (length members) p ≡ true → within (length ends') (length members') p ≡ true
  there_still p there = (λ i. within (same_ends i) (same_members i) p) ∙ there

  module _ (room room' e m : ℕ) (J : Joins places (next_in ends members) (previous_in ends members) (next_in ends' members')
      (previous_in ends' members') (End e) (Member m))
      (inside : e < length ends) (below : m < length members) (free : (k : ℕ) → is_in m (list_at (lists_in ends members room) k) ≡ false) where
    abbrev pub home_joined : Place → Option Place
    home_joined q = cond (is_place (Member m) q) (Some (End e)) (tied.home q)

    pub home_here : home_joined (Member m) ≡ Some (End e)
    home_here = ap (λ b. cond b (Some (End e)) (tied.home (Member m))) (tells.self (Member m))

    pub home_other : (q : Place) → Member m ≢ q → home_joined q ≡ tied.home q
    home_other q apart = ap (λ b. cond b (Some (End e)) (tied.home q)) (place_apart tells (Member m) q apart)

    abbrev pub tied_joined : IsTiedIn ends' members'
    tied_joined = record {
      rings = put_ring places (End e) (tied.rings (End e) ++ Member m ∷ []) tied.rings;
      home = home_joined;
      ringed = rings_joined tells (next_in ends members) (previous_in ends members) (next_in ends' members') (previous_in ends' members') tied.home home_joined
          tied.rings tied.ringed (End e) (Member m) J refl refl (free_home ends members room tied m free) home_here home_other;
      there = λ f p home. elim (cases_place tells (Member m) p) [
        | inl same ↦
            let f_is : End e ≡ f = some_same (End e) f (sym home_here ∙ ap home_joined same ∙ home) in (
              subst (λ z. within (length ends') (length members') z ≡ true) f_is (there_still (End e) (of_lt e (length ends) inside)),
              subst (λ z. within (length ends') (length members') z ≡ true) same (there_still (Member m) (of_lt m (length members) below)),
            )
        | inr apart ↦ let h = tied.there f p (sym (home_other p apart) ∙ home) in (there_still f h.0, there_still p h.1)
      ];
    }

    pub lists_joined : (k : ℕ) → list_at (lists_in ends' members' room') k ≡
        cond (e == k) (list_at (lists_in ends members room) k ++ m ∷ []) (list_at (lists_in ends members room) k)
    lists_joined k = seen ends' members' room' tied_joined k ∙ elim (cases_eq e k) [
      | inl same ↦
          let here : (e == k) ≡ true = grind (arith, nat_tests, same) in
          let place : is_place (End e) (End k) ≡ true = here in
          ap (λ b. map number_of (cond b (tied.rings (End e) ++ Member m ∷ []) (tied.rings (End k)))) place ∙ end_ring (tied.rings (End e)) (Member m) ∙
          ap (λ (xs : List ℕ). xs ++ m ∷ []) (sym (seen ends members room tied e) ∙ ap (list_at (lists_in ends members room)) same) ∙
          ap (λ b. cond b (list_at (lists_in ends members room) k ++ m ∷ []) (list_at (lists_in ends members room) k)) (sym here)
      | inr apart ↦
          let other : (e == k) ≡ false = grind (arith, nat_tests, apart) in
          let place : is_place (End e) (End k) ≡ false = other in
          ap (λ b. map number_of (cond b (tied.rings (End e) ++ Member m ∷ []) (tied.rings (End k)))) place ∙ sym (seen ends members room tied k) ∙
          ap (λ b. cond b (list_at (lists_in ends members room) k ++ m ∷ []) (list_at (lists_in ends members room) k)) (sym other)
    ]

  module _ (room room' m : ℕ) (L : Leaves places (next_in ends members) (previous_in ends members) (next_in ends' members')
      (previous_in ends' members') (Member m)) where
    abbrev pub home_left : Place → Option Place
    home_left q = cond (is_place (Member m) q) None (tied.home q)

    pub left_here : home_left (Member m) ≡ None
    left_here = ap (λ b. cond b None (tied.home (Member m))) (tells.self (Member m))

    pub left_other : (q : Place) → Member m ≢ q → home_left q ≡ tied.home q
    left_other q apart = ap (λ b. cond b None (tied.home q)) (place_apart tells (Member m) q apart)

    abbrev pub tied_left : IsTiedIn ends' members'
    tied_left = record {
      rings = λ q. without places (Member m) (tied.rings q);
      home = home_left;
      ringed = rings_left tells (next_in ends members) (previous_in ends members) (next_in ends' members') (previous_in ends' members') tied.home home_left
          tied.rings tied.ringed (Member m) L refl left_here left_other;
      there = λ f p home. elim (cases_place tells (Member m) p) [
        | inl same ↦ absurd (some_none (home_left p) f home (ap home_left (sym same) ∙ left_here))
        | inr apart ↦ let h = tied.there f p (sym (left_other p apart) ∙ home) in (there_still f h.0, there_still p h.1)
      ];
    }

    pub lists_left : (k : ℕ) → list_at (lists_in ends' members' room') k ≡ take_out m (list_at (lists_in ends members room) k)
    lists_left k = seen ends' members' room' tied_left k ∙ out_ring m (tied.rings (End k)) (ring_members ends members room tied (End k)) ∙
        ap (take_out m) (sym (seen ends members room tied k))

-- growth ------------------------------------------------------------------------------------------

-- one more value at the end of a list, the same as was read past it
read_grown : {X : Type 0} (f : ℕ → X) (xs : List X) (i : ℕ) → get_or (xs ++ f (length xs) ∷ []) i (f i) ≡ get_or xs i (f i)
read_grown f [] zero = refl
read_grown f [] (suc i) = refl
read_grown f (x ∷ xs) zero = refl
read_grown f (x ∷ xs) (suc i) = read_grown (λ k. f (suc k)) xs i

-- other lists of links, in which each place has the link that it had
abbrev pub retied : (ends members ends' members' : List Link) → ((p : Place) → link_in ends' members' p ≡ link_in ends members p) →
    ((p : Place) → within (length ends) (length members) p ≡ true → within (length ends') (length members') p ≡ true) →
    IsTiedIn ends members → IsTiedIn ends' members'
retied ends members ends' members' same there tied = record {
  rings = tied.rings;
  home = tied.home;
  ringed = subst (λ (l : Place → Link). AreRings places (λ p. (l p).next) (λ p. (l p).previous) tied.home tied.rings)
      (λ i p. sym (same p) i) tied.ringed;
  there = λ e p home. let h = tied.there e p home in (there e h.0, there p h.1);
}

pub end_grown : (ends members : List Link) (p : Place) → link_in (ends ++ alone (End (length ends)) ∷ []) members p ≡ link_in ends members p
end_grown ends members (End i) = read_grown (λ k. alone (End k)) ends i
end_grown ends members (Member m) = refl

module _ (ends members : List Link) (room : ℕ) (tied : IsTiedIn ends members) where
  -- with more members that stand on no list
  module _ (members' : List Link) (same : (p : Place) → link_in ends members' p ≡ link_in ends members p) (more : length members ≤ length members') where
    pub more_there : (p : Place) → within (length ends) (length members) p ≡ true → within (length ends) (length members') p ≡ true
    more_there (End i) there = there
    more_there (Member m) there = grind (arith, nat_tests, there, more)

    abbrev pub tied_more : IsTiedIn ends members'
    tied_more = retied ends members ends members' same more_there tied

    pub lists_more : (lists_in ends members' room).lists ≡ (lists_in ends members room).lists
    lists_more = rings_seen ends members' room tied_more (range_with_len 0 (length ends)) ∙
        sym (rings_seen ends members room tied (range_with_len 0 (length ends)))

  -- with one list more
  abbrev pub ends_more : List Link
  ends_more = ends ++ alone (End (length ends)) ∷ []

  pub end_there : (p : Place) → within (length ends) (length members) p ≡ true → within (length ends_more) (length members) p ≡ true
  end_there x0 there = search (rules, nat_tests, length-append, length)

  abbrev pub tied_end : IsTiedIn ends_more members
  tied_end = retied ends members ends_more members (end_grown ends members) end_there tied

  pub lists_end : (lists_in ends_more members room).lists ≡ (lists_in ends members room).lists ++ [] ∷ []
  lists_end =
      let shown : ℕ → List ℕ = λ e. map number_of (tied.rings (End e)) in
      let count : length ends_more ≡ length ends + 1 = length-append ends (alone (End (length ends)) ∷ []) in
      rings_seen ends_more members room tied_end (range_with_len 0 (length ends_more)) ∙
      ap (λ k. map shown (range_with_len 0 k)) count ∙ map-range_with_len_more shown 0 (length ends) (length ends) (zero-add (length ends)) ∙
      (λ i. sym (rings_seen ends members room tied (range_with_len 0 (length ends))) i ++ map number_of
      (past_empty ends members room tied (length ends) (omega arith) i) ∷ [])
