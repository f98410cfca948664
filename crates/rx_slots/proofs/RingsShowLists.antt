-- What rings of links show as lists.
use Rattle.rx_slots.proofs.Common.{◌≡◌, ◌≢◌, ℕ, ◌<◌, ◌≤◌, ◌==◌, ◌||◌, ◌++◌, cond, map, Bool, true, false, List, [], ◌∷◌, length, Option, Some, None, refl, ap}
use Rattle.rx_slots.proofs.Common.{sym, subst, ◌∙◌, inl, inr, arith, true≢false, zero-add, nat_lt, not, cases_lt, false≢true, nat_tests, get_or_past, Link}
use Rattle.rx_slots.proofs.Common.{Place, End, Member, list_at, is_in, take_out, is_among, AreDifferent, without, Steps, IsLink, Leads, walk, number_of}
use Rattle.rx_slots.proofs.Common.{is_place, is_end, places, next_in, previous_in, within, IsTiedIn, ring_in, lists_in}
use Rattle.std.proofs.lemmas.List.FromFn.{length-map-range_with_len, get_or-map-range_with_len}
use Rattle.rx_slots.specs.Lists.{IsPlain, AreApart, head_of, last_from, last_of, after}
use Rattle.rx_slots.proofs.PlacesApart.{tells}
use Rattle.rx_slots.proofs.Laws.Places.{few_places, cases_place, among_here, among_there}
use Rattle.rx_slots.proofs.Laws.Links.{walk_leads, no_loop, last_among, next_in as next_among, previous_in as previous_among}
use Rattle.rx_slots.proofs.Laws.Rings.{some_same, some_none}
use Rattle.std.proofs.Common.{rules}

-- the places are members
abbrev pub AreMembers : List Place → Type 0
AreMembers ps = (q : Place) → is_among places q ps ≡ true → q ≡ Member (number_of q)

-- lists of numbers --------------------------------------------------------------------------------

tail_members : (x : Place) (ps : List Place) → AreMembers (x ∷ ps) → AreMembers ps
tail_members x ps all q i = all q (among_there tells q x ps i)

place_eq : (m : ℕ) (x : Place) → x ≡ Member (number_of x) → is_place (Member m) x ≡ (m == number_of x)
place_eq m x is = ap (is_place (Member m)) is

pub in_ring : (m : ℕ) (ps : List Place) → AreMembers ps → is_in m (map number_of ps) ≡ is_among places (Member m) ps
in_ring m [] all = refl
in_ring m (x ∷ ps) all = λ i. sym (place_eq m x (all x (among_here tells x ps))) i || in_ring m ps (tail_members x ps all) i

pub out_ring : (m : ℕ) (ps : List Place) → AreMembers ps → map number_of (without places (Member m) ps) ≡ take_out m (map number_of ps)
out_ring m [] all = refl
out_ring m (x ∷ ps) all =
    search (rules, tail_members, cond, not, map, place_eq, among_here, tells, without, out_ring m ps (tail_members x ps all))

pub end_ring : (ps : List Place) (q : Place) → map number_of (ps ++ q ∷ []) ≡ map number_of ps ++ number_of q ∷ []
end_ring [] q = refl
end_ring (x ∷ ps) q = ap (λ (ys : List ℕ). number_of x ∷ ys) (end_ring ps q)

apart_ring : (ps : List Place) → AreMembers ps → AreDifferent places ps → AreApart (map number_of ps)
apart_ring [] all d = tt
apart_ring (x ∷ ps) all d = (
  in_ring (number_of x) ps (tail_members x ps all) ∙ ap (λ z. is_among places z ps) (sym (all x (among_here tells x ps))) ∙ d.0,
  apart_ring ps (tail_members x ps all) d.1,
)

-- a place as the number of a member
abbrev pub as_member : Place → Option ℕ
as_member (End i) = None
as_member (Member m) = Some m

end_none : (e : Place) → is_end e ≡ true → as_member e ≡ None
end_none x0 ends = search (rules, false≢true)

inner_some : (e : Place) → is_end e ≡ false → e ≡ Member (number_of e)
inner_some x0 inner = search (rules, true≢false)

head_leads : (n p : Steps Place) (a : Place) (ps : List Place) (b : Place) → Leads n p a ps b → AreMembers ps → is_end b ≡ true →
    as_member (n a) ≡ head_of (map number_of ps)
head_leads n p a [] b h all ends = ap as_member h.to ∙ end_none b ends
head_leads n p a (x ∷ ps) b h all ends = ap as_member (h.0.to ∙ all x (among_here tells x ps))

last_leads : (n p : Steps Place) (a : Place) (ps : List Place) (b : Place) → Leads n p a ps b → AreMembers ps →
    as_member (p b) ≡ last_from (as_member a) (map number_of ps)
last_leads n p a [] b h all = ap as_member h.back
last_leads n p a (x ∷ ps) b h all = last_leads n p x ps b h.1 (tail_members x ps all) ∙
    ap (λ z. last_from (as_member z) (map number_of ps)) (all x (among_here tells x ps))

-- the links lead from a over members alone to an end
record LeadsToEnd (n p : Steps Place) (a : Place) (ps : List Place) (b : Place) : Type 0 where
  leads : Leads n p a ps b
  members : AreMembers ps
  ends : is_end b ≡ true

after_leads : {n p : Steps Place} {a : Place} (ps : List Place) {b : Place} → LeadsToEnd n p a ps b → (m : ℕ) →
    is_among places (Member m) ps ≡ true → as_member (n (Member m)) ≡ after m (map number_of ps)
after_leads [] w m i = absurd (false≢true i)
after_leads {n} {p} (x ∷ ps) {b} w m i =
    of (λ j. after_leads ps rest m j) (is_place (Member m) x) refl i ∙
    ap (λ t. cond t (head_of (map number_of ps)) (after m (map number_of ps))) (place_eq m x (w.members x (among_here tells x ps))) where
      rest : LeadsToEnd n p x ps b
      rest = record { leads = w.leads.1; members = tail_members x ps w.members; ends = w.ends }

      of : (is_among places (Member m) ps ≡ true → as_member (n (Member m)) ≡ after m (map number_of ps)) → (t : Bool) → is_place (Member m) x ≡ t →
          (t || is_among places (Member m) ps) ≡ true → as_member (n (Member m)) ≡ cond t (head_of (map number_of ps)) (after m (map number_of ps))
      of later true e j = ap (λ z. as_member (n z)) (tells.same (Member m) x e) ∙ head_leads n p x ps b rest.leads rest.members rest.ends
      of later false e j = later j

pub length_lists : (ends members : List Link) (room : ℕ) → length (lists_in ends members room).lists ≡ length ends
length_lists ends members room = length-map-range_with_len (ring_in ends members) 0 (length ends)

pub within_ends : (ends members : List Link) (room e : ℕ) → e < length (lists_in ends members room).lists → e < length ends
within_ends ends members room e l = let same = length_lists ends members room in omega (arith, l, same)

-- tied rings --------------------------------------------------------------------------------------

lt_of : (a b : ℕ) → nat_lt a b ≡ true → a < b
lt_of a b e = grind (arith, nat_tests, e)

pub of_lt : (a b : ℕ) → a < b → nat_lt a b ≡ true
of_lt a b e = grind (arith, nat_tests, e)

module _ (ends members : List Link) (room : ℕ) (tied : IsTiedIn ends members) where
  pub ring_members : (e : Place) → AreMembers (tied.rings e)
  ring_members e q i = inner_some q (tied.ringed.ends e q (tied.ringed.members e q i)).1

  walk_ring : (e : ℕ) → walk places (length members) (next_in ends members) (End e) ≡ tied.rings (End e)
  walk_ring e =
      let R = tied.ringed in
      walk_leads tells (length members) (next_in ends members) (previous_in ends members) (End e) refl (R.leads (End e) refl)
      (λ x i. (R.ends (End e) x (R.members (End e) x i)).1)
      (few_places tells Member number_of (length members) (tied.rings (End e)) (R.differ (End e))
      (λ q i. (below q (ring_members (End e) q i) (tied.there (End e) q (R.members (End e) q i)).1, ring_members (End e) q i))) where
        below : (q : Place) → q ≡ Member (number_of q) → within (length ends) (length members) q ≡ true → number_of q < length members
        below q is there = lt_of (number_of q) (length members) (subst (λ z. within (length ends) (length members) z ≡ true) is there)

  -- all lists at once
  pub rings_seen : (es : List ℕ) → map (ring_in ends members) es ≡ map (λ e. map number_of (tied.rings (End e))) es
  rings_seen es = λ i. map (λ e. map number_of (walk_ring e i)) es

  -- past the last end nothing stands
  pub past_empty : (e : ℕ) → length ends ≤ e → tied.rings (End e) ≡ []
  past_empty e past = of (tied.rings (End e)) refl where
    of : (ps : List Place) → tied.rings (End e) ≡ ps → ps ≡ []
    of [] same = refl
    of (x ∷ ps) same =
        let i : is_among places x (tied.rings (End e)) ≡ true = subst (λ qs. is_among places x qs ≡ true) (sym same) (among_here tells x ps) in
        let there = lt_of e (length ends) (tied.there (End e) x (tied.ringed.members (End e) x i)).0 in
        absurd (omega (arith, past, there))

  -- each list is that of a ring
  pub seen : (e : ℕ) → list_at (lists_in ends members room) e ≡ map number_of (tied.rings (End e))
  seen e = search (rules, cases_lt, length, ends, get_or-map-range_with_len, members, zero-add, map, walk_ring, get_or_past, length-map-range_with_len, past_empty)

  pub seen_in : (e m : ℕ) → is_in m (list_at (lists_in ends members room) e) ≡ is_among places (Member m) (tied.rings (End e))
  seen_in e m = ap (is_in m) (seen e) ∙ in_ring m (tied.rings (End e)) (ring_members (End e))

  pub plain : IsPlain (lists_in ends members room)
  plain = record {
    apart = λ e. search (rules, seen, apart_ring, ring_members);
    once = grind (arith, seen_in, some_same);
    below = λ e m i. lt_of m (length members) (tied.there (End e) (Member m) (tied.ringed.members (End e) (Member m) (sym (seen_in e m) ∙ i))).1;
  }

  pub first_seen : (e : ℕ) → as_member (next_in ends members (End e)) ≡ head_of (list_at (lists_in ends members room) e)
  first_seen e = search (rules, head_leads, ends, members, ring_members, seen)

  pub last_seen : (e : ℕ) → as_member (previous_in ends members (End e)) ≡ last_of (list_at (lists_in ends members room) e)
  last_seen e = search (rules, last_leads, ends, members, ring_members, seen)

  pub next_seen : (e m : ℕ) → is_in m (list_at (lists_in ends members room) e) ≡ true →
      as_member (next_in ends members (Member m)) ≡ after m (list_at (lists_in ends members room) e)
  next_seen e m i = after_leads (tied.rings (End e))
      (record { leads = tied.ringed.leads (End e) refl; members = ring_members (End e); ends = refl }) m (sym (seen_in e m) ∙ i) ∙ ap (after m) (sym (seen e))

  -- a member on a list is not followed by itself
  pub not_itself : (e m : ℕ) → is_in m (list_at (lists_in ends members room) e) ≡ true → next_in ends members (Member m) ≢ Member m
  not_itself e m i = no_loop tells (next_in ends members) (previous_in ends members) (End e) (tied.rings (End e)) (End e) (Member m)
      (tied.ringed.leads (End e) refl)
      (tied.ringed.differ (End e)) (λ s. false≢true (ap is_end s)) (sym (seen_in e m) ∙ i)

  -- what a member's links lead to is there, if the member is
  home_there : (q : Place) → (o : Option Place) → tied.home q ≡ o → is_end q ≡ false → within (length ends) (length members) q ≡ true →
      (within (length ends) (length members) (next_in ends members q) ≡ true) × (within (length ends) (length members) (previous_in ends members q) ≡ true)
  home_there q None home inner there =
      let loop = tied.ringed.loose q inner home in search (rules, length, ends, members)
  home_there q (Some e) home inner there =
      let R = tied.ringed in
      let i = R.listed e q home in
      let end = (tied.there e q home).0 in
      let leads = R.leads e (R.ends e q home).0 in (
        elim (next_among tells (next_in ends members) (previous_in ends members) e (tied.rings e) e q leads i) [
          | inl is ↦ subst (λ z. within (length ends) (length members) z ≡ true) (sym is) end
          | inr among ↦ (tied.there e (next_in ends members q) (R.members e (next_in ends members q) among)).1
        ],
        elim (previous_among tells (next_in ends members) (previous_in ends members) e (tied.rings e) e q leads i) [
          | inl is ↦ subst (λ z. within (length ends) (length members) z ≡ true) (sym is) end
          | inr among ↦ (tied.there e (previous_in ends members q) (R.members e (previous_in ends members q) among)).1
        ],
      )

  pub next_there : (m : ℕ) → m < length members → within (length ends) (length members) (next_in ends members (Member m)) ≡ true
  next_there m l = (home_there (Member m) (tied.home (Member m)) refl refl (of_lt m (length members) l)).0

  pub previous_there : (m : ℕ) → m < length members → within (length ends) (length members) (previous_in ends members (Member m)) ≡ true
  previous_there m l = (home_there (Member m) (tied.home (Member m)) refl refl (of_lt m (length members) l)).1

  pub last_there : (e : ℕ) → e < length ends → within (length ends) (length members) (previous_in ends members (End e)) ≡ true
  last_there e l = of (previous_in ends members (End e)) refl (last_seen e) where
    of : (q : Place) → previous_in ends members (End e) ≡ q → as_member (previous_in ends members (End e)) ≡ last_of (list_at (lists_in ends members room) e) →
        within (length ends) (length members) q ≡ true
    of q is seen_last = elim (cases_place tells q (End e)) [
      | inl end ↦ subst (λ z. within (length ends) (length members) z ≡ true) (sym end) (of_lt e (length ends) l)
      | inr other ↦
          let i = last_in q is other in
          (tied.there (End e) q (tied.ringed.members (End e) q i)).1
    ] where
      last_in : (q : Place) → previous_in ends members (End e) ≡ q → q ≢ End e → is_among places q (tied.rings (End e)) ≡ true
      last_in q is other = subst (λ z. is_among places z (tied.rings (End e)) ≡ true) is
          (last_among tells (next_in ends members) (previous_in ends members) (End e) (tied.rings (End e)) (End e) (tied.ringed.leads (End e) refl)
          (λ s. other (sym is ∙ s)))

  pub free_home : (m : ℕ) → ((e : ℕ) → is_in m (list_at (lists_in ends members room) e) ≡ false) → tied.home (Member m) ≡ None
  free_home m free = of (tied.home (Member m)) refl where
    of : (o : Option Place) → tied.home (Member m) ≡ o → o ≡ None
    of None home = refl
    of (Some (End e)) home = absurd (true≢false (sym (tied.ringed.listed (End e) (Member m) home) ∙ sym (seen_in e m) ∙ free e))
    of (Some (Member k)) home = absurd (false≢true (tied.ringed.ends (Member k) (Member m) home).0)

pub eq_is : (a b : ℕ) → (a == b) ≡ true → a ≡ b
eq_is a b e = grind (arith, nat_tests, e)

-- no place is on a ring where there is no end
pub nothing_tied : IsTiedIn [] []
nothing_tied = record {
  rings = λ q. [];
  home = λ q. None;
  ringed = record {
    leads = λ e ends. nothing_leads e;
    differ = λ e. tt;
    members = λ e p i. absurd (false≢true i);
    listed = λ e p home. absurd (some_none None e home refl);
    ends = λ e p home. absurd (some_none None e home refl);
    loose = λ p inner home. nothing_leads p;
  };
  there = λ e p home. absurd (some_none None e home refl);
} where
  nothing_leads : (p : Place) → IsLink (next_in [] []) (previous_in [] []) p p
  nothing_leads (End i) = record { to = refl; back = refl }
  nothing_leads (Member m) = record { to = refl; back = refl }

pub member_is : (a b : ℕ) → Member a ≡ Member b → a ≡ b
member_is a b e = ap number_of e

-- a member that is followed by another place stands on a list
pub stands_on : (ends members : List Link) (room : ℕ) (tied : IsTiedIn ends members) (m : ℕ) → next_in ends members (Member m) ≢ Member m →
    (e : ℕ) × (is_in m (list_at (lists_in ends members room) e) ≡ true)
stands_on ends members room tied m other = of (tied.home (Member m)) refl where
  of : (o : Option Place) → tied.home (Member m) ≡ o → (e : ℕ) × (is_in m (list_at (lists_in ends members room) e) ≡ true)
  of None home = absurd (other (tied.ringed.loose (Member m) refl home).to)
  of (Some (End e)) home = (e, seen_in ends members room tied e m ∙ tied.ringed.listed (End e) (Member m) home)
  of (Some (Member k)) home = absurd (false≢true (tied.ringed.ends (Member k) (Member m) home).0)

pub eq_refl : (a : ℕ) → (a == a) ≡ true
eq_refl a = grind (arith, nat_tests)
