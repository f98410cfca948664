-- A step's joins and leavings, hub by hub.
use Rattle.rx_pool.proofs.Common.{◌≡◌, ℕ, suc, ◌+◌, ◌<◌, ◌≤◌, ◌==◌, ◌&&◌, Bool, true, false, not, cond, if◌then◌else◌, Option, Some, None, List, []}
use Rattle.rx_pool.proofs.Common.{◌∷◌, ◌++◌, length, slice_get}
use Rattle.rx_pool.proofs.Common.{refl, sym, ap, ◌∙◌, subst, arith, inl, inr, ◌⊎◌, cases_lt, cases_order, false≢true, eq-eqb, and_parts, lt-ltb}
use Rattle.rx_pool.proofs.Common.{ltb-true, le-ltb, nat_lt}
use Rattle.rx_pool.proofs.Common.{none-some, and_from, eqb-true, new_hub, Auto, slice_index_or, slice_set, option_map_or, slice_get_within, same_Some}
use Rattle.rx_pool.proofs.Common.{Event, PooledHub, is_used, joined, left_by_one, changed, passes, length-set, slice_get-get_or}
use Rattle.std.proofs.lemmas.Bool.{ne_eqb}
use Rattle.std.proofs.lemmas.List.Sums.{sum_by-cons}
use Rattle.std.specs.Bool.{⊤}
use Rattle.std.specs.List.{count_by, filter_map, cons_option}
use Rattle.rx_event.proofs.Laws.Places.{at-append}
use Rattle.rx_event.specs.Events.{makes_node}
use Rattle.rx_event.specs.Tree.{at, is_open}
use Rattle.rx_event.specs.Gone.{has_gone, goes}
use Rattle.rx_pool.specs.Counts.{names, naming, is_made}
use Rattle.rx_pool.specs.Moves.{joined_all, left_all, MayLeaveAll, is_place}
use Rattle.rx_pool.specs.Claims.{MovesFollow}
use Rattle.rx_pool.proofs.Changes.{slice_get-set_same, slice_get-set_other}
use Rattle.rx_pool.proofs.Laws.CountsAfterStep.{balance}

-- one change ------------------------------------------------------------------------------------------------------------------------------

-- the hub at a place after a change somewhere
record WasAt (change : PooledHub → PooledHub) (place : ℕ) (hubs : List PooledHub) (i : ℕ) (hub : PooledHub) : Type 0 where
  before : PooledHub
  there : slice_get hubs i ≡ Some before
  is : hub ≡ (if place == i then change before else before)

was_at : (change : PooledHub → PooledHub) (place : ℕ) (hubs : List PooledHub) (i : ℕ) (hub : PooledHub) → slice_get (changed change place hubs) i ≡ Some hub → WasAt change place hubs i hub
was_at change place hubs i hub there = by_hub (slice_get hubs place) refl there
  where
    -- elsewhere nothing changes
    elsewhere : (place ≡ i → ⊥) → slice_get hubs i ≡ Some hub → WasAt change place hubs i hub
    elsewhere other at_i = record { before = hub; there = at_i; is = ap (λ (b : Bool). if b then change hub else hub) (sym (ne_eqb place i other)) }

    here : (old : PooledHub) → slice_get hubs place ≡ Some old → place ≡ i → slice_get (slice_set hubs place (change old)) i ≡ Some hub → WasAt change place hubs i hub
    here old at_place same at_i = record {
      before = old;
      there = ap (λ (k : ℕ). slice_get hubs k) (sym same) ∙ at_place;
      is = same_Some hub (change old) (sym at_i ∙ ap (λ (k : ℕ). slice_get (slice_set hubs place (change old)) k) (sym same) ∙
          slice_get-set_same hubs place (change old) (slice_get_within hubs place old at_place)) ∙
          ap (λ (b : Bool). if b then change old else old) (sym (eq-eqb place i same));
    }

    none_here : slice_get hubs place ≡ None → slice_get hubs i ≡ Some hub → place ≡ i → ⊥
    none_here at_place at_i same = none-some hub (sym at_place ∙ ap (λ (k : ℕ). slice_get hubs k) same ∙ at_i)

    by_hub : (o : Option PooledHub) → slice_get hubs place ≡ o → slice_get (option_map_or (λ h. slice_set hubs place (change h)) o hubs) i ≡ Some hub →
        WasAt change place hubs i hub
    by_hub None at_place at_i = elsewhere (none_here at_place at_i) at_i
    by_hub (Some old) at_place at_i = by_order (cases_order place i)
      where
        other : (place ≡ i → ⊥) → WasAt change place hubs i hub
        other differ = elsewhere differ (sym (slice_get-set_other hubs place i (change old) (λ e. differ (sym e))) ∙ at_i)

        by_order : (place ≡ i) ⊎ ((place < i) ⊎ (i < place)) → WasAt change place hubs i hub
        by_order (inl same) = here old at_place same at_i
        by_order (inr (inl l)) = other (λ e. let n = e in omega arith)
        by_order (inr (inr l)) = other (λ e. let n = e in omega arith)

length_changed : (change : PooledHub → PooledHub) (place : ℕ) (hubs : List PooledHub) → length (changed change place hubs) ≡ length hubs
length_changed change place hubs = by_hub (slice_get hubs place)
  where
    by_hub : (o : Option PooledHub) → length (option_map_or (λ h. slice_set hubs place (change h)) o hubs) ≡ length hubs
    by_hub None = refl
    by_hub (Some old) = length-set hubs place (change old)

length_joined : (word : ℕ) (places : List ℕ) (hubs : List PooledHub) → length (joined_all word places hubs) ≡ length hubs
length_joined word [] hubs = refl
length_joined word (p ∷ ps) hubs = length_joined word ps (changed (joined word) p hubs) ∙ length_changed (joined word) p hubs

-- one node more, or one fewer
record Differs (x y : PooledHub) (less more : ℕ) : Type 0 where
  number : y.number ≡ x.number
  mode : y.mode ≡ x.mode
  many : y.many + less ≡ x.many + more

one_more : (word : ℕ) (b : Bool) (x y : PooledHub) → y ≡ (if b then joined word x else x) → Differs x y 0 (cond b 1 0)
one_more word true x y is = record { number = ap (λ (h : PooledHub). h.number) is; mode = ap (λ (h : PooledHub). h.mode) is; many = (let m = ap (λ (h : PooledHub). h.many) is in omega arith) }
one_more word false x y is = record { number = ap (λ (h : PooledHub). h.number) is; mode = ap (λ (h : PooledHub). h.mode) is; many = (let m = ap (λ (h : PooledHub). h.many) is in omega arith) }

one_fewer : (b : Bool) (x y : PooledHub) → y ≡ (if b then left_by_one x else x) → (b ≡ true → 0 < x.many) → Differs x y (cond b 1 0) 0
one_fewer true x y is some = record {
  number = ap (λ (h : PooledHub). h.number) is;
  mode = ap (λ (h : PooledHub). h.mode) is;
  many = (let m = ap (λ (h : PooledHub). h.many) is in let l = some refl in omega arith);
}
one_fewer false x y is some = record { number = ap (λ (h : PooledHub). h.number) is; mode = ap (λ (h : PooledHub). h.mode) is; many = (let m = ap (λ (h : PooledHub). h.many) is in omega arith) }

-- how often a place stands in a list
count_place : (i p : ℕ) (ps : List ℕ) → count_by (λ q. q == i) (p ∷ ps) ≡ cond (p == i) 1 0 + count_by (λ q. q == i) ps
count_place i p ps = sum_by-cons (λ q. cond (q == i) 1 0) p ps

-- many changes ----------------------------------------------------------------------------------------------------------------------------

-- a hub of which only owner and count changed
record Moved (hubs : List PooledHub) (i : ℕ) (hub : PooledHub) (less more : ℕ) : Type 0 where
  before : PooledHub
  there : slice_get hubs i ≡ Some before
  number : hub.number ≡ before.number
  mode : hub.mode ≡ before.mode
  many : hub.many + less ≡ before.many + more

joined_at : (word : ℕ) (places : List ℕ) (hubs : List PooledHub) (i : ℕ) (hub : PooledHub) → slice_get (joined_all word places hubs) i ≡ Some hub →
    Moved hubs i hub 0 (count_by (λ p. p == i) places)
joined_at word [] hubs i hub there = record { before = hub; there = there; number = refl; mode = refl; many = refl }
joined_at word (p ∷ ps) hubs i hub there =
    let m = joined_at word ps (changed (joined word) p hubs) i hub there in
    let w = was_at (joined word) p hubs i m.before m.there in
    let d = one_more word (p == i) w.before m.before w.is in
    let count = count_place i p ps in
    let many = m.many in
    let one = d.many in
    record { before = w.before; there = w.there; number = m.number ∙ d.number; mode = m.mode ∙ d.mode; many = omega (arith, count, many, one) }

left_at : (places : List ℕ) (hubs : List PooledHub) (i : ℕ) (hub : PooledHub) → MayLeaveAll places hubs → slice_get (left_all places hubs) i ≡ Some hub →
    Moved hubs i hub (count_by (λ p. p == i) places) 0
left_at [] hubs i hub may there = record { before = hub; there = there; number = refl; mode = refl; many = refl }
left_at (p ∷ ps) hubs i hub may there =
    let m = left_at ps (changed left_by_one p hubs) i hub may.1 there in
    let w = was_at left_by_one p hubs i m.before m.there in
    let d = one_fewer (p == i) w.before m.before w.is (λ same. ltb-true 0 (w.before).many (sym (ap (λ o. option_map_or is_used o false) w.there) ∙
    ap (λ (k : ℕ). passes is_used hubs k) (sym (eqb-true p i same)) ∙ may.0)) in
    let count = count_place i p ps in
    let many = m.many in
    let one = d.many in
    record { before = w.before; there = w.there; number = m.number ∙ d.number; mode = m.mode ∙ d.mode; many = omega (arith, count, many, one) }

-- all may be left where none stands in the list more often than nodes name it
abbrev AreFew : List ℕ → List PooledHub → Type 0
AreFew places hubs = (i : ℕ) (hub : PooledHub) → slice_get hubs i ≡ Some hub → count_by (λ p. p == i) places ≤ hub.many

abbrev AreWithin : List ℕ → ℕ → Type 0
AreWithin [] n = ⊤
AreWithin (p ∷ ps) n = (p < n) × AreWithin ps n

may_leave : (places : List ℕ) (hubs : List PooledHub) → AreFew places hubs → AreWithin places (length hubs) → MayLeaveAll places hubs
may_leave [] hubs few within = tt
may_leave (p ∷ ps) hubs few within =
    let hub = slice_index_or hubs p (new_hub 0 Auto) in
    let there : slice_get hubs p ≡ Some hub = slice_get-get_or hubs p (new_hub 0 Auto) within.0 in
    let l = few p hub there in
    let count = count_place p p ps in
    let one : cond {A = ℕ} (p == p) 1 0 ≡ 1 = ap (λ (b : Bool). cond {A = ℕ} b 1 0) (eq-eqb p p refl) in (
      ap (λ o. option_map_or is_used o false) there ∙ lt-ltb 0 hub.many (omega (arith, l, count, one)),
      may_leave ps (changed left_by_one p hubs) rest (subst (λ (n : ℕ). AreWithin ps n) (sym (length_changed left_by_one p hubs)) within.1),
    )
  where
    rest : AreFew ps (changed left_by_one p hubs)
    rest i hub there =
        let w = was_at left_by_one p hubs i hub there in
        let l = few i w.before w.there in
        let count = count_place i p ps in
        let d = one_fewer (p == i) w.before hub w.is (λ same. let one = ap (λ (b : Bool). cond {A = ℕ} b 1 0) same in omega (arith, l, count, one)) in
        let many = d.many in omega (arith, l, count, many)

-- places and numbers ------------------------------------------------------------------------------------------------------------------------

count_kept : (i : ℕ) (o : Option ℕ) (ps : List ℕ) → count_by (λ q. q == i) (cons_option o ps) ≡ cond (is_place i o) 1 0 + count_by (λ q. q == i) ps
count_kept i None ps = omega arith
count_kept i (Some p) ps = count_place i p ps

-- the nodes of the list that name a hub, by their places
counted_by_place : (k : List Event) (g i : ℕ) (place_of : ℕ → Option ℕ) (numbers : List ℕ) → ((j : ℕ) (d : ℕ) → j < length numbers → at (names g) k (slice_index_or numbers j d) ≡ is_place i (place_of (slice_index_or numbers j d))) →
    naming k g numbers ≡ count_by (λ p. p == i) (filter_map place_of numbers)
counted_by_place k g i place_of [] same = refl
counted_by_place k g i place_of (n ∷ ns) same =
    let rest = counted_by_place k g i place_of ns (λ j d l. same (suc j) d (omega arith)) in
    let head = sum_by-cons (λ m. cond (at (names g) k m) 1 0) n ns in
    let first = ap (λ (b : Bool). cond {A = ℕ} b 1 0) (same 0 n (omega arith)) in
    let other = count_kept i (place_of n) (filter_map place_of ns) in
    omega (arith, rest, head, first, other)

places_within : (place_of : ℕ → Option ℕ) (size : ℕ) (numbers : List ℕ) → ((n p : ℕ) → place_of n ≡ Some p → p < size) → AreWithin (filter_map place_of numbers) size
places_within place_of size [] within = tt
places_within place_of size (n ∷ ns) within = kept (place_of n) refl (places_within place_of size ns within)
  where
    kept : (o : Option ℕ) → place_of n ≡ o → AreWithin (filter_map place_of ns) size → AreWithin (cons_option o (filter_map place_of ns)) size
    kept None is rest = rest
    kept (Some p) is rest = (within n p is, rest)

-- what has gone was open, or was made
open_or_made : (h more : List Event) (n : ℕ) → goes h (h ++ more) n ≡ true → (is_open h n ≡ true) ⊎ (is_made h (h ++ more) n ≡ true)
open_or_made h more n is = by_order (cases_lt n (length h))
  where
    both : (has_gone (h ++ more) n ≡ true) × (not (has_gone h n) ≡ true)
    both = and_parts (has_gone (h ++ more) n) (not (has_gone h n)) is

    makes : at makes_node (h ++ more) n ≡ true
    makes = (and_parts (at makes_node (h ++ more) n) (not (is_open (h ++ more) n)) both.0).0

    still : (m o : Bool) → m ≡ true → not (m && not o) ≡ true → o ≡ true
    still m true p q = refl
    still true false p q = absurd (false≢true q)
    still false false p q = absurd (false≢true p)

    by_order : (n < length h) ⊎ (length h ≤ n) → (is_open h n ≡ true) ⊎ (is_made h (h ++ more) n ≡ true)
    by_order (inl l) = inl (still (at makes_node h n) (is_open h n) (sym (at-append makes_node h more n l) ∙ makes) both.1)
    by_order (inr g) = inr (and_from (at makes_node (h ++ more) n) (not (nat_lt n (length h))) makes (ap (λ (b : Bool). not b) (le-ltb n (length h) g)))

pub moves_follow : MovesFollow
moves_follow h more made gone place_of word hubs pool opened closed known = record { may = may; follows = record { opened = opened; closed = closed; moved = moved } }
  where
    made_there : (i : ℕ) (hub : PooledHub) → slice_get hubs i ≡ Some hub → naming (h ++ more) hub.number made ≡ count_by (λ p. p == i) (filter_map place_of made)
    made_there i hub there = counted_by_place (h ++ more) hub.number i place_of made
        (λ j d l. known.named (slice_index_or made j d) (inr (opened.each j d l)) i hub there)

    gone_there : (i : ℕ) (hub : PooledHub) → slice_get hubs i ≡ Some hub → naming (h ++ more) hub.number gone ≡ count_by (λ p. p == i) (filter_map place_of gone)
    gone_there i hub there = counted_by_place (h ++ more) hub.number i place_of gone
        (λ j d l. known.named (slice_index_or gone j d) (open_or_made h more (slice_index_or gone j d) (closed.each j d l)) i hub there)

    few : AreFew (filter_map place_of gone) (joined_all word (filter_map place_of made) hubs)
    few i hub there =
        let j = joined_at word (filter_map place_of made) hubs i hub there in
        let b = balance h more (j.before).number made gone opened closed in
        let was = pool.counted i j.before j.there in
        let many = j.many in
        let m = made_there i j.before j.there in
        let g = gone_there i j.before j.there in
        omega (arith, b, was, many, m, g)

    may : MayLeaveAll (filter_map place_of gone) (joined_all word (filter_map place_of made) hubs)
    may = may_leave (filter_map place_of gone) (joined_all word (filter_map place_of made) hubs) few
        (subst (λ (n : ℕ). AreWithin (filter_map place_of gone) n) (sym (length_joined word (filter_map place_of made) hubs))
        (places_within place_of (length hubs) gone known.within))

    moved : (i : ℕ) (hub : PooledHub) → slice_get (left_all (filter_map place_of gone) (joined_all word (filter_map place_of made) hubs)) i ≡ Some hub →
        (before : PooledHub) × (slice_get hubs i ≡ Some before) × (hub.number ≡ before.number) × (hub.mode ≡ before.mode) ×
        (hub.many + naming (h ++ more) hub.number gone ≡ before.many + naming (h ++ more) hub.number made)
    moved i hub there =
        let l = left_at (filter_map place_of gone) (joined_all word (filter_map place_of made) hubs) i hub may there in
        let j = joined_at word (filter_map place_of made) hubs i l.before l.there in
        let number = l.number ∙ j.number in
        let one = l.many in
        let two = j.many in
        let m = made_there i j.before j.there in
        let g = gone_there i j.before j.there in
        let gone_same = ap (λ (x : ℕ). naming (h ++ more) x gone) number in
        let made_same = ap (λ (x : ℕ). naming (h ++ more) x made) number in
        (j.before, j.there, number, l.mode ∙ j.mode, omega (arith, one, two, m, g, gone_same, made_same))
