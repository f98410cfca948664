-- What stays of a lawful history names nothing that is left out.
use Rattle.rx_event.proofs.Laws.Common.{◌≡◌, ℕ, ℤ, zero, suc, ◌+◌, ◌<◌, ◌≤◌, Bool, true, false, List, [], ◌∷◌, length, Option, Some, cond, slice_get}
use Rattle.rx_event.proofs.Laws.Common.{take, refl, sym, ap, ◌∙◌, subst, inl, inr, ◌⊎◌, arith, Kept, shown, both_ways, false_from_ne_true, false≢true}
use Rattle.rx_event.proofs.Laws.Common.{option_map_or}
use Rattle.rx_event.proofs.Laws.Common.{has_source, is_merging, is_until, makes_hub, makes_resource, makes_lease, makes_node, at, is_open, IsHubbed, eq-eqb}
use Rattle.rx_event.proofs.Laws.Common.{IsLawful, MayFollow, event_by, slice_get_within, none-some, place_by, length-take-le}
use Rattle.rx_event.proofs.Laws.Common.{nothing_kept, base_of, eqb-true}
use Rattle.rx_event.specs.Renumbered.{kind_by}
use Rattle.rx_event.specs.Events.{is_making}
use Rattle.rx_omitted.specs.Imports.{Event, Open, Hub, Connect, Accept, Use, Remove, Lease, Return, Item, Decline, End, Close, Take, Terminal, Place, Root}
use Rattle.rx_omitted.specs.Imports.{Source}
use Rattle.rx_omitted.specs.Imports.{Inner, Notifier, Kind, Leaf, Sub}
use Rattle.rx_omitted.specs.Named.{named_in, named_in_place, named_in_kind, Stay_all}
use Rattle.rx_omitted.specs.Omitted.{number, staying, what_stays, MayOmit, HasOwnPlaces, befalls}
use Rattle.rx_event.proofs.Laws.Bases.{length-shown, kept_at, is_inert}
use Rattle.rx_event.proofs.Laws.Begin.{shown_nothing}
use Rattle.rx_event.proofs.Laws.Hubs.{may_subscribe}
use Rattle.rx_event.proofs.Laws.Lawful.{IsLawful_empty, in_base, since_base, FoundAt, found_at}
use Rattle.rx_event.proofs.Laws.Leases.{lease_resource, lease_older, out_lease, owned_resource}
use Rattle.rx_event.proofs.Laws.LetGo.{connected_hub}
use Rattle.rx_event.proofs.Laws.Places.{at_within}
use Rattle.rx_event.proofs.Laws.ReadAllowed.{sourced_by, until_by}
use Rattle.rx_event.proofs.Laws.Resources.{held_resource, waiting_parts}
use Rattle.rx_event.proofs.Laws.Stands.{at_older, event_at, source_stands, inner_stands, notifier_stands}
use Rattle.rx_event.proofs.Laws.Steps.{may_use, may_remove, may_return, may_take, may_decline, named_below}
use Rattle.rx_event.proofs.Laws.TreeRead.{merging_by}
use Rattle.rx_omitted.proofs.Numbers.{number_stays, number_itself}
use Rattle.rx_omitted.proofs.Omits.{Omits}
use Rattle.rx_omitted.proofs.Staying.{Renumbers, fails}
use Rattle.rx_omitted.proofs.Tests as tests

-- what the base shows stays as it is ----------------------------------------------------------------------------

number_all : (omit : ℕ → Bool) (n : ℕ) → ((k : ℕ) → k < n → omit k ≡ false) → number omit n ≡ n
number_all omit zero none = refl
number_all omit (suc n) none = number_stays omit n (none n (omega arith)) ∙ ap (λ k. suc k) (number_all omit n (λ k l. none k (omega arith)))

pub staying_all : (omit : ℕ → Bool) (place : ℕ) (xs : List Event) → ((i : ℕ) (e : Event) → slice_get xs i ≡ Some e → omit (place + i) ≡ false) →
    ((i : ℕ) (e : Event) → slice_get xs i ≡ Some e → event_by (number omit) e ≡ e) → staying omit place xs ≡ xs
staying_all omit place [] stays same = refl
staying_all omit place (x ∷ xs) stays same =
    let here : omit place ≡ false = let z : place + 0 ≡ place = omega arith in ap omit (sym z) ∙ stays 0 x refl in
    let rest = staying_all omit (suc place) xs (λ i e at_i. (let z : suc place + i ≡ place + suc i = omega arith in ap omit z ∙ stays (suc i) e at_i))
    (λ i e at_i. same (suc i) e at_i) in
    ap (λ b. cond b (staying omit (suc place) xs) (event_by (number omit) x ∷ staying omit (suc place) xs)) here ∙ (λ j. same 0 x refl j ∷ rest j)

module _ (base : Kept) (omit : ℕ → Bool) (h : List Event) (law : IsLawful base h) (own : HasOwnPlaces base) (m : MayOmit base omit h) where
  same_number : (k : ℕ) → k ≤ length (shown base) → number omit k ≡ k
  same_number k l = number_itself omit (length (shown base))
      (number_all omit (length (shown base)) (λ j less. m.since j (let long = length-shown base in omega arith))) k l

  place_same : (place : Place) → ((p : ℕ) → Rattle.rx_event.specs.Events.named_by place ≡ Some p → p ≤ length (shown base)) →
      place_by (number omit) place ≡ place
  place_same Root below = refl
  place_same (Source p) below = ap Source (same_number p (below p refl))
  place_same (Inner p) below = ap Inner (same_number p (below p refl))
  place_same (Notifier p) below = ap Notifier (same_number p (below p refl))

  kind_same : (kind : Kind) (i : ℕ) (place : Place) → slice_get (shown base) i ≡ Some (Open place kind) → kind_by (number omit) kind ≡ kind
  kind_same (Sub g) i place at_i =
      let l : g < length (take i (shown base)) = at_within makes_hub (take i (shown base)) g (law.started.hubbed i place (Sub g) at_i).0 in
      let in_front = slice_get_within (shown base) i (Open place (Sub g)) at_i in
      ap Sub (same_number g (let w = length-take-le i (shown base) (omega arith) in omega arith))
  kind_same _ i place at_i = refl

  front_law : IsLawful base (shown base)
  front_law = IsLawful_empty base law.started

  shown_same : (i : ℕ) (e : Event) → slice_get (shown base) i ≡ Some e → event_by (number omit) e ≡ e
  shown_same i (Open place kind) at_i = λ j. Open (place_same place (λ p named.
      let l = named_below base (shown base) front_law i p (Open place kind) at_i named in let w = slice_get_within (shown base) i _ at_i in omega arith) j)
      (kind_same kind i place at_i j)
  shown_same i (Hub mode) at_i = refl
  shown_same i (Connect g) at_i =
      ap Connect (same_number g (let w = at_within makes_hub (shown base) g (connected_hub base (shown base) front_law g i at_i) in omega arith))
  shown_same i (Accept n tag) at_i =
      ap (λ k. Accept k tag) (same_number n (let l = law.started.accepts i n tag at_i in let w = slice_get_within (shown base) i _ at_i in omega arith))
  shown_same i (Lease r) at_i = ap Lease (same_number r (let l = lease_older base (shown base) front_law i r at_i in
      let w = slice_get_within (shown base) i _ at_i in omega arith))
  shown_same i (Close n) at_i = ap Close (same_number n (let w = slice_get_within (shown base) i _ at_i in let e = own i n at_i in omega arith))
  shown_same i e at_i = absurd (false≢true (law.started.making i e at_i))

  front_stays : what_stays omit (shown base) ≡ shown base
  front_stays = staying_all omit 0 (shown base)
      (λ i e at_i. (let z : 0 + i ≡ i = omega arith in ap omit z ∙
      m.since i (let w = slice_get_within (shown base) i e at_i in let long = length-shown base in omega arith)))
      shown_same

  -- what stays -------------------------------------------------------------------------------------------------------

  plain : (t : Event → Bool) → ((r : ℕ → ℕ) (e : Event) → t (event_by r e) ≡ t e) → ((l : ℕ) (v : ℤ) → t (Item l v) ≡ false) → t (Open Root Leaf) ≡ false →
      ((n : ℕ) (u : Terminal) → t (End n u) ≡ false) → ((n : ℕ) → t (Close n) ≡ false) → Renumbers omit t t
  plain t by item leaf ends closes = record { by = λ e all. by (number omit) e; item = item; leaf = leaf; ends = ends; closes = closes }

  made_stays : (t : Event → Bool) → Renumbers omit t t → (p : ℕ) → at t h p ≡ true → omit p ≡ false
  made_stays t test p holds = by_event (event_at h p (at_within t h p holds)) where
    by_event : (e : Event) × (slice_get h p ≡ Some e) → omit p ≡ false
    by_event (e, at_p) = false_from_ne_true (omit p) (λ gone. both_ways (t e) (fails omit h p test (m.each p e at_p gone))
        (sym (ap (λ o. option_map_or t o false) at_p) ∙ holds))

  resource_stays : (q : ℕ) → at makes_resource h q ≡ true → omit q ≡ false
  resource_stays = made_stays makes_resource (tests.resources omit)

  hub_stays : (g : ℕ) → at makes_hub h g ≡ true → omit g ≡ false
  hub_stays = made_stays makes_hub (tests.hubs omit)

  merging_stays : (f : ℕ) → at is_merging h f ≡ true → omit f ≡ false
  merging_stays = made_stays is_merging (plain is_merging merging_by (λ l v. refl) refl (λ n t. refl) (λ n. refl))

  place_named : (i : ℕ) (place : Place) (kind : Kind) → slice_get h i ≡ Some (Open place kind) → Stay_all omit (named_in_place place)
  place_named i Root kind at_i = tt
  place_named i (Source p) kind at_i =
      (made_stays has_source (plain has_source sourced_by (λ l v. refl) refl (λ n t. refl) (λ n. refl)) p (source_stands base h law i p kind at_i), tt)
  place_named i (Inner p) kind at_i = (merging_stays p (inner_stands base h law i p kind at_i), tt)
  place_named i (Notifier p) kind at_i =
      (made_stays is_until (plain is_until until_by (λ l v. refl) refl (λ n t. refl) (λ n. refl)) p (notifier_stands base h law i p kind at_i), tt)

  hubbed_before : (i : ℕ) (place : Place) (kind : Kind) → slice_get h i ≡ Some (Open place kind) → IsHubbed (take i h) place kind
  hubbed_before i place kind at_i = by_case (found_at base h law i (Open place kind) at_i) where
    by_case : FoundAt base h i (Open place kind) → IsHubbed (take i h) place kind
    by_case (in_base found same) = subst (λ (k : List Event). IsHubbed k place kind) (sym same) (law.started.hubbed i place kind found)
    by_case (since_base next) = may_subscribe base next

  kind_named : (i : ℕ) (place : Place) (kind : Kind) → slice_get h i ≡ Some (Open place kind) → Stay_all omit (named_in_kind kind)
  kind_named i place (Sub g) at_i = (hub_stays g (at_older makes_hub h i g (slice_get_within h i _ at_i) (hubbed_before i place (Sub g) at_i).0), tt)
  kind_named i place _ at_i = tt

  both_named : (place : Place) (kind : Kind) → Stay_all omit (named_in_place place) → Stay_all omit (named_in_kind kind) →
      Stay_all omit (named_in (Open place kind))
  both_named Root kind one two = two
  both_named (Source p) kind one two = (one.0, two)
  both_named (Inner p) kind one two = (one.0, two)
  both_named (Notifier p) kind one two = (one.0, two)

  -- what comes since the base rests on what is there
  rests : (i q : ℕ) (e : Event) (t : Event → Bool) → slice_get h i ≡ Some e → is_making e ≡ false → (MayFollow base (take i h) e → at t (take i h) q ≡ true) →
      at t h q ≡ true
  rests i q e t at_i shows needs = by_case (found_at base h law i e at_i) where
    by_case : FoundAt base h i e → at t h q ≡ true
    by_case (in_base found same) = absurd (both_ways (is_making e) shows (law.started.making i e found))
    by_case (since_base next) = at_older t h i q (slice_get_within h i e at_i) (needs next)

  befallen : (i n : ℕ) (e : Event) → slice_get h i ≡ Some e → befalls n e ≡ true → omit i ≡ false → omit n ≡ false
  befallen i n e at_i is stay = false_from_ne_true (omit n) (λ gone. both_ways (omit i) stay (m.whole i n e at_i is gone))

  names_stay : (i : ℕ) (e : Event) → slice_get h i ≡ Some e → omit i ≡ false → Stay_all omit (named_in e)
  names_stay i (Open place kind) at_i stay = both_named place kind (place_named i place kind at_i) (kind_named i place kind at_i)
  names_stay i (Hub mode) at_i stay = tt
  names_stay i (Connect g) at_i stay = (hub_stays g (connected_hub base h law g i at_i), tt)
  names_stay i (Accept n tag) at_i stay = (m.holds_none i n tag at_i, tt)
  names_stay i (Use q) at_i stay =
      (resource_stays q (rests i q (Use q) makes_resource at_i refl (λ next. held_resource (take i h) q (may_use base next))), tt)
  names_stay i (Remove q) at_i stay =
      (resource_stays q (rests i q (Remove q) makes_resource at_i refl (λ next. owned_resource (take i h) q (may_remove base next))), tt)
  names_stay i (Lease q) at_i stay = (resource_stays q (lease_resource base h law i q at_i), tt)
  names_stay i (Return l) at_i stay = (
    made_stays makes_lease (tests.leases omit) l
        (rests i l (Return l) makes_lease at_i refl (λ next. out_lease (take i h) l (may_return base next))),
    tt,
  )
  names_stay i (Item l v) at_i stay = (befallen i l (Item l v) at_i (eq-eqb l l refl) stay, tt)
  names_stay i (Decline f) at_i stay = (merging_stays f (rests i f (Decline f) is_merging at_i refl (λ next. (may_decline base next).1)), tt)
  names_stay i (End n t) at_i stay = (befallen i n (End n t) at_i (eq-eqb n n refl) stay, tt)
  names_stay i (Close n) at_i stay = (befallen i n (Close n) at_i (eq-eqb n n refl) stay, tt)
  names_stay i (Take q) at_i stay =
      (resource_stays q (rests i q (Take q) makes_resource at_i refl (λ next. (waiting_parts (take i h) q (may_take base next)).0)), tt)

  pub omits : Omits base omit h
  omits = record { front = front_stays; each = m.each; apart = names_stay }

-- bases -----------------------------------------------------------------------------------------------------------------

pub own_nothing : HasOwnPlaces nothing_kept
own_nothing n m at_n = absurd (none-some (Close m) (sym (ap (λ (xs : List Event). slice_get xs n) shown_nothing) ∙ at_n))

pub own_base : (b : Kept) (h : List Event) → HasOwnPlaces (base_of b h)
own_base b h n m at_n = by_case (kept_at b h n (Close m) at_n) where
  by_case : ((is_open h n ≡ true) × (slice_get h n ≡ Some (Close m))) ⊎ (is_inert n (Close m) ≡ true) → m ≡ n
  by_case (inl (o, at_h)) = absurd (false≢true (sym (ap (λ (x : Option Event). option_map_or makes_node x false) at_h) ∙
      Rattle.rx_event.proofs.Laws.Stands.open_node h n o))
  by_case (inr inert) = eqb-true m n inert
