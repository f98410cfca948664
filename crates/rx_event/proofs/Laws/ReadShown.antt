-- What a report shows stays the same, when two histories that are the same but for their numbers go on by one event each.
use Rattle.rx_event.proofs.Laws.Common.{◌≡◌, ℕ, ℤ, ◌+◌, ◌<◌, ◌≤◌, Bool, true, false, List, [], ◌∷◌, ◌++◌, length, take, Option, Some, None, cond, map}
use Rattle.rx_event.proofs.Laws.Common.{slice_get, refl, sym, ap, ◌∙◌, inl, inr, ◌⊎◌, ◌==◌, nat_lt, arith, length-append, ◌-◌, subst, not, ◌&&◌, ◌||◌}
use Rattle.rx_event.proofs.Laws.Common.{AllByRecursion, filter_map, count_by, sum_by_push, option_map_or, option_and_then, false≢true, both_ways, cases_order}
use Rattle.rx_event.proofs.Laws.Common.{cases_Bool, eq-eqb, eqb-true, false_from_ne_true, slice_get_within, same_Some, Kept, shown, Event, Open, Hub, Connect}
use Rattle.rx_event.proofs.Laws.Common.{Accept, Use, Remove, Lease, Return, Item, End, Take, makes_node, makes_resource, makes_lease, node_of_accept, is_root}
use Rattle.rx_event.proofs.Laws.Common.{is_remove_of, is_return_of, is_take_of, is_use_of, at, is_open, is_owned, is_out, leases_of, is_taken, uses}
use Rattle.rx_event.proofs.Laws.Common.{Stop, Delivery, Projection, Firing, stops, mail_of, MayFollow, IsLawful, StopsAtOpen, event_by, is_named, Next}
use Rattle.rx_event.proofs.Laws.Common.{is_lease_of, is_return, is_take, notes_to, AreRenumbered}
use Rattle.std.specs.Cmp.{both_ways as same_test}
use Rattle.rx_note.specs.declared.note.Note.TheVariants.{Project, End as EndNote}
use Rattle.rx_event.specs.Notes.{told}
use Rattle.rx_event.specs.Renumbered.{IsShown}
use Rattle.rx_event.proofs.Laws.Places.{slice_get-append, slice_get_last, at-append, at_within}
use Rattle.rx_event.proofs.Laws.Openness.{is_open_within, is_open_past}
use Rattle.rx_event.proofs.Laws.Lawful.{in_base, since_base, FoundAt, found_at, may_end}
use Rattle.rx_event.proofs.Laws.Steps.{by_events, may_accept, may_emit, may_use, may_remove, may_lease, may_return, may_take}
use Rattle.rx_event.proofs.Laws.Stands.{at_older, open_node}
use Rattle.rx_event.proofs.Laws.Notes.{notes_in, notes_to-push, noted, noted_to, mail_silent}
use Rattle.rx_event.proofs.Laws.Resources.{node_of-lt, held_is, held_resource, waiting_parts, is_owned-open, is_owned_new, is_taken-push, is_taken_last}
use Rattle.rx_event.proofs.Laws.Leases.{owned_resource, out_lease, is_out-push, is_out_last, lease_older, lease_resource, leases_of_kept, leases_of-return}
use Rattle.rx_event.proofs.Laws.Leases.{leases_of_new}
use Rattle.rx_event.proofs.Laws.Totals.{uses-push, uses_past}
use Rattle.rx_event.proofs.Laws.Projections.{stops_open}
use Rattle.rx_event.proofs.Laws.ReadMade.{event_by_below, names_below}
use Rattle.rx_event.proofs.Laws.ReadDue.{trees_of}
use Rattle.rx_event.proofs.Laws.TreeRead.{same_at, stop_by, stops_by, makes_by, node_named}
use Rattle.rx_event.proofs.Laws.MakingRemovesNothing.{made_untold}
use Rattle.std.proofs.Common.{rules}

-- no number past the end was told anything ------------------------------------------------------------------------------------

notes_past : (base : Kept) → (h : List Event) → IsLawful base h → (n : ℕ) → length h ≤ n → notes_to h n ≡ []
notes_past base = by_events base (λ h. (n : ℕ) → length h ≤ n → notes_to h n ≡ []) (λ started n l. ap (notes_in n) (made_untold (shown base) started.making))
    (λ h e law next before n l.
    let past : length h ≤ n = omega (arith, length-append h (e ∷ [])) in
    notes_to-push h e n ∙ (λ i. before n past i ++ (mail_silent base) h e law next n (is_open_past h n past) i))

notes_new : (base : Kept) → (h : List Event) (e : Event) → IsLawful base h → MayFollow base h e → notes_to (h ++ e ∷ []) (length h) ≡ []
notes_new base h e law next = notes_to-push h e (length h) ∙
    (λ i. notes_past base h law (length h) (omega arith) i ++ (mail_silent base) h e law next (length h) (is_open_past h (length h) (omega arith)) i)

pub root_by : (r : ℕ → ℕ) (e : Event) → is_root (event_by r e) ≡ is_root e
root_by r e = grind arith

-- a node is named, and so is a resource
pub resource_named : (e : Event) → makes_resource e ≡ true → is_named e ≡ true
resource_named e made = grind arith

pub lease_named : (e : Event) → makes_lease e ≡ true → is_named e ≡ true
lease_named e made = grind arith

pub made_at : (q p : Event → Bool) → ((e : Event) → q e ≡ true → p e ≡ true) → (h : List Event) (n : ℕ) → at q h n ≡ true → at p h n ≡ true
made_at q p by h n = search (rules, slice_get, option_map_or, false≢true)

pub resource_made : (h : List Event) (q : ℕ) → at makes_resource h q ≡ true → (n : ℕ) × (tag : ℕ) × (slice_get h q ≡ Some (Accept n tag))
resource_made h q = search (rules, slice_get, option_map_or, Accept, false≢true)

-- a resource was accepted at a node, or names itself, where the base shows one that waits
accepted_node : (base : Kept) → (h : List Event) → IsLawful base h → (p n tag : ℕ) → slice_get h p ≡ Some (Accept n tag) → (n ≡ p) ⊎ (at makes_node h n ≡ true)
accepted_node base h law p n tag at_p = by_case (found_at base h law p (Accept n tag) at_p) where
  in_front : is_open (shown base) n ≡ true → at makes_node h n ≡ true
  in_front o = search (rules, open_node, at-append, at_within)

  by_place : slice_get (shown base) p ≡ Some (Accept n tag) → (n ≡ p) ⊎ ((n < p) ⊎ (p < n)) → (n ≡ p) ⊎ (at makes_node h n ≡ true)
  by_place found (inl same) = inl same
  by_place found (inr (inl l)) = inr (in_front (law.started.holds p n tag found l))
  by_place found (inr (inr past)) = absurd (let w = law.started.accepts p n tag found in omega arith)

  by_case : FoundAt base h p (Accept n tag) → (n ≡ p) ⊎ (at makes_node h n ≡ true)
  by_case (in_base found front) = by_place found (cases_order n p)
  by_case (since_base next) = inr (at_older makes_node h p n (slice_get_within h p _ at_p) (open_node (take p h) n (may_accept base next)))

-- an event that may follow names older numbers alone
named_by_below : (base : Kept) → (r q : ℕ → ℕ) (h : List Event) (e : Event) → ((k : ℕ) → k < length h → q k ≡ r k) → MayFollow base h e → is_named e ≡ true →
    event_by q e ≡ event_by r e
named_by_below base r q h (Open place kind) same next named = event_by_below base r q h (Open place kind) same next refl
named_by_below base r q h (Connect g) same next named = event_by_below base r q h (Connect g) same next refl
named_by_below base r q h (Hub mode) same next named = refl
named_by_below base r q h (Accept n tag) same next named = ap (λ m. Accept m tag) (same n (is_open_within h n (may_accept base next)))
named_by_below base r q h (Lease m) same next named = ap Lease (same m (at_within makes_resource h m (owned_resource h m (may_lease base next))))
named_by_below base r q h _ same next named = absurd (false≢true named)

-- and so does an event that stands in a lawful history
stands_below : {base : Kept} → (r q : ℕ → ℕ) {h : List Event} (n : ℕ) (e : Event) → IsLawful base h → ((k : ℕ) → k < length h → q k ≡ r k) →
    slice_get h n ≡ Some e → is_named e ≡ true → event_by q e ≡ event_by r e
stands_below r q n (Open place kind) law same at_n named = names_below r q n (Open place kind) law same at_n refl
stands_below r q n (Connect g) law same at_n named = names_below r q n (Connect g) law same at_n refl
stands_below r q n (Hub mode) law same at_n named = refl
stands_below {base} r q {h} n (Accept m tag) law same at_n named = ap (λ k. Accept k tag)
    (same m (let w = node_of-lt base h law n m (ap (option_and_then node_of_accept) at_n) in let l = slice_get_within h n _ at_n in omega arith))
stands_below {base} r q {h} n (Lease m) law same at_n named =
    ap Lease (same m (let w = lease_older base h law n m at_n in let l = slice_get_within h n _ at_n in omega arith))
stands_below r q n _ law same at_n named = absurd (false≢true named)

module _ (base : Kept) (r s : ℕ → ℕ) (h c : List Event) (a : AreRenumbered base r s h c) (sh : IsShown base r s h c) where
  -- numbers of what is named are apart
  apart_named : (m n : ℕ) → at is_named h m ≡ true → at is_named h n ≡ true → (r m == r n) ≡ (m == n)
  apart_named m n named also = by_test (cases_Bool (m == n)) where
    by_test : ((m == n) ≡ true) ⊎ ((m == n) ≡ false) → (r m == r n) ≡ (m == n)
    by_test (inl same) = eq-eqb (r m) (r n) (ap r (eqb-true m n same)) ∙ sym same
    by_test (inr other) = false_from_ne_true (r m == r n) (λ same.
        both_ways (m == n) other (eq-eqb m n (sym (sh.apart m named) ∙ ap s (eqb-true (r m) (r n) same) ∙ sh.apart n also))) ∙ sym other

  open_named : (m : ℕ) → is_open h m ≡ true → at is_named h m ≡ true
  open_named m o = made_at makes_node is_named node_named h m (open_node h m o)

  -- an item is told alike
  items_told : (l k : ℕ) (v : ℤ) (n : ℕ) → at is_named h n ≡ true → (ss : List Stop) → AllByRecursion (StopsAtOpen h) ss →
      notes_in (r n) (filter_map (told k v) (map (stop_by r) ss)) ≡ notes_in n (filter_map (told l v) ss)
  items_told l k v n named [] all = refl
  items_told l k v n named (Firing u ∷ ss) all = items_told l k v n named ss all.1
  items_told l k v n named (Delivery m ∷ ss) all = noted_to (r n) (r m) k (Next v) (filter_map (told k v) (map (stop_by r) ss)) ∙
      (λ i. noted (apart_named m n (open_named m all.0.0) named i) (Next v) (items_told l k v n named ss all.1 i)) ∙
      sym (noted_to n m l (Next v) (filter_map (told l v) ss))
  items_told l k v n named (Projection f ∷ ss) all = noted_to (r n) (r f) k (Project v) (filter_map (told k v) (map (stop_by r) ss)) ∙
      (λ i. noted (apart_named f n (open_named f all.0.0) named i) (Project v) (items_told l k v n named ss all.1 i)) ∙
      sym (noted_to n f l (Project v) (filter_map (told l v) ss))

  mail_same : (e : Event) → MayFollow base h e → (n : ℕ) → at is_named h n ≡ true → notes_in (r n) (mail_of c (event_by r e)) ≡ notes_in n (mail_of h e)
  mail_same (Item l v) next n named =
      ap (λ (ss : List Stop). notes_in (r n) (filter_map (told (length c) v) ss)) (stops_by r s h c (trees_of a) l (may_emit base next)) ∙
      items_told (length h) (length c) v n named (stops h l) (stops_open base h l a.law (may_emit base next))
  mail_same (End m t) next n named =
      ap (λ b. notes_in (r n) (cond b ((record { place = length c; to = r m; note = EndNote t }) ∷ []) [])) (same_at r s h c (trees_of a) is_root
      (root_by r) m (may_end base next)) ∙ by_root (at is_root h m)
    where
      by_root : (b : Bool) → notes_in (r n) (cond b ((record { place = length c; to = r m; note = EndNote t }) ∷ []) []) ≡
          notes_in n (cond b ((record { place = length h; to = m; note = EndNote t }) ∷ []) [])
      by_root false = refl
      by_root true =
          noted_to (r n) (r m) (length c) (EndNote t) [] ∙ ap (λ b. noted b (EndNote t) []) (apart_named m n (open_named m (may_end base next)) named) ∙
          sym (noted_to n m (length h) (EndNote t) [])
  mail_same _ next n named = refl

makes_resource_by : (r : ℕ → ℕ) (e : Event) → makes_resource (event_by r e) ≡ makes_resource e
makes_resource_by r e = grind arith

makes_lease_by : (r : ℕ → ℕ) (e : Event) → makes_lease (event_by r e) ≡ makes_lease e
makes_lease_by r e = grind arith

return_by : (r : ℕ → ℕ) (e : Event) → is_return (event_by r e) ≡ is_return e
return_by r e = grind arith

-- what is returned by a return
returned_by : (e : Event) → is_return e ≡ true → (l : ℕ) × (e ≡ Return l)
returned_by x0 is = search (rules, false≢true)

pub lease_made : (h : List Event) (l : ℕ) → at makes_lease h l ≡ true → (q : ℕ) × (slice_get h l ≡ Some (Lease q))
lease_made h l = search (rules, slice_get, option_map_or, false≢true)

take_by : (r : ℕ → ℕ) (e : Event) → is_take (event_by r e) ≡ is_take e
take_by r e = grind arith

-- one event more -----------------------------------------------------------------------------------------------------------------

module _ (base : Kept) (r s q t : ℕ → ℕ) (h c : List Event) (e : Event) (a : AreRenumbered base r s h c)
    (after : AreRenumbered base q t (h ++ e ∷ []) (c ++ event_by r e ∷ []))
    (sh : IsShown base r s h c) (next : MayFollow base h e) (other : MayFollow base c (event_by r e)) (older : (k : ℕ) → k < length h → q k ≡ r k)
    (older_back : (k : ℕ) → k < length c → t k ≡ s k) (newest : is_named e ≡ true → (q (length h) ≡ length c) × (t (length c) ≡ length h)) where
  abbrev H : List Event
  H = h ++ e ∷ []

  abbrev C : List Event
  C = c ++ event_by r e ∷ []

  -- what stands in the longer history stood there before, or is the new event
  data WhereStands (p : Event → Bool) (n : ℕ) : Type 0 where
    stood : n < length h → at p h n ≡ true → WhereStands p n
    stands_last : n ≡ length h → p e ≡ true → WhereStands p n

  where_stands : (p : Event → Bool) (n : ℕ) → at p H n ≡ true → WhereStands p n
  where_stands p n holds = by_place (cases_order n (length h)) where
    by_place : (n ≡ length h) ⊎ ((n < length h) ⊎ (length h < n)) → WhereStands p n
    by_place (inl same) = stands_last same (sym (ap (λ (x : Option Event). option_map_or p x false) (ap (slice_get H) same ∙ slice_get_last h e)) ∙ holds)
    by_place (inr (inl l)) = stood l (sym (at-append p h (e ∷ []) n l) ∙ holds)
    by_place (inr (inr past)) = absurd (let w = at_within p H n holds in omega (arith, length-append h (e ∷ [])))

  kept_old : (n : ℕ) (y : Event) → is_named y ≡ true → slice_get h n ≡ Some y → slice_get C (q n) ≡ Some (event_by q y)
  kept_old n y named at_n =
      let l : n < length h = slice_get_within h n y at_n in
      let was : slice_get c (r n) ≡ Some (event_by r y) = sh.kept n y named at_n in
      ap (slice_get C) (older n l) ∙ slice_get-append c (event_by r e ∷ []) (r n) (slice_get_within c (r n) _ was) ∙ was ∙
      ap (λ (z : Event). Some z) (sym (stands_below r q n y a.law older at_n named))

  kept_on : (n : ℕ) (y : Event) → is_named y ≡ true → slice_get H n ≡ Some y → slice_get C (q n) ≡ Some (event_by q y)
  kept_on n y named at_n = by_place (cases_order n (length h)) where
    by_place : (n ≡ length h) ⊎ ((n < length h) ⊎ (length h < n)) → slice_get C (q n) ≡ Some (event_by q y)
    by_place (inl same) =
        let is : e ≡ y = same_Some e y (sym (slice_get_last h e) ∙ ap (slice_get H) (sym same) ∙ at_n) in
        let also : is_named e ≡ true = ap is_named is ∙ named in
        ap (λ k. slice_get C (q k)) same ∙ ap (slice_get C) (newest also).0 ∙ slice_get_last c (event_by r e) ∙
        ap (λ (z : Event). Some z) (sym (named_by_below base r q h e older next also)) ∙ ap (λ (z : Event). Some (event_by q z)) is
    by_place (inr (inl l)) = kept_old n y named (sym (slice_get-append h (e ∷ []) n l) ∙ at_n)
    by_place (inr (inr past)) = absurd (let w = slice_get_within H n y at_n in omega (arith, length-append h (e ∷ [])))

  near : (n : ℕ) → at is_named h n ≡ true → r n < length c
  near n named = by_event (slice_get h n) refl named where
    by_event : (o : Option Event) → slice_get h n ≡ o → option_map_or is_named o false ≡ true → r n < length c
    by_event None at_n fails = absurd (false≢true fails)
    by_event (Some y) at_n is = slice_get_within c (r n) (event_by r y) (sh.kept n y is at_n)

  apart_on : (n : ℕ) → at is_named H n ≡ true → t (q n) ≡ n
  apart_on n named = by_where (where_stands is_named n named) where
    by_where : WhereStands is_named n → t (q n) ≡ n
    by_where (stood l was) = ap t (older n l) ∙ older_back (r n) (near n was) ∙ sh.apart n was
    by_where (stands_last same is) = ap (λ k. t (q k)) same ∙ ap t (newest is).0 ∙ (newest is).1 ∙ sym same

  in_order_on : (m n : ℕ) → at is_named H m ≡ true → at is_named H n ≡ true → m < n → q m < q n
  in_order_on m n named also l = by_where (where_stands is_named m named) (where_stands is_named n also) where
    by_where : WhereStands is_named m → WhereStands is_named n → q m < q n
    by_where (stands_last same is) (stands_last too are) = absurd (omega arith)
    by_where (stands_last same is) (stood k was) = absurd (omega arith)
    by_where (stood k was) (stands_last same is) = let new : q n ≡ length c = ap q same ∙ (newest is).0 in rw (older m k, new) (near m was)
    by_where (stood k was) (stood j were) = rw (older m k, older n j) (sh.in_order m n was were l)

  told_on : (n : ℕ) → at makes_node H n ≡ true → notes_to C (q n) ≡ notes_to H n
  told_on n node = by_where (where_stands makes_node n node) where
    by_where : WhereStands makes_node n → notes_to C (q n) ≡ notes_to H n
    by_where (stood l was) = ap (notes_to C) (older n l) ∙ notes_to-push c (event_by r e) (r n) ∙
        (λ i. sh.told n was i ++ (mail_same base) r s h c a sh e next n (made_at makes_node is_named node_named h n was) i) ∙ sym (notes_to-push h e n)
    by_where (stands_last same is) =
        ap (λ k. notes_to C (q k)) same ∙ ap (notes_to C) (newest (node_named e is)).0 ∙ notes_new base c (event_by r e) a.other_law other ∙
        sym (notes_new base h e a.law next) ∙ ap (notes_to H) (sym same)

  -- what befalls a resource befalls it there
  resource_at : (p : ℕ) → at makes_resource h p ≡ true → at is_named h p ≡ true
  resource_at p made = made_at makes_resource is_named resource_named h p made

  removes_same : (p : ℕ) → at makes_resource h p ≡ true → is_remove_of (r p) (event_by r e) ≡ is_remove_of p e
  removes_same p made = by_event e next where
    by_event : (x : Event) → MayFollow base h x → is_remove_of (r p) (event_by r x) ≡ is_remove_of p x
    by_event (Remove k) next = apart_named base r s h c a sh k p (resource_at k (owned_resource h k (may_remove base next))) (resource_at p made)
    by_event _ next = refl

  takes_same : (p : ℕ) → at makes_resource h p ≡ true → is_take_of (r p) (event_by r e) ≡ is_take_of p e
  takes_same p made = by_event e next where
    by_event : (x : Event) → MayFollow base h x → is_take_of (r p) (event_by r x) ≡ is_take_of p x
    by_event (Take k) next = apart_named base r s h c a sh k p (resource_at k (waiting_parts h k (may_take base next)).0) (resource_at p made)
    by_event _ next = refl

  leases_same : (p : ℕ) → at makes_resource h p ≡ true → is_lease_of (r p) (event_by r e) ≡ is_lease_of p e
  leases_same p made = by_event e next where
    by_event : (x : Event) → MayFollow base h x → is_lease_of (r p) (event_by r x) ≡ is_lease_of p x
    by_event (Lease k) next = apart_named base r s h c a sh k p (resource_at k (owned_resource h k (may_lease base next))) (resource_at p made)
    by_event _ next = refl

  lease_there : (l : ℕ) → at makes_lease h l ≡ true → at is_named h l ≡ true
  lease_there l made = made_at makes_lease is_named lease_named h l made

  returns_same : (l : ℕ) → at makes_lease h l ≡ true → is_return_of (r l) (event_by r e) ≡ is_return_of l e
  returns_same l made = by_event e next where
    by_event : (x : Event) → MayFollow base h x → is_return_of (r l) (event_by r x) ≡ is_return_of l x
    by_event (Return k) next = apart_named base r s h c a sh k l (lease_there k (out_lease h k (may_return base next))) (lease_there l made)
    by_event _ next = refl

  uses_same : (p : ℕ) → at makes_resource h p ≡ true → is_use_of (r p) (event_by r e) ≡ is_use_of p e
  uses_same p made = by_event e next where
    by_event : (x : Event) → MayFollow base h x → is_use_of (r p) (event_by r x) ≡ is_use_of p x
    by_event (Use k) next = apart_named base r s h c a sh k p (resource_at k (held_resource h k (may_use base next))) (resource_at p made)
    by_event _ next = refl

  -- a resource is no node
  not_open : (k : List Event) (p m tag : ℕ) → slice_get k p ≡ Some (Accept m tag) → is_open k p ≡ false
  not_open k p m tag at_p =
      false_from_ne_true (is_open k p) (λ o. false≢true (sym (ap (λ (x : Option Event). option_map_or makes_node x false) at_p) ∙ open_node k p o))

  open_there : (p n tag : ℕ) → p < length h → slice_get h p ≡ Some (Accept n tag) → (n ≡ p) ⊎ (at makes_node h n ≡ true) → is_open C (q n) ≡ is_open H n
  open_there p n tag l at_p (inr node) = (same_test (is_open C (q n)) (is_open H n) (λ o. sym (ap (is_open H) (apart_on n
      (made_at makes_node is_named node_named H n (at-append makes_node h (e ∷ []) n (at_within makes_node h n node) ∙ node)))) ∙
      after.back.alive (q n) o) (after.there.alive n))
  open_there p n tag l at_p (inl same) =
      let here : slice_get H p ≡ Some (Accept n tag) = slice_get-append h (e ∷ []) p l ∙ at_p in
      ap (λ k. is_open C (q k)) same ∙ not_open C (q p) (q n) tag (kept_old p (Accept n tag) refl at_p) ∙ sym (not_open H p n tag here) ∙
      ap (is_open H) (sym same)

  owned_on : (p : ℕ) → at makes_resource H p ≡ true → is_owned C (q p) ≡ is_owned H p
  owned_on p made = by_where (where_stands makes_resource p made) where
    by_where : WhereStands makes_resource p → is_owned C (q p) ≡ is_owned H p
    by_where (stands_last same is) =
        ap (λ k. is_owned C (q k)) same ∙ ap (is_owned C) (newest (resource_named e is)).0 ∙ is_owned_new base c (event_by r e) a.other_law other ∙
        makes_resource_by r e ∙ sym (is_owned_new base h e a.law next) ∙ ap (is_owned H) (sym same)
    by_where (stood l was) =
        let w : (n : ℕ) × (tag : ℕ) × (slice_get h p ≡ Some (Accept n tag)) = resource_made h p was in
        let there : slice_get c (r p) ≡ Some (Accept (r w.0) w.1) = sh.kept p (Accept w.0 w.1) refl w.2 in
        let below : w.0 ≤ p = node_of-lt base h a.law p w.0 (ap (option_and_then node_of_accept) w.2) in
        let number : q w.0 ≡ r w.0 = older w.0 (omega arith) in
        let open_on : is_open C (r w.0) ≡ is_open H w.0 = sym (ap (is_open C) number) ∙ open_there p w.0 w.1 l w.2 (accepted_node base h a.law p w.0 w.1 w.2) in
        ap (is_owned C) (older p l) ∙ is_owned-open base c (event_by r e) a.other_law (r p) (r w.0) (ap (option_and_then node_of_accept) there) ∙
        (λ i. sh.owned p was i && open_on i && not (removes_same p was i)) ∙ sym (is_owned-open base h e a.law p w.0 (ap (option_and_then node_of_accept) w.2))

  -- as many leases of a resource are out
  leases_on : (p : ℕ) → at makes_resource H p ≡ true → leases_of C (q p) ≡ leases_of H p
  leases_on p made = by_where (where_stands makes_resource p made) where
    by_return : (b : Bool) → is_return e ≡ b → at makes_resource h p ≡ true → leases_of C (r p) ≡ leases_of H p
    by_return false other_kind was =
        leases_of_kept base c (event_by r e) a.other_law (return_by r e ∙ other_kind) (r p) ∙ (λ i. sh.leases p was i + cond (leases_same p was i) 1 0) ∙
        sym (leases_of_kept base h e a.law other_kind p)
    by_return true back was =
        let is = returned_by e back in
        let out : MayFollow base h (Return is.0) = subst (λ x. MayFollow base h x) is.1 next in
        let out_there : MayFollow base c (Return (r is.0)) = subst (λ x. MayFollow base c (event_by r x)) is.1 other in
        let of = lease_made h is.0 (out_lease h is.0 (may_return base out)) in
        let same : cond {A = ℕ} (r of.0 == r p) 1 0 ≡ cond (of.0 == p) 1 0 =
        ap (λ b. cond {A = ℕ} b 1 0) (apart_named base r s h c a sh of.0 p (resource_at of.0 (lease_resource base h a.law is.0 of.0 of.1))
        (resource_at p was)) in
        let here = leases_of-return base h is.0 of.0 a.law out of.1 p in
        let there = leases_of-return base c (r is.0) (r of.0) a.other_law out_there (sh.kept is.0 (Lease of.0) refl of.1) (r p) in
        let before = sh.leases p was in
        let counts : leases_of (c ++ Return (r is.0) ∷ []) (r p) ≡ leases_of (h ++ Return is.0 ∷ []) p = omega arith in
        ap (λ x. leases_of (c ++ event_by r x ∷ []) (r p)) is.1 ∙ counts ∙ sym (ap (λ x. leases_of (h ++ x ∷ []) p) is.1)

    by_where : WhereStands makes_resource p → leases_of C (q p) ≡ leases_of H p
    by_where (stands_last same is) =
        ap (λ k. leases_of C (q k)) same ∙ ap (leases_of C) (newest (resource_named e is)).0 ∙ leases_of_new base c (event_by r e) a.other_law
        (makes_resource_by r e ∙ is) ∙ sym (leases_of_new base h e a.law is) ∙ ap (leases_of H) (sym same)
    by_where (stood l was) = ap (leases_of C) (older p l) ∙ by_return (is_return e) refl was

  -- the same leases are out
  out_on : (l : ℕ) → at makes_lease H l ≡ true → is_out C (q l) ≡ is_out H l
  out_on l made = by_where (where_stands makes_lease l made) where
    by_where : WhereStands makes_lease l → is_out C (q l) ≡ is_out H l
    by_where (stands_last same is) =
        ap (λ k. is_out C (q k)) same ∙ ap (is_out C) (newest (lease_named e is)).0 ∙ is_out_last base c (event_by r e) a.other_law ∙ makes_lease_by r e ∙
        sym (is_out_last base h e a.law) ∙ ap (is_out H) (sym same)
    by_where (stood less was) =
        let of = lease_made h l was in
        let there : slice_get c (r l) ≡ Some (Lease (r of.0)) = sh.kept l (Lease of.0) refl of.1 in
        ap (is_out C) (older l less) ∙ is_out-push c (event_by r e) (r l) (slice_get_within c (r l) _ there) ∙
        (λ i. sh.out l was i && not (returns_same l was i)) ∙ sym (is_out-push h e l less)

  taken_on : (p : ℕ) → at makes_resource H p ≡ true → is_taken C (q p) ≡ is_taken H p
  taken_on p made = by_where (where_stands makes_resource p made) where
    by_where : WhereStands makes_resource p → is_taken C (q p) ≡ is_taken H p
    by_where (stands_last same is) =
        ap (λ k. is_taken C (q k)) same ∙ ap (is_taken C) (newest (resource_named e is)).0 ∙ is_taken_last base c (event_by r e) a.other_law ∙
        sym (is_taken_last base h e a.law) ∙ ap (is_taken H) (sym same)
    by_where (stood l was) =
        let w : (n : ℕ) × (tag : ℕ) × (slice_get h p ≡ Some (Accept n tag)) = resource_made h p was in
        let there : slice_get c (r p) ≡ Some (Accept (r w.0) w.1) = sh.kept p (Accept w.0 w.1) refl w.2 in
        let made_there : at makes_resource c (r p) ≡ at makes_resource h p = ap (λ (x : Option Event). option_map_or makes_resource x false) there ∙ sym was in
        ap (is_taken C) (older p l) ∙ is_taken-push c (event_by r e) (r p) (slice_get_within c (r p) _ there) ∙
        (λ i. sh.taken p was i || (made_there i && takes_same p was i)) ∙ sym (is_taken-push h e p l)

  used_on : (p : ℕ) → at makes_resource H p ≡ true → uses base C (q p) ≡ uses base H p
  used_on p made = by_where (where_stands makes_resource p made) where
    uses_none : (x : Event) (k : ℕ) → makes_resource x ≡ true → cond {A = ℕ} (is_use_of k x) 1 0 ≡ 0
    uses_none (Accept n tag) k is = refl
    uses_none _ k is = absurd (false≢true is)

    by_where : WhereStands makes_resource p → uses base C (q p) ≡ uses base H p
    by_where (stands_last same is) =
        let one : uses base H (length h) ≡ uses base h (length h) + cond (is_use_of (length h) e) 1 0 = uses-push base h e (length h) in
        let two : uses base C (length c) ≡ uses base c (length c) + cond (is_use_of (length c) (event_by r e)) 1 0 =
        uses-push base c (event_by r e) (length c) in
        let none : uses base h (length h) ≡ 0 = uses_past base h a.law (length h) (omega arith) in
        let none_there : uses base c (length c) ≡ 0 = uses_past base c a.other_law (length c) (omega arith) in
        let zero_here : cond {A = ℕ} (is_use_of (length h) e) 1 0 ≡ 0 = uses_none e (length h) is in
        let zero_there : cond {A = ℕ} (is_use_of (length c) (event_by r e)) 1 0 ≡ 0 = uses_none (event_by r e) (length c) (makes_resource_by r e ∙ is) in
        let both : uses base C (length c) ≡ uses base H (length h) = omega arith in
        ap (λ k. uses base C (q k)) same ∙ ap (uses base C) (newest (resource_named e is)).0 ∙ both ∙ ap (uses base H) (sym same)
    by_where (stood l was) = ap (uses base C) (older p l) ∙ uses-push base c (event_by r e) (r p) ∙ (λ i. sh.used p was i + cond (uses_same p was i) 1 0) ∙
        sym (uses-push base h e p)

  -- a test that sees no number counts as much more
  counts_on : (p : Event → Bool) → p (event_by r e) ≡ p e → count_by p c ≡ count_by p h → count_by p C ≡ count_by p H
  counts_on p same before = search (rules, sum_by_push, cond)

  totals_on : (n : ℕ) (p : Event → Bool) → p (event_by r e) ≡ p e → n + count_by p c ≡ n + count_by p h → n + count_by p C ≡ n + count_by p H
  totals_on n p same before = let less : count_by p c ≡ count_by p h = omega arith in ap (λ x. n + x) (counts_on p same less)

  pub is_shown_on : IsShown base q t H C
  is_shown_on = record {
    kept = kept_on;
    apart = apart_on;
    in_order = in_order_on;
    told = told_on;
    owned = owned_on;
    leases = leases_on;
    held = λ p made.
        let w : (n : ℕ) × (tag : ℕ) × (slice_get H p ≡ Some (Accept n tag)) = resource_made H p made in
        let there : at makes_resource C (q p) ≡ at makes_resource H p = ap (λ (x : Option Event). option_map_or makes_resource x false)
        (kept_on p (Accept w.0 w.1) refl w.2) ∙ sym made in
        held_is C (q p) ∙ (λ i. owned_on p made i || (there i && nat_lt 0 (leases_on p made i))) ∙ sym (held_is H p);
    out = out_on;
    taken = taken_on;
    used = used_on;
    node_total = counts_on makes_node (makes_by r e) sh.node_total;
    accepted_total = totals_on (base.accepted - count_by makes_resource (shown base)) makes_resource (makes_resource_by r e) sh.accepted_total;
    taken_total = totals_on base.taken is_take (take_by r e) sh.taken_total;
  }
