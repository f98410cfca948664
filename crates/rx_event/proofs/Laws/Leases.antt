-- Which leases are out after one more event, and how many of each resource.
use Rattle.rx_event.proofs.Laws.Common.{◌≡◌, ℕ, ◌+◌, ◌<◌, ◌≤◌, Bool, true, false, List, [], ◌∷◌, ◌++◌, length, take, Some, cond, refl, sym, ap, subst, ◌∙◌}
use Rattle.rx_event.proofs.Laws.Common.{arith, inl, inr, ◌⊎◌, ◌==◌, nat_lt, slice_get, length-append, not, ◌&&◌, list_any, sum_by, count_by, range_with_len}
use Rattle.rx_event.proofs.Laws.Common.{option_and_then, option_map_or, cases_Bool, both_ways, false≢true, and_parts, ne_eqb, eqb-true, eq-eqb, lt-ltb}
use Rattle.rx_event.proofs.Laws.Common.{false_from_ne_true, length-take-le, slice_get_past, slice_get_within, Kept, shown, Event, Accept, Lease, Return}
use Rattle.rx_event.proofs.Laws.Common.{makes_resource, makes_lease, is_return_of, at, places, is_owned, is_out, leases_of, MayFollow, IsLawful, and_false}
use Rattle.rx_event.proofs.Laws.Common.{and_true, and_not_or, none_counted, ltb-true, is_lease_of, is_return, is_leased}
use Rattle.std.proofs.lemmas.Bool.{or_from}
use Rattle.rx_event.specs.Resources.{is_out_of}
use Rattle.rx_event.specs.Totals.{lease_count}
use Rattle.rx_event.proofs.Laws.Places.{slice_get_last, at-append, at_within}
use Rattle.rx_event.proofs.Laws.Searches.{list_any_push}
use Rattle.rx_event.proofs.Laws.Sums.{sum_by-places-push, sums_balance, sum_by-same, sum_by_none, sum_by_one, count_by_one, term_in_sum}
use Rattle.rx_event.proofs.Laws.Lawful.{in_base, since_base, FoundAt, found_at}
use Rattle.rx_event.proofs.Laws.Steps.{by_events, may_lease, may_return}
use Rattle.rx_event.proofs.Laws.Stands.{at_older}
use Rattle.rx_event.proofs.Laws.MakingRemovesNothing.{made_unreturned}
use Rattle.std.proofs.Common.{rules}

one_if : {a b : Bool} → a ≡ b → cond {A = ℕ} a 1 0 ≡ cond {A = ℕ} b 1 0
one_if same = ap (λ (b : Bool). cond {A = ℕ} b 1 0) same

-- what is owned is a resource ------------------------------------------------------------------------

pub owned_resource : (h : List Event) (r : ℕ) → is_owned h r ≡ true → at makes_resource h r ≡ true
unfolding is_owned
owned_resource h r owned = search (rules, slice_get, and_parts, option_map_or, option_and_then, Accept)

pub is_owned_within : (h : List Event) (r : ℕ) → is_owned h r ≡ true → r < length h
is_owned_within h r owned = at_within makes_resource h r (owned_resource h r owned)

-- out ------------------------------------------------------------------------------------------------

-- an older lease is out if it was, and is not returned
pub is_out-push : (h : List Event) (e : Event) (l : ℕ) → l < length h → is_out (h ++ e ∷ []) l ≡ (is_out h l && not (is_return_of l e))
unfolding is_out
is_out-push h e l less = search (rules, at-append, not, list_any_push, and_not_or, list_any)

-- what is out is a lease
pub out_lease : (h : List Event) (l : ℕ) → is_out h l ≡ true → at makes_lease h l ≡ true
unfolding is_out
out_lease h l out = (and_parts _ _ out).0

pub is_out_within : (h : List Event) (l : ℕ) → is_out h l ≡ true → l < length h
is_out_within h l out = at_within makes_lease h l (out_lease h l out)

pub is_out_past : (h : List Event) (l : ℕ) → length h ≤ l → is_out h l ≡ false
unfolding is_out
is_out_past h l past = rw (slice_get_past h l past) refl

returns_older : (base : Kept) → (h : List Event) (e : Event) → MayFollow base h e → (l : ℕ) → length h ≤ l → is_return_of l e ≡ false
returns_older base h x2 next l past = search (rules, is_out_within, may_return, ne_eqb)

-- only older leases are returned
pub no_return : (base : Kept) → (h : List Event) → IsLawful base h → (l : ℕ) → length h ≤ l → list_any (is_return_of l) h ≡ false
no_return base = by_events base (λ h. (l : ℕ) → length h ≤ l → list_any (is_return_of l) h ≡ false) (λ s l past. made_unreturned (shown base) s.making l)
    (λ h e law next before l past.
    let b : length h ≤ l = omega (arith, length-append h (e ∷ [])) in
    list_any_push (is_return_of l) h e ∙ or_from _ _ (before l b) (returns_older base h e next l b))

-- a new lease is out
pub is_out_last : (base : Kept) → (h : List Event) (e : Event) → IsLawful base h → is_out (h ++ e ∷ []) (length h) ≡ makes_lease e
unfolding is_out
is_out_last base h e law = ap (λ o. option_map_or makes_lease o false && not (list_any (is_return_of (length h)) (h ++ e ∷ []))) (slice_get_last h e) ∙
    by_event e where
      by_event : (e : Event) → (makes_lease e && not (list_any (is_return_of (length h)) (h ++ e ∷ []))) ≡ makes_lease e
      by_event (Lease r) = ap not (list_any_push (is_return_of (length h)) h (Lease r) ∙ or_from _ _ (no_return base h law (length h) (omega arith)) refl)
      by_event _ = refl

-- what is leased ---------------------------------------------------------------------------------------

-- a lease names a resource that was there before it
pub lease_before : (base : Kept) → (h : List Event) → IsLawful base h → (l r : ℕ) → slice_get h l ≡ Some (Lease r) → at makes_resource (take l h) r ≡ true
lease_before base h law l r at_l = by_case (found_at base h law l (Lease r) at_l) where
  by_case : FoundAt base h l (Lease r) → at makes_resource (take l h) r ≡ true
  by_case (in_base found same) = ap (λ k. at makes_resource k r) same ∙ law.started.leases l r found
  by_case (since_base next) = owned_resource (take l h) r (may_lease base next)

pub lease_resource : (base : Kept) → (h : List Event) → IsLawful base h → (l r : ℕ) → slice_get h l ≡ Some (Lease r) → at makes_resource h r ≡ true
lease_resource base h law l r at_l = search (rules, at_older, slice_get_within, lease_before)

pub lease_older : (base : Kept) → (h : List Event) → IsLawful base h → (l r : ℕ) → slice_get h l ≡ Some (Lease r) → r < l
lease_older base h law l r at_l =
    let w : r < length (take l h) = at_within makes_resource (take l h) r (lease_before base h law l r at_l) in
    let k : length (take l h) ≡ l = length-take-le l h (let m = slice_get_within h l (Lease r) at_l in omega arith) in omega arith

-- a lease of r is the event that leases r
lease_is : (r : ℕ) (e : Event) → is_lease_of r e ≡ true → e ≡ Lease r
lease_is r e same = grind arith

pub lease_at : (h : List Event) (r l : ℕ) → at (is_lease_of r) h l ≡ true → slice_get h l ≡ Some (Lease r)
lease_at h r l passes = search (rules, slice_get, option_map_or, false≢true, lease_is)

-- nothing beyond the end is leased
no_lease : (base : Kept) → (h : List Event) → IsLawful base h → (r : ℕ) → length h ≤ r → (l : ℕ) → at (is_lease_of r) h l ≡ false
no_lease base h law r past l = by_test (cases_Bool (at (is_lease_of r) h l)) where
  by_test : (at (is_lease_of r) h l ≡ true) ⊎ (at (is_lease_of r) h l ≡ false) → at (is_lease_of r) h l ≡ false
  by_test (inr none) = none
  by_test (inl some) =
      let at_l : slice_get h l ≡ Some (Lease r) = lease_at h r l some in
      let older = lease_older base h law l r at_l in
      let within = slice_get_within h l (Lease r) at_l in absurd (omega arith)

-- counted ----------------------------------------------------------------------------------------------

-- the leases of r that the event returns
abbrev returned_count : List Event → ℕ → Event → ℕ
returned_count h r e = count_by (λ l. is_out_of h r l && is_return_of l e) (places h)

lease_made : (r : ℕ) (e : Event) → (is_lease_of r e && makes_lease e) ≡ is_lease_of r e
lease_made r x1 = search (rules, and_true)

leases_of-push : (base : Kept) → (h : List Event) (e : Event) → IsLawful base h → (r : ℕ) →
    leases_of (h ++ e ∷ []) r + returned_count h r e ≡ leases_of h r + cond (is_lease_of r e) 1 0
unfolding leases_of
leases_of-push base h e law r =
    let older : count_by (is_out_of (h ++ e ∷ []) r) (places h) + returned_count h r e ≡ count_by (is_out_of h r) (places h) + sum_by (λ (l : ℕ). 0)
    (places h) =
    sums_balance (λ l. cond (is_out_of (h ++ e ∷ []) r l) 1 0) (λ l. cond (is_out_of h r l && is_return_of l e) 1 0) (λ l. cond (is_out_of h r l) 1 0)
    (λ l. 0) (length h) (λ l less. ap (λ b. cond {A = ℕ} b 1 0 + cond (is_out_of h r l && is_return_of l e) 1 0)
    (λ i. at-append (is_lease_of r) h (e ∷ []) l less i && is_out-push h e l less i) ∙ shape (at (is_lease_of r) h l) (is_out h l) (is_return_of l e)) in
    let none = sum_by_none (λ l. 0) (length h) (λ l less. refl) in
    let last = sum_by-places-push (λ l. cond (is_out_of (h ++ e ∷ []) r l) 1 0) h e in
    let new : cond {A = ℕ} (is_out_of (h ++ e ∷ []) r (length h)) 1 0 ≡ cond (is_lease_of r e) 1 0 =
    one_if ((λ i. option_map_or (is_lease_of r) (slice_get_last h e i) false && is_out_last base h e law i) ∙ lease_made r e) in
    omega arith
  where
    shape : (a o k : Bool) → cond {A = ℕ} (a && (o && not k)) 1 0 + cond {A = ℕ} ((a && o) && k) 1 0 ≡ cond {A = ℕ} (a && o) 1 0 + 0
    shape a o k = grind arith

-- no lease is returned but by a return
returned_none : (h : List Event) (r : ℕ) (e : Event) → is_return e ≡ false → returned_count h r e ≡ 0
returned_none h r e none = search (rules, sum_by_none, length, cond, none_counted)

pub leases_of_kept : (base : Kept) → (h : List Event) (e : Event) → IsLawful base h → is_return e ≡ false → (r : ℕ) →
    leases_of (h ++ e ∷ []) r ≡ leases_of h r + cond (is_lease_of r e) 1 0
leases_of_kept base h e law none r = let push = leases_of-push base h e law r in let back = returned_none h r e none in omega arith

-- a return takes away one lease of its resource
pub leases_of-return : (base : Kept) → (h : List Event) (l q : ℕ) → IsLawful base h → MayFollow base h (Return l) → slice_get h l ≡ Some (Lease q) → (r : ℕ) →
    leases_of (h ++ Return l ∷ []) r + cond (q == r) 1 0 ≡ leases_of h r
leases_of-return base h l q law next at_l r =
    let push = leases_of-push base h (Return l) law r in
    let once : returned_count h r (Return l) ≡ cond (q == r) 1 0 =
    sum_by-same (λ m. cond (l == m) (cond (q == r) 1 0) 0) (λ m. cond (is_out_of h r m && l == m) 1 0) (length h) (λ m less. each m (l == m) refl) ∙
    sum_by_one (λ m. cond (q == r) 1 0) l (length h) (slice_get_within h l (Lease q) at_l) in
    omega arith
  where
    there : is_out_of h r l ≡ (q == r)
    there = (λ i. option_map_or (is_lease_of r) (at_l i) false && may_return base next i) ∙ and_true (q == r)

    shape_true : (b : Bool) → cond {A = ℕ} (b && true) 1 0 ≡ cond b 1 0
    shape_true b = grind arith

    each : (m : ℕ) (b : Bool) → (l == m) ≡ b → cond {A = ℕ} (is_out_of h r m && b) 1 0 ≡ cond b (cond (q == r) 1 0) 0
    each m false apart = none_counted (is_out_of h r m)
    each m true same = shape_true (is_out_of h r m) ∙ one_if (ap (is_out_of h r) (sym (eqb-true l m same)) ∙ there)

-- beyond the end nothing has a lease
pub leases_of_past : (base : Kept) → (h : List Event) → IsLawful base h → (r : ℕ) → length h ≤ r → leases_of h r ≡ 0
unfolding leases_of
leases_of_past base h law r past = sum_by_none (λ l. cond (is_out_of h r l) 1 0) (length h)
    (λ l less. ap (λ b. cond {A = ℕ} (b && is_out h l) 1 0) (no_lease base h law r past l))

-- a lease that is out is counted
pub leases_of_some : (h : List Event) (l r : ℕ) → slice_get h l ≡ Some (Lease r) → is_out h l ≡ true → 0 < leases_of h r
unfolding leases_of
leases_of_some h l r at_l out =
    let one : cond {A = ℕ} (is_out_of h r l) 1 0 ≡ 1 = one_if ((λ i. option_map_or (is_lease_of r) (at_l i) false && out i) ∙ ap (λ b. b && true)
    (eq-eqb r r refl)) in
    let within = term_in_sum (λ m. cond (is_out_of h r m) 1 0) l (length h) (slice_get_within h l (Lease r) at_l) in omega arith

-- leased -----------------------------------------------------------------------------------------------

pub leased_resource : (h : List Event) (r : ℕ) → is_leased h r ≡ true → at makes_resource h r ≡ true
leased_resource h r leased = (and_parts _ _ leased).0

pub leased_some : (h : List Event) (r : ℕ) → is_leased h r ≡ true → 0 < leases_of h r
leased_some h r leased = ltb-true 0 (leases_of h r) (and_parts (at makes_resource h r) (nat_lt 0 (leases_of h r)) leased).1

pub leased_where : (h : List Event) (r : ℕ) → at makes_resource h r ≡ true → 0 < leases_of h r → is_leased h r ≡ true
leased_where h r made some = λ i. made i && lt-ltb 0 (leases_of h r) some i

pub is_leased_past : (h : List Event) (r : ℕ) → length h ≤ r → is_leased h r ≡ false
is_leased_past h r past = search (rules, option_map_or, nat_lt, slice_get_past)

-- an event that neither leases nor returns leaves leased what is leased, and nothing more
pub is_leased_kept : (base : Kept) → (h : List Event) (e : Event) → IsLawful base h → (r : ℕ) → r < length h → is_return e ≡ false → is_lease_of r e ≡ false →
    is_leased (h ++ e ∷ []) r ≡ is_leased h r
is_leased_kept base h e law r less none keeps =
    let same : leases_of (h ++ e ∷ []) r ≡ leases_of h r = (let kept = leases_of_kept base h e law none r in let zero_more = one_if keeps in omega arith) in
    (λ i. at-append makes_resource h (e ∷ []) r less i && nat_lt 0 (same i))

-- a new resource is not leased
pub is_leased_last : (base : Kept) → (h : List Event) (e : Event) → IsLawful base h → is_leased (h ++ e ∷ []) (length h) ≡ false
is_leased_last base h e law = ap (λ o. option_map_or makes_resource o false && nat_lt 0 (leases_of (h ++ e ∷ []) (length h))) (slice_get_last h e) ∙
    by_event e where
      by_event : (e : Event) → (makes_resource e && nat_lt 0 (leases_of (h ++ e ∷ []) (length h))) ≡ false
      by_event (Accept n tag) = ap (nat_lt 0) (let kept = leases_of_kept base h (Accept n tag) law refl (length h) in let none = leases_of_past base h law
          (length h) (omega arith) in let e : leases_of (h ++ Accept n tag ∷ []) (length h) ≡ 0 = omega arith in e)
      by_event _ = refl

-- what is leased anew was owned
pub lease_owned : (base : Kept) → (h : List Event) (e : Event) → MayFollow base h e → (r : ℕ) → is_lease_of r e ≡ true → is_owned h r ≡ true
lease_owned base h e next r leases = may_lease base (subst (λ x. MayFollow base h x) (lease_is r e leases) next)

-- what is not owned gets no lease more
pub leases_of_no_rise : (base : Kept) → (h : List Event) (e : Event) → IsLawful base h → MayFollow base h e → (r : ℕ) → is_owned h r ≡ false →
    leases_of (h ++ e ∷ []) r ≤ leases_of h r
leases_of_no_rise base h e law next r free =
    let push = leases_of-push base h e law r in
    let none = one_if (false_from_ne_true (is_lease_of r e) (λ leases. both_ways _ free (lease_owned base h e next r leases))) in omega arith

-- so what is leased was leased, or owned
pub leased_old : (base : Kept) → (h : List Event) (e : Event) → IsLawful base h → (r : ℕ) → r < length h → (is_lease_of r e ≡ true → is_owned h r ≡ true) →
    is_leased (h ++ e ∷ []) r ≡ true → (is_leased h r ≡ true) ⊎ (is_owned h r ≡ true)
leased_old base h e law r less may leased = by_test (cases_Bool (is_lease_of r e)) where
  made : at makes_resource h r ≡ true
  made = sym (at-append makes_resource h (e ∷ []) r less) ∙ leased_resource (h ++ e ∷ []) r leased

  by_test : (is_lease_of r e ≡ true) ⊎ (is_lease_of r e ≡ false) → (is_leased h r ≡ true) ⊎ (is_owned h r ≡ true)
  by_test (inl leases) = inr (may leases)
  by_test (inr none) =
      inl (leased_where h r made (let some = leased_some (h ++ e ∷ []) r leased in let push = leases_of-push base h e law r in let zero_more = one_if none
      in omega arith))

-- all leases -------------------------------------------------------------------------------------------

pub lease_count-push : (base : Kept) → (h : List Event) (e : Event) → IsLawful base h → MayFollow base h e →
    lease_count (h ++ e ∷ []) + cond (is_return e) 1 0 ≡ lease_count h + cond (makes_lease e) 1 0
lease_count-push base h e law next =
    let older : count_by (is_out (h ++ e ∷ [])) (places h) + count_by (λ l. is_return_of l e) (places h) ≡ lease_count h + sum_by (λ (l : ℕ). 0) (places h) =
    sums_balance (λ l. cond (is_out (h ++ e ∷ []) l) 1 0) (λ l. cond (is_return_of l e) 1 0) (λ l. cond (is_out h l) 1 0) (λ l. 0) (length h)
    (λ l less. ap (λ b. cond {A = ℕ} b 1 0 + cond (is_return_of l e) 1 0) (is_out-push h e l less) ∙ shape (is_out h l) (is_return_of l e)
    (was_out e next l)) in
    let none = sum_by_none (λ l. 0) (length h) (λ l less. refl) in
    let once = returns_once e next in
    let last = sum_by-places-push (λ l. cond (is_out (h ++ e ∷ []) l) 1 0) h e in
    let new = one_if (is_out_last base h e law) in
    omega arith
  where
    was_out : (e : Event) → MayFollow base h e → (l : ℕ) → is_return_of l e ≡ true → is_out h l ≡ true
    was_out (Return m) next l same = ap (is_out h) (sym (eqb-true m l same)) ∙ may_return base next
    was_out _ next l same = absurd (false≢true same)

    returns_once : (e : Event) → MayFollow base h e → count_by (λ l. is_return_of l e) (places h) ≡ cond (is_return e) 1 0
    returns_once (Return m) next = count_by_one m (length h) (is_out_within h m (may_return base next))
    returns_once _ next = sum_by_none (λ l. 0) (length h) (λ l less. refl)

    shape : (o k : Bool) → (k ≡ true → o ≡ true) → cond {A = ℕ} (o && not k) 1 0 + cond {A = ℕ} k 1 0 ≡ cond {A = ℕ} o 1 0 + 0
    shape o k out = grind arith

-- no lease is out where none is counted
pub none_out : (h : List Event) → lease_count h ≡ 0 → (l : ℕ) → is_out h l ≡ false
none_out h none l = by_test (cases_Bool (is_out h l)) where
  by_test : (is_out h l ≡ true) ⊎ (is_out h l ≡ false) → is_out h l ≡ false
  by_test (inr free) = free
  by_test (inl out) =
      let one : cond {A = ℕ} (is_out h l) 1 0 ≡ 1 = one_if out in
      let within = term_in_sum (λ m. cond (is_out h m) 1 0) l (length h) (is_out_within h l out) in absurd (omega arith)

pub none_leased : (h : List Event) → lease_count h ≡ 0 → (r : ℕ) → leases_of h r ≡ 0
unfolding leases_of
none_leased h none r = search (rules, sum_by_none, cond, length, none_out, none_counted)

-- in a lawful history what has a lease out is a resource
none_of_others : (base : Kept) → (h : List Event) → IsLawful base h → (r : ℕ) → at makes_resource h r ≡ false → leases_of h r ≡ 0
unfolding leases_of
none_of_others base h law r other = sum_by_none (λ l. cond (is_out_of h r l) 1 0) (length h)
    (λ l less. ap (λ b. cond {A = ℕ} (b && is_out h l) 1 0) (false_from_ne_true (at (is_lease_of r) h l) (λ leases.
    both_ways _ other (lease_resource base h law l r (lease_at h r l leases)))))

pub is_leased-counted : (base : Kept) → (h : List Event) → IsLawful base h → (r : ℕ) → is_leased h r ≡ nat_lt 0 (leases_of h r)
is_leased-counted base h law r = by_test (at makes_resource h r) refl where
  by_test : (b : Bool) → at makes_resource h r ≡ b → (b && nat_lt 0 (leases_of h r)) ≡ nat_lt 0 (leases_of h r)
  by_test true made = refl
  by_test false other = sym (ap (nat_lt 0) (none_of_others base h law r other))

-- an event that leases and returns nothing of it
pub leases_of_still : (base : Kept) → (h : List Event) (e : Event) → IsLawful base h → is_return e ≡ false → (r : ℕ) → is_lease_of r e ≡ false → leases_of
    (h ++ e ∷ []) r ≡ leases_of h r
leases_of_still base h e law none r keeps = let kept = leases_of_kept base h e law none r in let zero_more = one_if keeps in omega arith

-- a new resource has none
pub leases_of_new : (base : Kept) → (h : List Event) (e : Event) → IsLawful base h → makes_resource e ≡ true → leases_of (h ++ e ∷ []) (length h) ≡ 0
leases_of_new base h (Accept n tag) law made =
    let kept = leases_of_kept base h (Accept n tag) law refl (length h) in let none = leases_of_past base h law (length h) (omega arith) in omega arith
leases_of_new base h _ law made = absurd (false≢true made)

-- lists of events that have the same leases out have as many of each resource
pub leases_of_same : (h k : List Event) → length h ≡ length k → ((l : ℕ) → is_out h l ≡ is_out k l) →
    ((l : ℕ) → is_out h l ≡ true → slice_get h l ≡ slice_get k l) → (r : ℕ) → leases_of h r ≡ leases_of k r
unfolding leases_of
leases_of_same h k long same made r = search (rules, sum_by-same, cond, length, sum_by, range_with_len, option_map_or, and_false)
