-- The leases that are out, and how many of each resource, after one more event.
use Rattle.rx_script.proofs.Common.{◌≡◌, ℕ, ◌-◌, ◌<◌, ◌≤◌, ◌==◌, Bool, true, false, List, [], ◌∷◌, ◌++◌, length, Option, Some, None, cond, slice_get, refl, sym}
use Rattle.rx_script.proofs.Common.{ap, ◌∙◌, arith, inl, inr, ◌⊎◌, length-append, not, option_and_then, option_map_or, cases_order, cases_Bool, ne_eqb, eq-eqb}
use Rattle.rx_script.proofs.Common.{eqb-true, false≢true, count_by-le-length, Event, Open, Lease, Return, makes_lease, is_lease_of, is_return, nothing_kept}
use Rattle.rx_script.proofs.Common.{shown, IsLawful, MayFollow, is_out, leases_of, slice_get-append, slice_get_last, lawful_front, lawful_last}
use Rattle.std.proofs.lemmas.List.FromFn.{length-range_with_len}
use Rattle.rx_event.specs.Events.{leased_of, is_return_of}
use Rattle.rx_event.proofs.Laws.Steps.{may_return}
use Rattle.rx_event.proofs.Laws.Leases.{is_out-push, is_out_last, is_out_past, out_lease, leases_of-return}
use Rattle.rx_script.specs.Tallies.{leased_out}
use Rattle.std.proofs.Common.{rules}

pub nothing_before : (h : List Event) → length (shown nothing_kept) ≤ length h
unfolding shown
nothing_before h = omega arith

-- of a lawful history, what was there before its last event, and that this may follow
pub front_lawful : (h : List Event) (e : Event) → IsLawful nothing_kept (h ++ e ∷ []) → IsLawful nothing_kept h
front_lawful h e law = lawful_front nothing_kept h e (nothing_before h) law

pub last_follows : (h : List Event) (e : Event) → IsLawful nothing_kept (h ++ e ∷ []) → MayFollow nothing_kept h e
last_follows h e law = lawful_last nothing_kept h e (nothing_before h) law

-- which leases are out ---------------------------------------------------------------------------------

older_out : (h : List Event) (e : Event) (l : ℕ) → l < length h → leased_out (h ++ e ∷ []) l ≡ cond (is_return_of l e) None (leased_out h l)
older_out h e l less = search (rules, cond, is_out-push, option_and_then, slice_get-append, slice_get, not)

new_out : (h : List Event) (e : Event) → IsLawful nothing_kept h → leased_out (h ++ e ∷ []) (length h) ≡ leased_of e
new_out h e law = (λ i. cond (is_out_last nothing_kept h e law i) (option_and_then leased_of (slice_get_last h e i)) None) ∙ by_event e where
  by_event : (e : Event) → cond (makes_lease e) (leased_of e) None ≡ leased_of e
  by_event (Lease r) = refl
  by_event (Open place kind) = refl
  by_event _ = refl

none_out_past : (h : List Event) (l : ℕ) → length h ≤ l → leased_out h l ≡ None
none_out_past h l past = ap (λ (b : Bool). cond b (option_and_then leased_of (slice_get h l)) None) (is_out_past h l past)

pub leased_out-push : (h : List Event) (e : Event) (l : ℕ) → IsLawful nothing_kept h
    → leased_out (h ++ e ∷ []) l ≡ cond (length h == l) (leased_of e) (cond (is_return_of l e) None (leased_out h l))
leased_out-push h e l law = by_order (cases_order (length h) l) where
  at_end : (b : Bool) → (length h == l) ≡ b → cond b (leased_of e) (cond (is_return_of l e) None (leased_out h l))
      ≡ cond (length h == l) (leased_of e) (cond (is_return_of l e) None (leased_out h l))
  at_end b is = ap (λ b. cond b (leased_of e) (cond (is_return_of l e) None (leased_out h l))) (sym is)

  none_back : (b : Bool) (x : Option ℕ) → x ≡ None → None ≡ cond b None x
  none_back b e = grind arith

  by_order : (length h ≡ l) ⊎ ((length h < l) ⊎ (l < length h))
      → leased_out (h ++ e ∷ []) l ≡ cond (length h == l) (leased_of e) (cond (is_return_of l e) None (leased_out h l))
  by_order (inl same) = ap (leased_out (h ++ e ∷ [])) (sym same) ∙ new_out h e law ∙ at_end true (eq-eqb (length h) l same)
  by_order (inr (inl past)) = none_out_past (h ++ e ∷ []) l (omega (arith, length-append h (e ∷ [])))
      ∙ none_back (is_return_of l e) (leased_out h l) (none_out_past h l (omega arith)) ∙ at_end false (ne_eqb (length h) l (omega arith))
  by_order (inr (inr older)) = older_out h e l older ∙ at_end false (ne_eqb (length h) l (omega arith))

-- where no lease is given out
pub leased_out-plain : (h : List Event) (e : Event) (l : ℕ) → IsLawful nothing_kept h → leased_of e ≡ None
    → leased_out (h ++ e ∷ []) l ≡ cond (is_return_of l e) None (leased_out h l)
leased_out-plain h e l law none = search (rules, leased_out-push, cases_Bool, length, cond, eqb-true, none_out_past)

-- how many of each resource ------------------------------------------------------------------------------

lease_found : (o : Option Event) → option_map_or makes_lease o false ≡ true → (q : ℕ) × (o ≡ Some (Lease q))
lease_found x0 fails = search (rules, false≢true)

-- what is returned was out, of this resource
pub returned_lease : (h : List Event) (l : ℕ) → MayFollow nothing_kept h (Return l) → (q : ℕ) × (slice_get h l ≡ Some (Lease q)) × (leased_out h l ≡ Some q)
returned_lease h l next =
    let out = may_return nothing_kept next in
    let found = lease_found (slice_get h l) (out_lease h l out) in
    (found.0, found.1, (λ i. cond (out i) (option_and_then leased_of (found.1 i)) None))

pub leases_of_less : (h : List Event) (l q r : ℕ) → IsLawful nothing_kept h → MayFollow nothing_kept h (Return l) → slice_get h l ≡ Some (Lease q)
    → leases_of (h ++ Return l ∷ []) r ≡ leases_of h r - cond (q == r) 1 0
leases_of_less h l q r law next is = let back = leases_of-return nothing_kept h l q law next is r in omega arith

-- no more leases are out than events happened
pub leases_few : (h : List Event) (r : ℕ) → leases_of h r ≤ length h
unfolding leases_of
leases_few h r = search (rules, count_by-le-length, length, length-range_with_len)

-- one event more, by what it is ----------------------------------------------------------------------------

pub out_leased : {h : List Event} {e : Event} (l : ℕ) {place r : ℕ} (old new : Option ℕ) → IsLawful nothing_kept h → place ≡ length h → e ≡ Lease r
    → old ≡ leased_out h l → new ≡ cond (place == l) (Some r) old → new ≡ leased_out (h ++ e ∷ []) l
out_leased {h} {e} l {r} old new law is leases before here = search (rules, cond, length, leases, leased_out-push)

pub out_returned : {h : List Event} {e : Event} (l m : ℕ) (old new : Option ℕ) → IsLawful nothing_kept h → e ≡ Return m → old ≡ leased_out h l
    → new ≡ cond (m == l) None old → new ≡ leased_out (h ++ e ∷ []) l
out_returned {h} {e} l m old new law returns before here = search (rules, cond, returns, leased_out-plain)

-- an event that neither gives out a lease nor takes one back
pub record LeasesNone (e : Event) : Type 0 where
  pub leases : leased_of e ≡ None
  pub lease_of : (r : ℕ) → is_lease_of r e ≡ false
  pub returns : is_return e ≡ false
  pub return_of : (l : ℕ) → is_return_of l e ≡ false

pub leases_none : (e : Event) → ((r : ℕ) → e ≡ Lease r → ⊥) → ((l : ℕ) → e ≡ Return l → ⊥) → LeasesNone e
leases_none (Lease r) no_lease no_return = absurd (no_lease r refl)
leases_none (Return l) no_lease no_return = absurd (no_return l refl)
leases_none (Open place kind) no_lease no_return = record { leases = refl; lease_of = λ r. refl; returns = refl; return_of = λ l. refl }
leases_none _ no_lease no_return = record { leases = refl; lease_of = λ r. refl; returns = refl; return_of = λ l. refl }

pub out_same : (h : List Event) (e : Event) (l : ℕ) → IsLawful nothing_kept h → LeasesNone e → leased_out h l ≡ leased_out (h ++ e ∷ []) l
out_same h e l law none = search (rules, leased_out-plain, cond)

-- nothing happened yet
pub none_leased : (r : ℕ) → leases_of [] r ≡ 0
unfolding leases_of
none_leased r = refl

pub none_out : (l : ℕ) → leased_out [] l ≡ None
unfolding is_out
none_out l = refl
