-- How many leases of each resource an event leaves out.
use Rattle.rx_audit.proofs.Common.{◌≡◌, ℕ, ◌+◌, ◌-◌, ◌<◌, ◌≤◌, true, false, List, [], ◌∷◌, ◌++◌, length, get_or, Option, Some, None, cond, slice_get, refl, ap}
use Rattle.rx_audit.proofs.Common.{◌∙◌, arith, option_and_then, option_map_or, false≢true, nothing_kept, Event, Lease, Return, makes_lease, returned_of}
use Rattle.rx_audit.proofs.Common.{leases_of, IsLawful, MayFollow, counts_with, counts_less, names_number}
use Rattle.rx_event.specs.Events.{leased_of}
use Rattle.rx_event.proofs.Laws.Leases.{out_lease, leases_of_kept, leases_of_still, leases_of-return}
use Rattle.rx_event.proofs.Laws.Steps.{may_return}
use Rattle.rx_audit.specs.Tables.{IsTally}
use Rattle.rx_audit.specs.Rules.{resource_of}
use Rattle.rx_audit.proofs.Keys.{length-counts_with, counts_with_at, counts_few, length-counts_less, counts_less_at, counts_less_few}
use Rattle.std.proofs.Common.{rules}

-- a lease is one of some resource
leased : (h : List Event) (l : ℕ) → option_map_or makes_lease (slice_get h l) false ≡ true → (q : ℕ) × (slice_get h l ≡ Some (Lease q))
leased h l made = search (rules, slice_get, option_map_or, false≢true)

module _ (h : List Event) (old : List ℕ) (law : IsLawful nothing_kept h) (tied : IsTally old (leases_of h)) where
  module _ (e : Event) (key : Option ℕ) where
    abbrev counted : List ℕ
    counted = counts_less (counts_with old (leased_of e)) key

    lengths : length counted ≡ length old
    lengths = length-counts_less (counts_with old (leased_of e)) key ∙ length-counts_with old (leased_of e)

    at_each : (n : ℕ) → n < length old → get_or counted n 0 ≡ (leases_of h n + cond (names_number (leased_of e) n) 1 0) - cond (names_number key n) 1 0
    at_each n less = counts_less_at (counts_with old (leased_of e)) key n (let same = length-counts_with old (leased_of e) in omega arith) ∙
        ap (λ (k : ℕ). k - cond (names_number key n) 1 0)
        (counts_with_at old (leased_of e) n less ∙ ap (λ (k : ℕ). k + cond (names_number (leased_of e) n) 1 0) (tied n less))

  -- an event that leases and returns nothing
  quiet : (e : Event) → leased_of e ≡ None → returned_of e ≡ None → ((n : ℕ) → leases_of (h ++ e ∷ []) n ≡ leases_of h n) →
      (n : ℕ) → n < length old → get_or (counted e (option_and_then (resource_of h) (returned_of e))) n 0 ≡ leases_of (h ++ e ∷ []) n
  quiet e none back same n less = search (rules, option_and_then, cond)

  pub leases_found : (e : Event) → MayFollow nothing_kept h e → IsTally (counted e (option_and_then (resource_of h) (returned_of e))) (leases_of (h ++ e ∷ []))
  leases_found e next n within = by_event e next n (let same = lengths e (option_and_then (resource_of h) (returned_of e)) in omega arith) where
    by_event : (e : Event) → MayFollow nothing_kept h e → (n : ℕ) → n < length old →
        get_or (counted e (option_and_then (resource_of h) (returned_of e))) n 0 ≡ leases_of (h ++ e ∷ []) n
    by_event (Lease r) next n less = let more = leases_of_kept nothing_kept h (Lease r) law refl n in at_each (Lease r) None n less ∙ omega arith
    by_event (Return l) next n less =
        let one = leased h l (out_lease h l (may_return nothing_kept next)) in
        let fewer = leases_of-return nothing_kept h l one.0 law next one.1 n in
        let key : resource_of h l ≡ Some one.0 = ap (option_and_then leased_of) one.1 in
        at_each (Return l) (resource_of h l) n less ∙ ap (λ (k : Option ℕ). (leases_of h n + 0) - cond (names_number k n) 1 0) key ∙ omega arith
    by_event x next n less = quiet x refl refl (λ m. leases_of_still nothing_kept h x law refl m refl) n less

  pub leases_long : (e : Event) → length (counted e (option_and_then (resource_of h) (returned_of e))) ≡ length old
  leases_long e = lengths e (option_and_then (resource_of h) (returned_of e))

-- no resource has more than there are events
pub leases_few : (old : List ℕ) (a b : Option ℕ) (many : ℕ) → ((n : ℕ) → get_or old n 0 ≤ many)
    → (n : ℕ) → get_or (counts_less (counts_with old a) b) n 0 ≤ many + 1
leases_few old a b many few n = search (rules, counts_less_few, counts_few)
