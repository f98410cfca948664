-- Where nothing is open nothing is owned, where no lease is out either nothing is held, and where nothing waits all was handed out.
-- What a lease that is out keeps.
use Rattle.rx_event.proofs.Laws.Common.{◌≡◌, ℕ, ◌≤◌, Bool, true, false, List, length, Some, cond, ap, arith, inl, inr, ◌⊎◌, slice_get, option_map_or, both_ways}
use Rattle.rx_event.proofs.Laws.Common.{false≢true, and_parts, false_from_ne_true, Kept, Event, Lease, is_open, is_owned, is_out, is_held, is_taken, is_waiting}
use Rattle.rx_event.proofs.Laws.Common.{open_count, IsLawful, is_leased, held_count, waiting_count, taken_count, accepted_count}
use Rattle.rx_event.specs.Totals.{owned_count, lease_count}
use Rattle.rx_event.proofs.Laws.Openness.{is_open_within}
use Rattle.rx_event.proofs.Laws.Sums.{sum_by_none, term_in_sum}
use Rattle.rx_event.proofs.Laws.Leases.{none_leased, leased_some, leased_where, leases_of_some, lease_resource}
use Rattle.rx_event.proofs.Laws.Resources.{node_of, held_parts, leased_held, held_not_taken, waiting_parts}
use Rattle.rx_event.proofs.Laws.Totals.{accepted_count-parts}
use Rattle.std.proofs.Common.{rules}

-- what is owned is owned by an open node
pub owned_node : (h : List Event) (r : ℕ) → is_owned h r ≡ true → (n : ℕ) × (node_of h r ≡ Some n) × (is_open h n ≡ true)
unfolding is_owned
owned_node h r owned = search (rules, and_parts, option_map_or, false≢true)

-- a node that is open is counted
pub open_counted : (h : List Event) (n : ℕ) → is_open h n ≡ true → 1 ≤ open_count h
open_counted h n o =
    let one : cond {A = ℕ} (is_open h n) 1 0 ≡ 1 = ap (λ (b : Bool). cond {A = ℕ} b 1 0) o in
    let within = term_in_sum (λ k. cond (is_open h k) 1 0) n (length h) (is_open_within h n o) in omega arith

-- where no node is open nothing is owned
none_owned : (h : List Event) → open_count h ≡ 0 → (r : ℕ) → is_owned h r ≡ false
none_owned h closed r = search (rules, false_from_ne_true, owned_node, open_counted)

pub owned_count_closed : (h : List Event) → open_count h ≡ 0 → owned_count h ≡ 0
owned_count_closed h closed = search (rules, sum_by_none, cond, length, none_owned)

-- where no lease is out either nothing is held
pub held_count_closed : (h : List Event) → open_count h ≡ 0 → lease_count h ≡ 0 → held_count h ≡ 0
held_count_closed h closed back = sum_by_none (λ r. cond (is_held h r) 1 0) (length h) (λ r l. ap (λ (b : Bool). cond {A = ℕ} b 1 0)
    (false_from_ne_true (is_held h r) (λ held. by_part r (held_parts h r held)))) where
      by_part : (r : ℕ) → (is_owned h r ≡ true) ⊎ (is_leased h r ≡ true) → ⊥
      by_part r (inl owned) = both_ways _ (none_owned h closed r) owned
      by_part r (inr leased) = absurd (let some = leased_some h r leased in let none = none_leased h back r in omega arith)

-- where nothing waits either, all that was accepted was handed out
pub taken_count_closed : (base : Kept) → (h : List Event) → IsLawful base h → open_count h ≡ 0 → lease_count h ≡ 0 → waiting_count h ≡ 0 → taken_count base
    h ≡ accepted_count base h
taken_count_closed base h law closed back released = search (rules, held_count_closed, accepted_count-parts)

-- what a lease that is out keeps ---------------------------------------------------------------------

pub out_leased : (base : Kept) → (h : List Event) → IsLawful base h → (l r : ℕ) → slice_get h l ≡ Some (Lease r) → is_out h l ≡ true → is_leased h r ≡ true
out_leased base h law l r at_l out = leased_where h r (lease_resource base h law l r at_l) (leases_of_some h l r at_l out)

pub out_held : (base : Kept) → (h : List Event) → IsLawful base h → (l r : ℕ) → slice_get h l ≡ Some (Lease r) → is_out h l ≡ true → is_held h r ≡ true
out_held base h law l r at_l out = leased_held h r (out_leased base h law l r at_l out)

pub out_waits_not : (base : Kept) → (h : List Event) → IsLawful base h → (l r : ℕ) → slice_get h l ≡ Some (Lease r) → is_out h l ≡ true → is_waiting h r ≡ false
out_waits_not base h law l r at_l out = false_from_ne_true (is_waiting h r) (λ waits. both_ways _ (waiting_parts h r waits).1
    (out_held base h law l r at_l out))

pub out_untaken : (base : Kept) → (h : List Event) → IsLawful base h → (l r : ℕ) → slice_get h l ≡ Some (Lease r) → is_out h l ≡ true → is_taken h r ≡ false
out_untaken base h law l r at_l out = held_not_taken base h law r (out_held base h law l r at_l out)
