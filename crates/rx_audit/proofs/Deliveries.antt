-- Roots: an item that is delivered there goes no further and changes nothing.
use Rattle.rx_audit.proofs.Common.{◌≡◌, ℕ, zero, suc, ◌+◌, ◌≤◌, Bool, true, false, List, [], ◌∷◌, length, Option, Some, cond, slice_get, refl, ap, arith}
use Rattle.rx_audit.proofs.Common.{sum_by, sum_by-cons, option_map_or, option_and_then, false≢true, Event, at, stop_at, onward, flow}
use Rattle.rx_event.specs.Climb.{Delivery, stop_made, onward_from, onward_unless}
use Rattle.rx_event.specs.Events.{is_root}
use Rattle.rx_audit.specs.Flow.{delivered, entered, weight, IsOfMarking}
use Rattle.rx_audit.specs.Rules.{fired_by, projecting_node}
use Rattle.rx_audit.proofs.VisitLogEntries.{count_all}
use Rattle.std.proofs.Common.{rules}

root_made : (h : List Event) (n : ℕ) (made : Option Event) → option_map_or is_root made false ≡ true → option_and_then (stop_made h n) made ≡ Some (Delivery n)
root_made h n x1 y = search (rules, false≢true)

pub root_stops : (h : List Event) (n : ℕ) → at is_root h n ≡ true → stop_at h n ≡ Some (Delivery n)
root_stops h n y = root_made h n (slice_get h n) y

root_flow : (d : ℕ) (h : List Event) (f : ℕ → ℕ) (n : ℕ) → at is_root h n ≡ true → flow d h f n ≤ f n
root_flow zero h f n y = omega arith
root_flow (suc d) h f n y =
    let none : onward h n ≡ [] = ap (λ s. onward_unless s (option_map_or (onward_from h n) (slice_get h n) [])) (root_stops h n y) in
    let nothing : sum_by (flow d h f) (onward h n) ≡ 0 = ap (sum_by (flow d h f)) none in omega arith

-- what flows from a node is counted at once at a root, and followed elsewhere
flow_most : (d : ℕ) (h : List Event) (f : ℕ → ℕ) (n : ℕ) → flow d h f n ≤ delivered h f n + entered h (flow d h f) n
flow_most d h f n = by_test (at is_root h n) refl where
  by_test : (b : Bool) → at is_root h n ≡ b → flow d h f n ≤ cond b (f n) 0 + cond b 0 (flow d h f n)
  by_test true y = let r = root_flow d h f n y in omega arith
  by_test false y = omega arith

flow_least : (d : ℕ) (h : List Event) (f : ℕ → ℕ) (n : ℕ) → delivered h f n + entered h (flow (suc d) h f) n ≤ flow (suc d) h f n
flow_least d h f n = by_test (at is_root h n) where
  by_test : (b : Bool) → cond b (f n) 0 + cond b 0 (flow (suc d) h f n) ≤ flow (suc d) h f n
  by_test true = omega arith
  by_test false = omega arith

sums_most : (f g k : ℕ → ℕ) → ((n : ℕ) → f n ≤ g n + k n) → (xs : List ℕ) → sum_by f xs ≤ sum_by g xs + sum_by k xs
sums_most f g k le [] = omega arith
sums_most f g k le (x ∷ xs) =
    let a = le x in
    let r = sums_most f g k le xs in
    let b = sum_by-cons f x xs in
    let c = sum_by-cons g x xs in
    let d = sum_by-cons k x xs in omega arith

sums_least : (f g k : ℕ → ℕ) → ((n : ℕ) → g n + k n ≤ f n) → (xs : List ℕ) → sum_by g xs + sum_by k xs ≤ sum_by f xs
sums_least f g k le [] = omega arith
sums_least f g k le (x ∷ xs) =
    let a = le x in
    let r = sums_least f g k le xs in
    let b = sum_by-cons f x xs in
    let c = sum_by-cons g x xs in
    let d = sum_by-cons k x xs in omega arith

pub flow_spreads_most : (d : ℕ) (h : List Event) (f : ℕ → ℕ) (n : ℕ)
    → flow (suc d) h f n ≤ weight h f n + sum_by (entered h (flow d h f)) (onward h n)
flow_spreads_most d h f n =
    let s = sums_most (flow d h f) (delivered h f) (entered h (flow d h f)) (flow_most d h f) (onward h n) in omega arith

pub flow_spreads_least : (d : ℕ) (h : List Event) (f : ℕ → ℕ) (n : ℕ)
    → weight h f n + sum_by (entered h (flow (suc d) h f)) (onward h n) ≤ flow (suc (suc d)) h f n
flow_spreads_least d h f n =
    let s = sums_least (flow (suc d) h f) (delivered h f) (entered h (flow (suc d) h f)) (flow_least d h f) (onward h n) in omega arith

-- a node and those to which an item goes from it
pub weight_one : (h : List Event) (n : ℕ) → weight h (λ m. 1) n + sum_by (entered h (λ m. 1)) (onward h n) ≡ 1 + length (onward h n)
weight_one h n =
    let a = sums_most (λ m. 1) (delivered h (λ m. 1)) (entered h (λ m. 1)) (λ m. most (at is_root h m)) (onward h n) in
    let b = sums_least (λ m. 1) (delivered h (λ m. 1)) (entered h (λ m. 1)) (λ m. least (at is_root h m)) (onward h n) in
    let c = count_all (onward h n) in omega arith where
      most : (b : Bool) → 1 ≤ cond {A = ℕ} b 1 0 + cond {A = ℕ} b 0 1
      most true = omega arith
      most false = omega arith

      least : (b : Bool) → cond {A = ℕ} b 1 0 + cond {A = ℕ} b 0 1 ≤ 1
      least true = omega arith
      least false = omega arith

-- a number that is 0 where nothing changes
pub weight_marking : (h : List Event) (f : ℕ → ℕ) → IsOfMarking h f → (n : ℕ) → weight h f n ≡ f n
weight_marking h f marking n = let z = nothing (onward h n) in omega arith where
  at_root : (b : Bool) (m : ℕ) → at is_root h m ≡ b → cond b (f m) 0 ≡ 0
  at_root true m y = marking m (ap (option_and_then fired_by) (root_stops h m y)) (ap (option_and_then projecting_node) (root_stops h m y))
  at_root false m y = refl

  nothing : (xs : List ℕ) → sum_by (delivered h f) xs ≡ 0
  nothing [] = refl
  nothing (x ∷ xs) = let a = at_root (at is_root h x) x refl in let r = nothing xs in let s = sum_by-cons (delivered h f) x xs in omega arith
