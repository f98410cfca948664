-- As many nodes are open as are marked.
use Rattle.rx_audit.proofs.Common.{◌≡◌, ℕ, zero, suc, cond, count_by, get_or, ◌+◌, ◌≤◌, Bool, false, List, [], ◌∷◌, length, refl, ap, ◌∙◌, arith}
use Rattle.rx_audit.proofs.Common.{range_with_len, sum_by-cons, Event, is_open, open_nodes, is_open_past, IsMarked, mark_count}
use Rattle.std.proofs.lemmas.List.Sums.{length-filter}
use Rattle.std.proofs.Common.{rules}

-- as many nodes are open as are marked
marks_counted : (f : ℕ → Bool) (ms : List Bool) (m from : ℕ) → m ≤ length ms → ((n k : ℕ) → k ≡ from + n → get_or ms n false ≡ f k)
    → ((k : ℕ) → from + m ≤ k → f k ≡ false) → mark_count ms ≡ count_by f (range_with_len from m)
marks_counted f [] zero from l same none = refl
marks_counted f [] (suc m) from l same none = absurd (omega arith)
marks_counted f (x ∷ ms) zero from l same none =
    let unmarked : x ≡ false = same zero from (omega arith) ∙ none from (omega arith) in
    let rest : mark_count ms ≡ 0 = marks_counted f ms zero (from + 1) (omega arith) (λ n k e. same (suc n) k (omega arith)) (λ k m. none k (omega arith)) in
    search (rules, cond, sum_by-cons)
marks_counted f (x ∷ ms) (suc m) from l same none =
    let rest = marks_counted f ms m (from + 1) (omega arith) (λ n k e. same (suc n) k (omega arith)) (λ k le. none k (omega arith)) in
    let first : cond {A = ℕ} x 1 0 ≡ cond {A = ℕ} (f from) 1 0 = ap (λ b. cond {A = ℕ} b 1 0) (same zero from (omega arith)) in
    let s = sum_by-cons (λ (b : Bool). cond {A = ℕ} b 1 0) x ms in
    let t : count_by f (range_with_len from (suc m)) ≡ cond {A = ℕ} (f from) 1 0 + count_by f (range_with_len (from + 1) m) =
    sum_by-cons (λ (k : ℕ). cond {A = ℕ} (f k) 1 0) from (range_with_len (from + 1) m) in omega arith

pub open_counted : (h : List Event) (ms : List Bool) → IsMarked ms (is_open h) → length h ≤ length ms → mark_count ms ≡ length (open_nodes h)
open_counted h ms tied room = search (rules, marks_counted, length, is_open_past, length-filter)
