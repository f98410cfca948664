-- The log of visits, entry by entry.
use Rattle.rx_audit.proofs.Common.{◌≡◌, ℕ, zero, suc, ◌+◌, ◌*◌, ◌<◌, ◌≤◌, List, [], ◌∷◌, ◌++◌, length, take, drop, set, get_or, Some, slice_get, refl, sym, ap}
use Rattle.rx_audit.proofs.Common.{arith, sum_by, mul-le-mul_left, same_Some, none-some, sum_by-cons, sum_by_more, Visit, times, IsOften}
use Rattle.std.proofs.Common.{length-take-le, rules}

-- an entry with so many more
pub entry_more : (log : List Visit) (k at more : ℕ) (v : Visit) → k ≤ at → slice_get log at ≡ Some v → (number : ℕ → ℕ)
    → sum_by (times number) (drop k (set log at (record v { count = v.count + more }))) ≡ sum_by (times number) (drop k log) + more * number v.node
entry_more [] k at more v l is number = absurd (none-some v is)
entry_more (x ∷ log) zero zero more v l is number =
    let same = same_Some x v is in
    let a = sum_by-cons (times number) (record v { count = v.count + more }) log in
    let b = sum_by-cons (times number) x log in
    let e = ap (times number) same in omega arith
entry_more (x ∷ log) zero (suc at) more v l is number = search (rules, sum_by-cons, set, entry_more log zero at more v (omega arith) is number)
entry_more (x ∷ log) (suc k) zero more v l is number = absurd (omega arith)
entry_more (x ∷ log) (suc k) (suc at) more v l is number = entry_more log k at more v (omega arith) is number

-- an entry is no more than all together
pub entry_within : (log : List Visit) (k at : ℕ) (v : Visit) → k ≤ at → slice_get log at ≡ Some v → v.count ≤ sum_by (times (λ n. 1)) (drop k log)
entry_within [] k at v l is = absurd (none-some v is)
entry_within (x ∷ log) zero zero v l is = let a = sum_by-cons (times (λ n. 1)) x log in let e = ap (λ (u : Visit). u.count) (same_Some x v is) in omega arith
entry_within (x ∷ log) zero (suc at) v l is = let a = sum_by-cons (times (λ n. 1)) x log in let b = entry_within log zero at v (omega arith) is in omega arith
entry_within (x ∷ log) (suc k) zero v l is = absurd (omega arith)
entry_within (x ∷ log) (suc k) (suc at) v l is = entry_within log k at v (omega arith) is

pub read_at : (log : List Visit) (at : ℕ) (v : Visit) → at < length log → v ≡ get_or log at v → slice_get log at ≡ Some v
read_at [] at v l e = absurd (omega arith)
read_at (x ∷ log) zero v l e = ap (λ (u : Visit). Some u) (sym e)
read_at (x ∷ log) (suc at) v l e = read_at log at v (omega arith) e

pub often_set : (log : List Visit) (at : ℕ) (w : Visit) → 0 < w.count → IsOften log → IsOften (set log at w)
often_set [] at w l often i v e = absurd (none-some v e)
often_set (x ∷ log) zero w l often zero v e = rw (← same_Some w v e) l
often_set (x ∷ log) zero w l often (suc i) v e = often (suc i) v e
often_set (x ∷ log) (suc at) w l often zero v e = often zero v e
often_set (x ∷ log) (suc at) w l often (suc i) v e = often_set log at w l (λ j u f. often (suc j) u f) i v e

pub often_push : (log : List Visit) (w : Visit) → 0 < w.count → IsOften log → IsOften (log ++ w ∷ [])
often_push [] w l often zero v e = rw (← same_Some w v e) l
often_push [] w l often (suc i) v e = absurd (none-some v e)
often_push (x ∷ log) w l often zero v e = often zero v e
often_push (x ∷ log) w l often (suc i) v e = often_push log w l (λ j u f. often (suc j) u f) i v e

-- so many for each of the first nodes, and one node more
pub times_more : (count : ℕ) (nodes : List ℕ) (i d : ℕ) (number : ℕ → ℕ) → i < length nodes
    → count * sum_by number (take (i + 1) nodes) ≡ count * sum_by number (take i nodes) + count * number (get_or nodes i d)
times_more count nodes i d number l = let s = sum_by_more number nodes i d l in rw s (omega arith)

pub count_all : (xs : List ℕ) → sum_by (λ n. 1) xs ≡ length xs
count_all [] = refl
count_all (x ∷ xs) = let s = sum_by-cons (λ n. 1) x xs in let r = count_all xs in omega arith

pub taken_few : (count : ℕ) (nodes : List ℕ) (i : ℕ) → i < length nodes → count * sum_by (λ n. 1) (take i nodes) + count ≤ count * length nodes
taken_few count nodes i l = search (rules, count_all, take, length-take-le, length, mul-le-mul_left)
