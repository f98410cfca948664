-- The numbers below one more, and how many of them pass a test.
use Rattle.rx_picture.proofs.Common.{◌≡◌, ℕ, suc, ◌+◌, Bool, [], ◌∷◌, ◌++◌, ap, ◌∙◌, arith, range_with_len, bit, count_below}
use Rattle.std.specs.List.{count_by}
use Rattle.std.proofs.lemmas.List.Sums.{sum_by_push}
use Rattle.rx_event.proofs.Laws.Sums.{range_push}

pub below_push : (n : ℕ) → range_with_len 0 (n + 1) ≡ range_with_len 0 n ++ n ∷ []
below_push n =
    let same : 0 + n ≡ n = omega arith in
    let more : n + 1 ≡ suc n = omega arith in
    ap (range_with_len 0) more ∙ range_push 0 n ∙ ap (λ (k : ℕ). range_with_len 0 n ++ k ∷ []) same

-- one number more
pub count_next : (p : ℕ → Bool) (n : ℕ) → count_below p (n + 1) ≡ count_below p n + bit (p n)
count_next p n = ap (count_by p) (below_push n) ∙ sum_by_push (λ k. bit (p k)) (range_with_len 0 n) n
