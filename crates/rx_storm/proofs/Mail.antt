-- Mail that is taken note by note.
use Rattle.rx_storm.proofs.Common.{◌≡◌, ◌+◌, ◌-◌, ◌≤◌, ℕ, zero, suc, List, [], ◌∷◌, length, arith, sym, ◌∙◌, None, min, slice_get, min-eq_left}

slice_get-past : {A : Type 0} (xs : List A) (n : ℕ) → slice_get xs n ≡ None → length xs ≤ n
slice_get-past [] n missing = omega arith
slice_get-past (y ∷ ys) zero missing = absurd (cc)
slice_get-past (y ∷ ys) (suc n) missing = let rest = slice_get-past ys n missing in omega arith

-- where no further one is there, those that were taken are all that were left
pub all_taken : {A : Type 0} (xs : List A) (from taken most : ℕ) → from + taken ≤ length xs → slice_get xs (from + taken) ≡ None
    → taken ≤ most → taken ≡ min (length xs - from) most
all_taken xs from taken most within missing few =
    let past = slice_get-past xs (from + taken) missing in
    let left : length xs - from ≡ taken = omega arith in
    let fits : length xs - from ≤ most = omega arith in
    sym (min-eq_left fits ∙ left)
