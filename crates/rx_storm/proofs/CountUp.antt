-- The numbers end once.
use Rattle.rx_storm.proofs.Common.{◌≡◌, ℕ, zero, suc, true, refl, ends_once, count_up}

pub count_up_ends : (from left : ℕ) → ends_once (count_up from left) ≡ true
count_up_ends from zero = refl
count_up_ends from (suc left) = count_up_ends (suc from) left
