-- Which numbers are shown where only so many may be: first those that lead, by rising number, then the others.
use Rattle.std.specs.Prelude.{◌≡◌, ◌+◌, ◌<◌, ◌&&◌, if◌then◌else◌, slice_index_or}
use Rattle.rx_picture.specs.Imports.{ℕ, Bool, false, nat_lt, List, length, count_by, not, range_with_len}

abbrev pub bit : Bool → ℕ
bit b = if b then 1 else 0

-- how many of the numbers below n pass
abbrev pub count_below : (ℕ → Bool) → ℕ → ℕ
count_below p n = count_by p (range_with_len 0 n)

abbrev pub leads : (ℕ → Bool) → (ℕ → Bool) → ℕ → Bool
leads first among n = among n && first n

abbrev pub follows : (ℕ → Bool) → (ℕ → Bool) → ℕ → Bool
follows first among n = among n && not (first n)

-- how many come before n, of the numbers below the size
abbrev pub rank : (ℕ → Bool) → (ℕ → Bool) → ℕ → ℕ → ℕ
rank first among size n = if first n then count_below (leads first among) n else count_below (leads first among) size + count_below (follows first among) n

abbrev pub is_chosen : (ℕ → Bool) → (ℕ → Bool) → ℕ → ℕ → ℕ → Bool
is_chosen first among limit size n = among n && nat_lt (rank first among size n) limit

-- the mark of the number is set
abbrev pub marked : List Bool → ℕ → Bool
marked marks n = slice_index_or marks n false

-- the marks say the test of each number below the bound
pub record AreMarksByTest (marks : List Bool) (bound : ℕ) (test : ℕ → Bool) : Type 0 where
  pub size : length marks ≡ bound
  pub each : (n : ℕ) → n < bound → marked marks n ≡ test n
