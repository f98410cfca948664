-- Laws of tests: beside a constant, two or three together, and as counts of one.
use Rattle.std.proofs.Common.{◌≡◌, ℕ, ◌+◌, ◌≤◌, Bool, true, false, cond, not, ◌&&◌, ◌||◌, ◌==◌, arith}

pub and_true : (b : Bool) → (b && true) ≡ b
and_true b = grind arith

pub and_false : (b : Bool) → (b && false) ≡ false
and_false b = grind arith

pub or_true : (b : Bool) → (b || true) ≡ true
or_true b = grind arith

pub or_false : (b : Bool) → (b || false) ≡ b
or_false b = grind arith

-- two and three tests -----------------------------------------------------------------------------

pub and_assoc : (a b c : Bool) → (a && (b && c)) ≡ ((a && b) && c)
and_assoc a b c = grind arith

pub or_assoc : (a b c : Bool) → (a || (b || c)) ≡ ((a || b) || c)
or_assoc a b c = grind arith

pub and_not_or : (a b c : Bool) → (a && not (b || c)) ≡ ((a && not b) && not c)
and_not_or a b c = grind arith

pub and_same : (a b c : Bool) → b ≡ c → ((a && true) && b) ≡ (a && c)
and_same a b c alike = grind arith

pub and_not_false : (a b : Bool) → b ≡ false → (a && not b) ≡ a
and_not_false a b is_false = grind arith

pub number_itself : (n : ℕ) → (n == n) ≡ true
number_itself n = grind arith

-- tests as counts of one --------------------------------------------------------------------------

pub zero_or_zero : (b : Bool) → cond {A = ℕ} b 0 0 ≡ 0
zero_or_zero b = grind arith

pub none_counted : (b : Bool) → cond {A = ℕ} (b && false) 1 0 ≡ 0
none_counted b = grind arith

pub counted_in_parts : (a b : Bool) → cond {A = ℕ} (a && not b) 1 0 + cond {A = ℕ} (a && b) 1 0 ≡ cond {A = ℕ} a 1 0 + 0
counted_in_parts a b = grind arith

pub counted_once : (a b : Bool) → (a ≡ true → b ≡ true) → cond {A = ℕ} a 1 0 ≤ cond {A = ℕ} b 1 0
counted_once a b raises = grind arith
