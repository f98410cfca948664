-- The whole number of a numeral is that of the number which serde_json reads there.
use Rattle.std.proofs.Common.{◌≡◌, ℕ, ◌^◌, ◌<◌, ℤ, pos, ◌<ℤ◌, List, drop, Option, Some, None, Bool, true, false, Float, refl, arith, rules}
use Rattle.std.specs.Prelude.{◌&&◌, ◌⊎◌, ◌==◌, slice_index, nat_lt, nat_le, if◌then◌else◌, option_and_then, SomeIff, FitsSigned}
use Rattle.std.specs.Int.{w64}
use Rattle.fast_float.specs.Text.{Parts, scan, minus, digits_of, with_sign, IsInteger}
use Rattle.serde_json.specs.Data.{Num, unsigned, negative, float}
use Rattle.serde_json.specs.Find.{as_u64, as_i64}
use Rattle.serde_json.specs.Read.{number_of, number_from, is_integer}

is_integer-true : (p : Parts) → IsInteger p → is_integer p ≡ true
is_integer-true p h = grind arith

is_integer-parts : (p : Parts) → is_integer p ≡ true → IsInteger p
is_integer-parts p h = grind arith

no_float : (b : Bool) (x : Float) → option_and_then as_u64 (if b then Some (float x) else None) ≡ None
no_float x0 x = search rules

no_signed_float : (b : Bool) (x : Float) → option_and_then as_i64 (if b then Some (float x) else None) ≡ None
no_signed_float x0 x = search rules

by_test : (b : Bool) (n : ℕ) (other : Option Num) → option_and_then as_u64 other ≡ None
    → option_and_then as_u64 (if b then Some (unsigned n) else other) ≡ (if b then Some n else None)
by_test x0 n other none = search rules

pub whole_read : (p : Parts) (r : Option ℕ) → SomeIff r (IsInteger p × (digits_of p < 2 ^ 64)) (digits_of p)
    → r ≡ option_and_then as_u64 (number_from false p)
whole_read p r h =
    search (rules, Some, None, by_test, no_float, Option, ℕ)

signed_by_test : (b : Bool) (z : ℤ) (other : Option Num) → option_and_then as_i64 other ≡ None
    → option_and_then as_i64 (if b then Some (negative z) else other) ≡ (if b then Some z else None)
signed_by_test x0 z other none = search rules

pos_by_test : (b : Bool) (n : ℕ) (other : Option Num) → option_and_then as_i64 other ≡ None
    → option_and_then as_i64 (if b then Some (unsigned n) else other) ≡ (if b && nat_lt n (2 ^ 63) then Some (pos n) else None)
pos_by_test x0 n other none = search rules

pub signed_read : (p : Parts) (r : Option ℤ) → SomeIff r (IsInteger p × FitsSigned w64 (with_sign false (digits_of p))) (with_sign false (digits_of p))
    → r ≡ option_and_then as_i64 (number_from false p)
signed_read p r h =
    search (rules, Some, pos, None, pos_by_test, no_signed_float, Option, ℤ)

-- below zero
abbrev pub below_zero : Parts → Bool
below_zero p = is_integer p && nat_lt 0 (digits_of p) && nat_le (digits_of p) (2 ^ 63)

negative_reads : (p : Parts) → option_and_then as_i64 (number_from true p) ≡ (if below_zero p then Some (with_sign true (digits_of p)) else None)
negative_reads p =
    search (rules, signed_by_test, no_signed_float)

pub negative_read : (p : Parts) (z : ℤ) → IsInteger p → FitsSigned w64 (with_sign true (digits_of p)) → z ≡ with_sign true (digits_of p) → z <ℤ pos 0
    → Some z ≡ option_and_then as_i64 (number_from true p)
negative_read p z h fits is below = search (rules, negative_reads, Some, None)

pub negative_none : (p : Parts) → ((IsInteger p × FitsSigned w64 (with_sign true (digits_of p))) → ⊥) ⊎ (digits_of p ≡ 0)
    → None ≡ option_and_then as_i64 (number_from true p)
negative_none p h = search (rules, negative_reads, None, Some)

minus_only : (b : Bool) (x : Float) → option_and_then as_u64 (if b then Some (float x) else None) ≡ None
minus_only x0 x = search rules

pub none_below_zero : (p : Parts) → None ≡ option_and_then as_u64 (number_from true p)
none_below_zero p = search (rules, Bool, None, Some, no_float)

-- the text of a number -----------------------------------------------------------------------------

pub whole_of_text : (s : List ℕ) (r : Option ℕ) → (slice_index s 0 == minus) ≡ false
    → SomeIff r (IsInteger (scan s) × (digits_of (scan s) < 2 ^ 64)) (digits_of (scan s)) → r ≡ option_and_then as_u64 (number_of s)
unfolding number_of
whole_of_text s r plain h = rw plain (whole_read (scan s) r h)

pub none_of_text : (s : List ℕ) → (slice_index s 0 == minus) ≡ true → None ≡ option_and_then as_u64 (number_of s)
unfolding number_of
none_of_text s below = rw below (none_below_zero (scan (drop 1 s)))

pub signed_of_text : (s : List ℕ) (r : Option ℤ) → (slice_index s 0 == minus) ≡ false
    → SomeIff r (IsInteger (scan s) × FitsSigned w64 (with_sign false (digits_of (scan s)))) (with_sign false (digits_of (scan s)))
    → r ≡ option_and_then as_i64 (number_of s)
unfolding number_of
signed_of_text s r plain h = rw plain (signed_read (scan s) r h)

pub negative_of_text : (s : List ℕ) (r : Option ℤ) → (slice_index s 0 == minus) ≡ true
    → r ≡ option_and_then as_i64 (number_from true (scan (drop 1 s))) → r ≡ option_and_then as_i64 (number_of s)
unfolding number_of
negative_of_text s r below h = rw below h

pub number_of-plain : (s : List ℕ) → (slice_index s 0 == minus) ≡ false → number_of s ≡ number_from false (scan s)
unfolding number_of
number_of-plain s plain = rw plain refl

pub number_of-minus : (s : List ℕ) → (slice_index s 0 == minus) ≡ true → number_of s ≡ number_from true (scan (drop 1 s))
unfolding number_of
number_of-minus s below = rw below refl
