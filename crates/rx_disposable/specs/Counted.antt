-- What a reference-counted place holds, and when its value comes out.
use Rattle.std.specs.Prelude.{◌≡◌, ◌↔◌, ℕ, ◌==◌, Bool, true, ◌&&◌, Option, None, IsNone, if◌then◌else◌}

-- the value, while it is inside; the leases that are out; and whether the whole is disposed of
pub record Counted (T : Type 0) : Type 0 where
  pub value : Option T
  pub leases : ℕ
  pub disposed : Bool

module _ {T : Type 0} where
  -- the whole is disposed of and no lease is out
  abbrev pub is_over : Counted T → Bool
  is_over counted = counted.disposed && (counted.leases == 0)

  -- what comes out of a call that brings the place to this state
  abbrev pub value_out : Counted T → Option T
  value_out counted = if is_over counted then counted.value else None

  -- what that call leaves
  abbrev pub without_value_out : Counted T → Counted T
  without_value_out counted = if is_over counted then record counted { value = None } else counted

  -- the value is inside until the whole is disposed of and no lease is out
  abbrev pub KeepsUntilOver : Counted T → Type 0
  KeepsUntilOver counted = IsNone counted.value ↔ ((counted.disposed ≡ true) × (counted.leases ≡ 0))
