-- What a place for one value holds.
use Rattle.std.specs.Prelude.{Bool, true, false, Option, Some, None}

-- nothing yet, one value, or nothing for good
pub data Holding (T : Type 0) : Type 0 where
  empty : Holding T
  full : T → Holding T
  disposed : Holding T

module _ {T : Type 0} where
  -- the value that is inside, if there is one
  abbrev pub inside : Holding T → Option T
  inside empty = None
  inside (full value) = Some value
  inside disposed = None

  -- a value is inside
  abbrev pub IsFull : Holding T → Type 0
  IsFull empty = ⊥
  IsFull (full value) = Unit {0}
  IsFull disposed = ⊥

  -- the place was not disposed of
  abbrev pub IsUsable : Holding T → Type 0
  IsUsable empty = Unit {0}
  IsUsable (full value) = Unit {0}
  IsUsable disposed = ⊥

  -- what a place holds, by its mark and its value
  abbrev pub holding_of : Bool → Option T → Holding T
  holding_of true value = disposed
  holding_of false None = empty
  holding_of false (Some value) = full value
