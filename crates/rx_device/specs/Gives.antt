-- What a function answers that reads something from a JSON value.
use Rattle.std.specs.Prelude.{◌≡◌, Option, Some, None, Result, Ok, Err}
use Rattle.rx_device.specs.declared.shape.ShapeError.{ShapeError}
use Rattle.rx_device.specs.declared.shape.ShapeError.TheVariants.{Shape, Memory}

-- there is nothing to give, or memory ran out
abbrev pub FailsToGive : {Y : Type 0} → ShapeError → Option Y → Type 0
FailsToGive Memory reading = Unit {0}
FailsToGive Shape reading = reading ≡ None

-- the answer, seen by view, is the reading, unless memory ran out
abbrev pub Gives : {X Y : Type 0} → (X → Y) → Result X ShapeError → Option Y → Type 0
Gives view (Ok x) reading = reading ≡ Some (view x)
Gives view (Err e) reading = FailsToGive e reading
