-- The verdict on a JSON value.
use Rattle.std.specs.Prelude.{◌≡◌}
use Rattle.rx_dump.specs.Imports.{Some, List, Data, Event, Verdict}
use Rattle.rx_audit.specs.Verdict.{IsVerdict}
use Rattle.rx_dump.specs.History.{history_of}

-- the JSON value is the dump of a history, and the verdict is that on the history
pub record IsVerdictOn (d : Data) (v : Verdict) : Type 0 where
  pub history : List Event
  pub reading : history_of d ≡ Some history
  pub verdict : IsVerdict history v
