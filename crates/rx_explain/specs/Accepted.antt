-- What the program accepts: a scenario, or the dump of a history that the audit calls lawful, alone or beside names.
use Rattle.std.specs.Prelude.{◌≡◌, ℕ, ◌≤◌, ◌⊎◌, true, Option, Some, None, List, length}
use Rattle.serde_json.specs.Data.{Data}
use Rattle.rx_audit.specs.declared.verdict.Verdict.{Verdict}
use Rattle.rx_device.specs.Input.{IsJsonOf, most_bytes}
use Rattle.rx_scenario.specs.Scenario.{Script}
use Rattle.rx_scenario.specs.Reading.{scenario_of}
use Rattle.rx_dump.specs.Checking.{IsVerdictOn}
use Rattle.rx_dump.specs.Verdict.{is_lawful}
use Rattle.rx_dump.specs.Names.{dump_in}

-- the JSON value is a scenario
pub record IsScenario (d : Data) : Type 0 where
  pub script : Script
  pub reading : scenario_of d ≡ Some script

-- the JSON value is the dump of a history, and the verdict on that is `lawful`
pub record IsLawfulDump (d : Data) : Type 0 where
  pub verdict : Verdict
  pub is_verdict : IsVerdictOn d verdict
  pub lawful : is_lawful verdict ≡ true

-- the program takes the JSON value, as the one or, with the dump that is in it, as the other
abbrev pub IsTaken : Data → Type 0
IsTaken d = IsScenario d ⊎ IsLawfulDump (dump_in d)

-- the input is not too long, and the text of such a value
pub record IsAccepted (input : List ℕ) : Type 0 where
  pub short : length input ≤ most_bytes
  pub value : Data
  pub json : IsJsonOf input value
  pub taken : IsTaken value

-- nothing is said where this holds, and something where it does not
abbrev pub SaysNothingWhere : {X : Type 0} → Type 0 → Option X → Type 0
SaysNothingWhere P None = P
SaysNothingWhere P (Some told) = ¬ P
