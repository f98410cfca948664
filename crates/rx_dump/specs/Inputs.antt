-- What the bytes of an input are.
use Rattle.std.specs.Prelude.{◌≡◌}
use Rattle.rx_dump.specs.Imports.{ℕ, Bool, None, Some, List, Data, Event, Verdict, IsJsonOf}
use Rattle.rx_dump.specs.History.{history_of}
use Rattle.rx_dump.specs.Checking.{IsVerdictOn}
use Rattle.rx_dump.specs.Verdict.{verdict_text, is_lawful}

-- the text of a dump of this history
pub record IsDumpOf (input : List ℕ) (h : List Event) : Type 0 where
  pub value : Data
  pub json : IsJsonOf input value
  pub reading : history_of value ≡ Some h

-- the text of a dump, and the verdict is that on its history
pub record IsVerdictOf (input : List ℕ) (v : Verdict) : Type 0 where
  pub value : Data
  pub json : IsJsonOf input value
  pub verdict : IsVerdictOn value v

-- the text of a dump, and that of the verdict on its history, which is lawful or is not
pub record IsChecked (input : List ℕ) (lawful : Bool) (text : List ℕ) : Type 0 where
  pub verdict : Verdict
  pub is_verdict : IsVerdictOf input verdict
  pub says : lawful ≡ is_lawful verdict
  pub lines : text ≡ verdict_text verdict

-- JSON that is no dump
pub record IsNoDump (input : List ℕ) : Type 0 where
  pub value : Data
  pub json : IsJsonOf input value
  pub no_dump : history_of value ≡ None
