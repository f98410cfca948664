-- What an audit tells of the bytes that are handed in.
use Rattle.std.specs.Prelude.{◌≡◌, ℕ, ◌<◌, ◌⊎◌, None, List, length, if◌then◌else◌}
use Rattle.serde_json.specs.Data.{Data}
use Rattle.rx_audit.specs.declared.verdict.Verdict.{Verdict}
use Rattle.rx_device.specs.Input.{IsJsonOf, most_bytes}
use Rattle.rx_dump.specs.History.{history_of}
use Rattle.rx_dump.specs.Checking.{IsVerdictOn}
use Rattle.rx_dump.specs.Verdict.{verdict_text, is_lawful}

-- the bytes are a dump, the text is that of the verdict on its history, and the status says whether it is `lawful`
pub record TellsVerdict (dump text : List ℕ) (status : ℕ) : Type 0 where
  pub value : Data
  pub json : IsJsonOf dump value
  pub verdict : Verdict
  pub is_verdict : IsVerdictOn value verdict
  pub lines : text ≡ verdict_text verdict
  pub says : status ≡ if is_lawful verdict then 0 else 5

-- the bytes are too many, or no JSON text, or one that is no dump
abbrev pub HasNoHistory : List ℕ → Type 0
HasNoHistory dump = (most_bytes < length dump) ⊎ ((value : Data) → IsJsonOf dump value → history_of value ≡ None)
