-- What a judge makes of its input.
use Rattle.std.specs.Prelude.{◌≡◌, ℕ, Bool, None, List}
use Rattle.serde_json.specs.Data.{Data, null}
use Rattle.rx_audit.specs.declared.verdict.Verdict.{Verdict}
use Rattle.rx_device.specs.Input.{IsJsonOf}
use Rattle.rx_dump.specs.History.{history_of}
use Rattle.rx_dump.specs.Checking.{IsVerdictOn}
use Rattle.rx_dump.specs.Verdict.{is_lawful}
use Rattle.rx_dump.specs.declared.judging.Labels.{Labels}
use Rattle.rx_dump.specs.declared.judging.Labels.TheVariants.{Numbers, Names}
use Rattle.rx_dump.specs.Names.{dump_in, names_in, name_in_object}
use Rattle.rx_dump.specs.NamedVerdict.{named_verdict}

-- the names that a verdict on the value tells
abbrev pub names_for : Labels → Data → Data
names_for Numbers d = null
names_for Names d = names_in d

-- the input is the text of a value, the verdict is that on the history of which the value has the dump, and the text
-- tells it
pub record IsJudgedSo (labels : Labels) (input : List ℕ) (v : Verdict) (text : List ℕ) : Type 0 where
  pub value : Data
  pub json : IsJsonOf input value
  pub verdict : IsVerdictOn (dump_in value) v
  pub tells : text ≡ named_verdict (name_in_object (names_for labels value)) v

-- the same of a verdict that is lawful, or is not
abbrev pub IsJudgement : Labels → List ℕ → Bool → List ℕ → Type 0
IsJudgement labels input lawful text = (v : Verdict) × (lawful ≡ is_lawful v) × IsJudgedSo labels input v text

-- the input is the text of a value that has no dump
pub record IsNoHistory (input : List ℕ) : Type 0 where
  pub value : Data
  pub json : IsJsonOf input value
  pub no_dump : history_of (dump_in value) ≡ None
