-- What is said of an input, and of which inputs nothing is said.
use Rattle.std.specs.Prelude.{◌≡◌, ◌≢◌, ◌&&◌, ℕ, Bool, true, false, List, [], ◌++◌, codes, if◌then◌else◌, IfOk, IfErr, IsErrOf, Result, string_bytes}
use Rattle.serde_json.specs.Data.{Data}
use Rattle.rx_device.specs.Input.{IsJsonOf}
use Rattle.rx_device.specs.declared.fault.ScriptError.{ScriptError}
use Rattle.rx_device.specs.declared.fault.ScriptError.TheVariants.{Read, Write, Syntax, Shape}
use Rattle.rx_dump.specs.Judged.{IsJudgement, IsNoHistory}
use Rattle.rx_explain.specs.Accepted.{IsAccepted}
use Rattle.rx_script.specs.declared.Form.TheVariants.{Report}
use Rattle.rx_script.specs.Running.{IsRunOfInput, HasNoOutput}
use Rattle.rx_script.specs.Stage.{Ware}
use Rattle.rx_svg.specs.Pictured.{IsPictureOfInput}
use Rattle.rx_trace.specs.Running.{IsTraceOfInput}
use Rattle.rx_cli.specs.declared.request.Asked.{Asked}
use Rattle.rx_cli.specs.declared.request.Asked.TheVariants.{Run, Trace, Audit, Explain, Picture}
use Rattle.rx_cli.specs.declared.said.Said.{Said}

-- the text is a line of an explanation
pub record IsSentence (text : List ℕ) (status : ℕ) : Type 0 where
  pub told : List ℕ
  pub line : text ≡ told ++ codes "\n"
  pub says : status ≡ 3

-- nothing is said of an input that the program accepts, and a sentence of each other one
pub data IsExplained (input text : List ℕ) (status : ℕ) : Type 0 where
  says_nothing : IsAccepted input → text ≡ [] → status ≡ 0 → IsExplained input text status
  says_why : ¬ IsAccepted input → IsSentence text status → IsExplained input text status

-- the exit status of a run that is strict, or is not, and in which a step was refused, or none was
abbrev pub strict_status : Bool → Bool → ℕ
strict_status strict refused = if strict && refused then 6 else 0

-- the text that is asked of the input, and the exit status with it: a step that is refused in a strict run, a history that is not
-- lawful, and an input that is not accepted, have one of their own
abbrev pub IsSaid : List Ware → Asked → (input text : List ℕ) → (status : ℕ) → Type 0
IsSaid stock (Run form strict) input text status =
    (refused : Bool) × IsRunOfInput input stock form text refused × (status ≡ strict_status strict refused)
IsSaid stock (Trace strict) input text status =
    (refused : Bool) × IsTraceOfInput input stock text refused × (status ≡ strict_status strict refused)
IsSaid stock (Audit labels) input text status = (lawful : Bool) × IsJudgement labels input lawful text × (status ≡ if lawful then 0 else 5)
IsSaid stock Explain input text status = IsExplained input text status
IsSaid stock Picture input text status = IsPictureOfInput input text × (status ≡ 0)

-- an explanation takes any input, and more than an input may be; all else takes JSON
abbrev pub takes_any : Asked → Bool
takes_any Explain = true
takes_any _ = false

-- the input is JSON that does not have what is asked: a scenario, in which there is this form, or a dump
abbrev pub LacksWhat : Asked → List ℕ → Type 0
LacksWhat (Run form strict) input = HasNoOutput input form
LacksWhat (Trace strict) input = HasNoOutput input Report
LacksWhat Explain input = ⊥
LacksWhat _ input = IsNoHistory input

-- what comes of asking this of an input: a text with its status, or why there is none
pub record Says (stock : List Ware) (asked : Asked) (input : List ℕ) (outcome : Result Said ScriptError) : Type 0 where
  pub ok : IfOk outcome (λ s. IsSaid stock asked input (string_bytes s.text) s.status)
  pub syntax : IsErrOf outcome Syntax → (takes_any asked ≡ false) × ((d : Data) → ¬ IsJsonOf input d)
  pub shape : IsErrOf outcome Shape → LacksWhat asked input
  pub never : IfErr outcome (λ e. (e ≢ Read) × (e ≢ Write))
