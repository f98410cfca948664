-- What a call of the program does with its streams. A prime marks a stream after the call.
use Rattle.std.specs.Prelude.{◌≡◌, ◌≢◌, ◌⊎◌, ◌++◌, ℕ, Bool, true, false, List, [], Result, OnOk, IfOk, IfErr, IsErrOf, codes}
use Rattle.std.specs.Io.KnownBytes.{Appends}
use Rattle.clap.specs.declared.error.kind.ErrorKind.{ErrorKind}
use Rattle.clap.specs.declared.error.kind.ErrorKind.TheVariants.{DisplayHelp, DisplayVersion, OutOfMemory}
use Rattle.rx_device.specs.declared.fault.ScriptError.{ScriptError}
use Rattle.rx_device.specs.declared.fault.ScriptError.TheVariants.{Read, Write, Syntax, Shape}
use Rattle.rx_device.specs.declared.watched.Watched.{Watched}
use Rattle.rx_device.specs.Device.{device_of, has_failed, has_stopped, HasReadFault, HasWriteFault, AppendsPrefix}
use Rattle.rx_device.specs.Input.{GivesWhole, GivesTooMuch, GivesNoJson}
use Rattle.rx_script.specs.Stage.{Ware}
use Rattle.rx_storm.specs.declared.StormFault.{StormFault}
use Rattle.rx_storm.specs.declared.StormFault.TheVariants.{Memory as NoMemory, Thread as NoThread, Write as NoWrite}
use Rattle.rx_storm.specs.Storms.{Tells as TellsFigures, TellsFront}
use Rattle.rx_cli.specs.declared.request.Asked.{Asked}
use Rattle.rx_cli.specs.Said.{IsSaid, IsSentence, LacksWhat, takes_any}
use Rattle.rx_cli.specs.Status.{is_faulty, line_of, status_of, storm_status_of, storm_line_of}
use Rattle.rx_cli.specs.Told.{Bytes, IsTextWritten}

-- ---- what is asked of an input

-- the reader gave an input and has nothing left, and this is said of it; or it gave more than an input may be, of which an explanation
-- says so
pub data SaysOfGiven {I : Type 0} (remaining : I → Bytes) (stock : List Ware) (asked : Asked) (input input' : Watched I)
    (text : List ℕ) (status : ℕ) : Type 0 where
  of_whole : {given : List ℕ} → GivesWhole (remaining (device_of input)) (remaining (device_of input')) given
      → has_stopped input' ≡ true → has_failed input' ≡ false → IsSaid stock asked given text status
      → SaysOfGiven remaining stock asked input input' text status
  of_too_much : GivesTooMuch (remaining (device_of input)) (remaining (device_of input')) → takes_any asked ≡ true → IsSentence text status
      → SaysOfGiven remaining stock asked input input' text status

-- the same, and it was written in this way: whole, or a front of it
abbrev pub TellsOfGiven : {I : Type 0} (remaining : I → Bytes) (stock : List Ware) (asked : Asked) (input input' : Watched I)
    (Writes : List ℕ → Type 0) (status : ℕ) → Type 0
TellsOfGiven remaining stock asked input input' Writes status =
    (text : List ℕ) × SaysOfGiven remaining stock asked input input' text status × Writes text

-- the reader gave JSON that does not have what is asked
pub record GivesLacking {I : Type 0} (remaining : I → Bytes) (asked : Asked) (input input' : Watched I) : Type 0 where
  pub given : List ℕ
  pub whole : GivesWhole (remaining (device_of input)) (remaining (device_of input')) given
  pub lacks : LacksWhat asked given

-- the input was read, and this is what came of it: what is said of it is written where the outcome is Ok, which is the status, and a
-- front of it with a write fault; every other fault comes for its cause, with nothing written, and so does an empty text
pub record IsAnswered {I O : Type 0} (remaining : I → Bytes) (contents : O → Bytes) (stock : List Ware) (asked : Asked)
    (input input' : Watched I) (output output' : Watched O) (outcome : Result ℕ ScriptError) : Type 0 where
  pub ok : IfOk outcome (TellsOfGiven remaining stock asked input input'
      (λ text. Appends (contents (device_of output)) (contents (device_of output')) text × (text ≡ [] → output' ≡ output)))
  pub unhurt : OnOk outcome (has_failed output' ≡ false)
  pub moved : OnOk outcome (has_stopped output' ≡ false)
  pub front : IsErrOf outcome Write → (status : ℕ) × TellsOfGiven remaining stock asked input input'
      (AppendsPrefix (contents (device_of output)) (contents (device_of output'))) status
  pub silent : IfErr outcome (λ e. e ≢ Write → output' ≡ output)
  pub read : IsErrOf outcome Read → HasReadFault input'
  pub write : IsErrOf outcome Write → HasWriteFault output'
  pub syntax : IsErrOf outcome Syntax → (takes_any asked ≡ false) × (GivesTooMuch (remaining (device_of input)) (remaining (device_of input'))
      ⊎ GivesNoJson (remaining (device_of input)) (remaining (device_of input')))
  pub shape : IsErrOf outcome Shape → GivesLacking remaining asked input input'

-- the status and the line tell this outcome; behind the line of an input that is faulty may stand what is wrong with it
pub record TellsOutcome {E : Type 0} (contents : E → Bytes) (errors errors' : Watched E)
    (outcome : Result ℕ ScriptError) (status : ℕ) : Type 0 where
  pub says : status ≡ status_of outcome
  pub why : List ℕ
  pub line : IsTextWritten contents errors errors' (line_of outcome ++ why)
  pub plain : is_faulty outcome ≡ false → why ≡ []

-- ---- a storm

-- what came of a storm: the text of its figures is written where the outcome is Ok, which is whether the threads
-- agree with the book, and a front of that text with a write fault; with any other fault nothing
pub record Stormed {O : Type 0} (contents : O → Bytes)
    (output output' : Watched O) (outcome : Result Bool StormFault) : Type 0 where
  pub told : IfOk outcome (λ agrees. TellsFigures agrees (contents (device_of output)) (contents (device_of output')))
  pub unhurt : OnOk outcome (has_failed output' ≡ false)
  pub moved : OnOk outcome (has_stopped output' ≡ false)
  pub front : IsErrOf outcome NoWrite → TellsFront (contents (device_of output)) (contents (device_of output'))
  pub memory : IsErrOf outcome NoMemory → output' ≡ output
  pub thread : IsErrOf outcome NoThread → output' ≡ output
  pub write : IsErrOf outcome NoWrite → HasWriteFault output'

-- the status and the line tell this outcome
pub record TellsStorm {E : Type 0} (contents : E → Bytes) (errors errors' : Watched E)
    (outcome : Result Bool StormFault) (status : ℕ) : Type 0 where
  pub says : status ≡ storm_status_of outcome
  pub line : IsTextWritten contents errors errors' (storm_line_of outcome)

-- ---- words that are refused, or ask for help

-- whether the text of a kind of error is help, which goes to the output
abbrev pub is_help : ErrorKind → Bool
is_help DisplayHelp = true
is_help DisplayVersion = true
is_help _ = false

module _ {O E : Type 0} (output_of : O → Bytes) (errors_of : E → Bytes)
    (output output' : Watched O) (errors errors' : Watched E) (status : ℕ) where
  -- memory was refused
  pub record LacksMemory : Type 0 where
    pub says : status ≡ 4
    pub line : IsTextWritten errors_of errors errors' (codes "rxbook: out of memory\n")
    pub silent : output' ≡ output

  -- the words are no order, and a text says so
  pub record TellsUsage : Type 0 where
    pub says : status ≡ 2
    pub line : (text : List ℕ) × IsTextWritten errors_of errors errors' text
    pub silent : output' ≡ output

  -- the words ask for help, and a text is written
  pub record ShowsHelp : Type 0 where
    pub says : status ≡ 0
    pub shown : (text : List ℕ) × Appends (output_of (device_of output)) (output_of (device_of output')) text
    pub unhurt : has_failed output' ≡ has_failed output
    pub moved : has_stopped output' ≡ has_stopped output
    pub silent : errors' ≡ errors

  -- the words ask for help, and the output refused its text
  pub record FailsHelp : Type 0 where
    pub says : status ≡ 1
    pub shown : (text : List ℕ) × AppendsPrefix (output_of (device_of output)) (output_of (device_of output')) text
    pub failed : HasWriteFault output'
    pub line : IsTextWritten errors_of errors errors' (codes "rxbook: write fault\n")

  -- how words that are refused by an error of this kind are answered
  abbrev pub RefusedBy : ErrorKind → Type 0
  RefusedBy k =
      LacksMemory
      ⊎ ((is_help k ≡ true) × (ShowsHelp ⊎ FailsHelp))
      ⊎ ((is_help k ≡ false) × (k ≢ OutOfMemory) × TellsUsage)
