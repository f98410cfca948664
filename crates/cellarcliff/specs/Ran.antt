-- What a run tells of the bytes that are handed in.
use Rattle.std.specs.Prelude.{◌≡◌, ℕ, ◌<◌, ◌⊎◌, true, List, length, map}
use Rattle.std.specs.List.{range_with_len}
use Rattle.serde_json.specs.Data.{Data}
use Rattle.rx_device.specs.Input.{IsJsonOf, most_bytes}
use Rattle.rx_script.specs.declared.Form.{Form}
use Rattle.rx_script.specs.Stage.{Ware}
use Rattle.rx_script.specs.Running.{IsOutputOf, GivesNoOutput}

-- a fresh resource of this tag
abbrev pub fresh_ware : ℕ → Ware
fresh_ware tag = record { tag = tag; is_fresh = true }

-- 256 of them, of the tags from 0 on
abbrev pub stock : List Ware
stock = map fresh_ware (range_with_len 0 256)

-- the bytes are a scenario, and the text is what is written of it in this form
pub record TellsRun (scenario : List ℕ) (form : Form) (text : List ℕ) (status : ℕ) : Type 0 where
  pub value : Data
  pub json : IsJsonOf scenario value
  pub output : IsOutputOf value stock form text
  pub says : status ≡ 0

-- the bytes are too many, or no JSON text, or one that is no scenario, or a scenario that has nothing to be written in this form
abbrev pub HasNothingToWrite : Form → List ℕ → Type 0
HasNothingToWrite form scenario = (most_bytes < length scenario) ⊎ ((value : Data) → IsJsonOf scenario value → GivesNoOutput value form)
