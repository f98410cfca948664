-- What a traced run makes of its input.
use Rattle.std.specs.Prelude.{◌≡◌, ℕ, Bool, Some, List}
use Rattle.serde_json.specs.Data.{Data}
use Rattle.rx_device.specs.Input.{IsJsonOf}
use Rattle.rx_scenario.specs.Scenario.{Script}
use Rattle.rx_scenario.specs.Reading.{scenario_of}
use Rattle.rx_script.specs.Running.{has_refused}
use Rattle.rx_script.specs.Stage.{Ware}
use Rattle.rx_trace.specs.Traced.{IsTraceOf}

-- the text is the trace of the scenario that the JSON value is, and this is whether a step of its course was refused
pub record IsTraceOfValue (value : Data) (stock : List Ware) (text : List ℕ) (refused : Bool) : Type 0 where
  pub script : Script
  pub reading : scenario_of value ≡ Some script
  pub trace : IsTraceOf script stock text
  pub strict : refused ≡ has_refused trace.traced.answers

-- the input is the text of such a value
pub record IsTraceOfInput (input : List ℕ) (stock : List Ware) (text : List ℕ) (refused : Bool) : Type 0 where
  pub value : Data
  pub json : IsJsonOf input value
  pub trace : IsTraceOfValue value stock text refused
