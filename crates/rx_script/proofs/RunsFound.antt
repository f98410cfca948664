-- A run of the scenario that a value is, from a course of it.
use Rattle.rx_script.proofs.Common.{◌≡◌, ◌≤◌, ℕ, List, Bool, false, Some, Script, steps_of, Ware, Course, HasNoFull, IsCourseOf, Form, lacks_form, nothing_kept}
use Rattle.serde_json.specs.Data.{Data}
use Rattle.rx_event.specs.Totals.{accepted_count}
use Rattle.rx_scenario.specs.Reading.{scenario_of}
use Rattle.rx_script.specs.Report.{output}
use Rattle.rx_device.specs.Input.{IsJsonOf}
use Rattle.rx_script.specs.Running.{IsReportedCanonically, IsRunOf, IsRunOfInput, has_refused}

pub run_found : (value : Data) (script : Script) (stock : List Ware) (form : Form) (text : List ℕ) (refused : Bool) → scenario_of value ≡ Some script
    → lacks_form form (steps_of script.steps) ≡ false
    → (c : Course) × (n : ℕ) × IsCourseOf script stock c × (n ≤ accepted_count nothing_kept c.last.history) × (text ≡ output form c n)
    × (HasNoFull c.answers → IsReportedCanonically script stock form c text n) × (refused ≡ has_refused c.answers)
    → IsRunOf value stock form text refused
run_found value script stock form text refused reading has_form found = record {
  output = record {
    script = script;
    reading = reading;
    course = found.0;
    possible = found.2;
    faults = found.1;
    few_faults = found.3;
    lines = found.4;
    has_form = has_form;
    canonical = found.5;
  };
  strict = found.6;
}

pub run_of_input : {input : List ℕ} {value : Data} {stock : List Ware} {form : Form} {text : List ℕ} {refused : Bool} → IsJsonOf input value
    → IsRunOf value stock form text refused → IsRunOfInput input stock form text refused
run_of_input {value} json ran = record { output = record { value = value; json = json; output = ran.output }; strict = ran.strict }
