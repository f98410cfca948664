-- What a run makes of its input.
use Rattle.std.specs.Prelude.{◌≡◌, ℕ, ◌≤◌, Some, None, List, Bool, false, true}
use Rattle.std.specs.List.{list_any}
use Rattle.rx_agenda.specs.declared.answer.Answer.{Answer}
use Rattle.rx_agenda.specs.declared.answer.Answer.TheVariants.{Accepted, Refused}
use Rattle.serde_json.specs.Data.{Data}
use Rattle.rx_event.specs.Kept.{nothing_kept}
use Rattle.rx_event.specs.Totals.{accepted_count}
use Rattle.rx_device.specs.Input.{IsJsonOf}
use Rattle.rx_scenario.specs.Scenario.{steps_of, Script}
use Rattle.rx_scenario.specs.Reading.{scenario_of}
use Rattle.rx_script.specs.declared.Form.{Form}
use Rattle.rx_script.specs.declared.Form.TheVariants.{Report}
use Rattle.rx_script.specs.Stage.{Ware}
use Rattle.rx_script.specs.Course.{Course, HasNoFull, IsCourseOf, HasOneCourse}
use Rattle.rx_script.specs.Report.{report, output, lacks_form}

-- the course, of which the text is written, is reported as the one canonical course of the scenario with this stock: so but for the
-- count of faults the report rests on nothing but the scenario, the tags of the resources, and which of them a book takes
pub record IsReportedCanonically (script : Script) (stock : List Ware) (form : Form) (course : Course) (text : List ℕ) (faults : ℕ) : Type 0 where
  pub one : HasOneCourse script stock
  pub same_answers : one.course.answers ≡ course.answers
  pub same_report : (n : ℕ) → report one.course n ≡ report course n
  pub lines : form ≡ Report → text ≡ report one.course faults

-- the text is what is written in this form of some course of the scenario that the JSON value is, with this stock, where at most as
-- many releases met a fault as resources were accepted
pub record IsOutputOf (value : Data) (stock : List Ware) (form : Form) (text : List ℕ) : Type 0 where
  pub script : Script
  pub reading : scenario_of value ≡ Some script
  pub course : Course
  pub possible : IsCourseOf script stock course
  pub faults : ℕ
  pub few_faults : faults ≤ accepted_count nothing_kept course.last.history
  pub lines : text ≡ output form course faults
  pub has_form : lacks_form form (steps_of script.steps) ≡ false
  -- where no step was refused because the history was full
  pub canonical : HasNoFull course.answers → IsReportedCanonically script stock form course text faults

-- the input is the text of such a value
pub record IsOutputOfInput (input : List ℕ) (stock : List Ware) (form : Form) (text : List ℕ) : Type 0 where
  pub value : Data
  pub json : IsJsonOf input value
  pub output : IsOutputOf value stock form text

-- a step was refused
abbrev pub is_refused : Answer → Bool
is_refused Accepted = false
is_refused (Refused why) = true

abbrev pub has_refused : List Answer → Bool
has_refused answers = list_any is_refused answers

-- the same of the value, and whether a step of that course was refused
pub record IsRunOf (value : Data) (stock : List Ware) (form : Form) (text : List ℕ) (refused : Bool) : Type 0 where
  pub output : IsOutputOf value stock form text
  pub strict : refused ≡ has_refused output.course.answers

-- the same of the input
pub record IsRunOfInput (input : List ℕ) (stock : List Ware) (form : Form) (text : List ℕ) (refused : Bool) : Type 0 where
  pub output : IsOutputOfInput input stock form text
  pub strict : refused ≡ has_refused output.output.course.answers

-- nothing is to be written: the value is no scenario, or one that lacks this form
pub data GivesNoOutput (value : Data) (form : Form) : Type 0 where
  no_scenario : scenario_of value ≡ None → GivesNoOutput value form
  no_form : {script : Script} → scenario_of value ≡ Some script → lacks_form form (steps_of script.steps) ≡ true → GivesNoOutput value form

-- the input is the text of a value of which nothing is to be written in this form
pub record HasNoOutput (input : List ℕ) (form : Form) : Type 0 where
  pub value : Data
  pub json : IsJsonOf input value
  pub none : GivesNoOutput value form
