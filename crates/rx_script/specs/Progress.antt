-- Where a run is, and how the agenda's steps take it on. No clause of `run` cites this module: what it says of a course stands in Course.
use Rattle.std.specs.Prelude.{◌≡◌, ℕ, Some, None, List, [], ◌∷◌, ◌++◌}
use Rattle.rx_agenda.specs.declared.answer.Answer.{Answer}
use Rattle.rx_scenario.specs.Scenario.{Name, Command, Action, command, cancel, Step, list_of}
use Rattle.rx_agenda.specs.Agenda.{Agenda, empty_agenda, with_steps, followed_by, next_step, Cancels}
use Rattle.rx_script.specs.Stage.{Ware, Stage, start}
use Rattle.rx_script.specs.Course.{Manner, Executes}

-- where a run is: what it has done, and what is to come
pub record Progress : Type 0 where
  pub stage : Stage
  pub agenda : Agenda

-- before the first step, all steps of the scenario wait for their times
abbrev pub begin : List Ware → List Step → Progress
begin stock steps = record { stage = start stock; agenda = with_steps steps empty_agenda }

-- what a step does, its answer, and what follows
pub data PerformsStep (m : Manner) (p : Progress) : Action → Answer → Progress → Type 0 where
  executes : {c : Command} {answer : Answer} {s : Stage}
      → Executes m p.stage c answer s → PerformsStep m p (command c) answer (record { stage = s; agenda = p.agenda })
  cancels : {label : Name} {answer : Answer} {a : Agenda}
      → Cancels p.agenda label answer a → PerformsStep m p (cancel label) answer (record { stage = p.stage; agenda = a })

-- the step that comes next does what it does, and those that follow it join
pub record Advances (m : Manner) (until : ℕ) (p : Progress) (answer : Answer) (q : Progress) : Type 0 where
  pub step : Step
  pub rest : Agenda
  pub comes : next_step until p.agenda ≡ Some (step, rest)
  pub done : Progress
  pub performs : PerformsStep m (record { stage = p.stage; agenda = rest }) step.action answer done
  pub stage : q.stage ≡ done.stage
  pub follows : q.agenda ≡ followed_by answer (list_of step.followers) done.agenda

-- one step after another leads here with these answers
pub data LeadsBySteps (m : Manner) (until : ℕ) (first : Progress) : List Answer → Progress → Type 0 where
  not_begun : LeadsBySteps m until first [] first
  advanced : {answers : List Answer} {answer : Answer} {p q : Progress}
      → LeadsBySteps m until first answers p → Advances m until p answer q → LeadsBySteps m until first (answers ++ answer ∷ []) q

-- it leads to its end, from which on nothing comes next
pub record Ends (m : Manner) (until : ℕ) (first : Progress) (answers : List Answer) (last : Stage) : Type 0 where
  pub left : Agenda
  pub leads : LeadsBySteps m until first answers (record { stage = last; agenda = left })
  pub over : next_step until left ≡ None
