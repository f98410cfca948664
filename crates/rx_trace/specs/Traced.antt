-- The trace of a scenario: the lines of the steps of one course, in order, and that of the closing.
use Rattle.std.specs.Prelude.{◌≡◌, ℕ, None, List, [], ◌∷◌, ◌++◌, length}
use Rattle.rx_agenda.specs.declared.answer.Answer.{Answer}
use Rattle.rx_agenda.specs.Agenda.{Agenda, next_step}
use Rattle.rx_scenario.specs.Scenario.{Script}
use Rattle.rx_script.specs.Stage.{Ware, Stage}
use Rattle.rx_script.specs.Course.{Manner, limited, IsCourseOf}
use Rattle.rx_script.specs.Progress.{Progress, begin, Advances}
use Rattle.rx_trace.specs.Line.{trace_line, closing_text}

-- one step after another, each the one that comes next, leads here with these answers, and these are their lines
pub data Traces (m : Manner) (until : ℕ) (first : Progress) : List Answer → List ℕ → Progress → Type 0 where
  nothing_done : Traces m until first [] [] first
  one_more : {answers : List Answer} {text : List ℕ} {answer : Answer} {p q : Progress}
      → Traces m until first answers text p → (a : Advances m until p answer q)
      → Traces m until first (answers ++ answer ∷ []) (text ++ trace_line (length answers) a.rest.timeline.clock a.step.action answer p.stage q.stage) q

-- it leads to its end, from which on nothing comes next
pub record TracesTo (m : Manner) (until : ℕ) (first : Progress) (text : List ℕ) (last : Stage) : Type 0 where
  pub answers : List Answer
  pub left : Agenda
  pub traces : Traces m until first answers text (record { stage = last; agenda = left })
  pub over : next_step until left ≡ None

-- the text is the trace of a course of the scenario with this stock
pub record IsTraceOf (script : Script) (stock : List Ware) (text : List ℕ) : Type 0 where
  pub last : Stage
  pub lines : List ℕ
  pub traced : TracesTo (limited script.events) script.until (begin stock script.steps) lines last
  pub possible : IsCourseOf script stock (record { answers = traced.answers; last = last })
  pub whole : text ≡ lines ++ closing_text last
