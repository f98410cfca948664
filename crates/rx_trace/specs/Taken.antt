-- A step that was taken, with its line, by the parts of a run in code. No clause of `trace` cites this module.
use Rattle.std.specs.Prelude.{◌≡◌, ℕ, ◌<◌, ◌≤◌, ◌+◌, ◌++◌, ◌&&◌, Bool, List, codes, length, drop, map, nat_eq}
use Rattle.std.specs.List.{All, filter_map, list_any}
use Rattle.std.specs.List.Sorted.{IsNonDecreasingBy}
use Rattle.std.specs.HashSet.{contains}
use Rattle.std.proofs.Math.Bool.{not}
use Rattle.rx_event.specs.declared.event.Event.{Event}
use Rattle.rx_event.specs.Events.{is_take_of}
use Rattle.rx_event.specs.Notes.{notes}
use Rattle.rx_event.specs.Resources.{is_held}
use Rattle.rx_book.specs.State.{State}
use Rattle.rx_agenda.specs.declared.agenda.Agenda.{Agenda as AgendaInCode}
use Rattle.rx_agenda.specs.declared.answer.Answer.{Answer}
use Rattle.rx_agenda.specs.Agenda.{Agenda, followed_by}
use Rattle.rx_agenda.specs.Bindings.{Binding}
use Rattle.rx_agenda.specs.Shown.{agenda_of, steps_to_come, size_left}
use Rattle.rx_line.specs.Pieces.{name_text, member_text}
use Rattle.rx_scenario.specs.declared.scenario.Step.{Step as StepInCode}
use Rattle.rx_scenario.specs.Scenario.{step_of, list_of}
use Rattle.rx_script.specs.declared.engine.Engine.{Engine}
use Rattle.rx_script.specs.Engine.{IsSound, IsHistoryOf, stage_of}
use Rattle.rx_script.specs.Keys.{node_binding, res_binding}
use Rattle.rx_script.specs.Course.{limited}
use Rattle.rx_script.specs.Progress.{PerformsStep}
use Rattle.rx_script.specs.Running.{has_refused}
use Rattle.rx_trace.specs.declared.handed.HandedOut.{HandedOut}
use Rattle.rx_trace.specs.Told.{names_where, told_note, taken_by, resource_told}
use Rattle.rx_script.specs.Stage.{Stage}
use Rattle.rx_trace.specs.Line.{trace_line}
use Rattle.rx_trace.specs.Traced.{TracesTo}

-- the numbers that names stand for rise, as those of nodes do
abbrev pub Rise : List Binding → Type 0
Rise bindings = IsNonDecreasingBy (λ b. b.number) bindings

-- just those resources were handed out by this history
abbrev pub AreHandedOut : HandedOut → List Event → Type 0
AreHandedOut t h = (r : ℕ) → contains nat_eq t.numbers r ≡ list_any (is_take_of r) h

-- what a trace knows of the stage that it is at: what was handed out, and that its nodes are named in the order in which they were made
pub record Knows (t : HandedOut) (s : Stage) : Type 0 where
  pub handed : AreHandedOut t s.history
  pub rise : Rise s.nodes
  pub within : All (λ b. b.number ≤ length s.history) s.nodes

-- the resource is neither held by the book nor handed out
abbrev pub waits_by : State → HandedOut → ℕ → Bool
waits_by s t r = not (is_held s.history r) && not (contains nat_eq t.numbers r)

-- what is told of an engine that handed these out, the last of them from this place on
abbrev pub told_in_code : {R : Type 0} → Engine R → HandedOut → ℕ → List ℕ
told_in_code e t from =
    member_text (codes "notes") (map (told_note (map node_binding e.nodes)) (drop e.book.given (notes e.book.history)))
    ++ member_text (codes "waits") (map name_text (names_where (waits_by e.book t) (map res_binding e.resources)))
    ++ member_text (codes "release") (map (resource_told (map res_binding e.resources)) (filter_map taken_by (drop from e.book.history)))

-- all notes were handed out
abbrev pub HasToldAll : {R : Type 0} → Engine R → Type 0
HasToldAll e = e.book.given ≡ length (notes e.book.history)

-- the lines of all steps led to this engine, which handed these resources out, and this is whether a step was refused
abbrev pub HasRunOut : {R : Type 0} → (limit until : ℕ) → Stage → Agenda → (text : List ℕ) → (refused : Bool) → Engine R → HandedOut → Type 0
HasRunOut limit until stage agenda text refused e t = (j : List Event)
    × (traced : TracesTo (limited limit) until (record { stage = stage; agenda = agenda }) text (stage_of e j))
    × AreHandedOut t j × IsHistoryOf j e.tallies e.book × (refused ≡ has_refused traced.answers)

-- the step was taken as the k-th with this answer, what follows it is to come, all notes were handed out, and its line was written
pub record TakesTold {R : Type 0} (old : Engine R) (before : AgendaInCode) (handed : HandedOut) (text : List ℕ) (k : ℕ) (step : StepInCode)
    (answer : Answer) (new : Engine R) (now : AgendaInCode) (handed' : HandedOut) (longer : List ℕ) : Type 0 where
  pub left : Agenda
  pub performs : (h : List Event) → IsHistoryOf h old.tallies old.book → Knows handed (stage_of old h)
      → (j : List Event) × PerformsStep (limited old.book.limit) (record { stage = stage_of old h; agenda = agenda_of before }) (step_of step).action answer
      (record { stage = stage_of new j; agenda = left })
      × (longer ≡ text ++ trace_line k before.timeline.clock (step_of step).action answer (stage_of old h) (stage_of new j))
      × Knows handed' (stage_of new j) × IsHistoryOf j new.tallies new.book
  pub follows : agenda_of now ≡ followed_by answer (list_of (step_of step).followers) left
  pub sound : IsSound new
  pub told : HasToldAll new
  pub limit : new.book.limit ≡ old.book.limit
  pub size : size_left now < size_left before + steps_to_come step
  pub clock : now.timeline.clock ≡ before.timeline.clock
