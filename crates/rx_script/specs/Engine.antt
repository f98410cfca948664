-- A scenario at work: what its parts stand for, and what they keep.
use Rattle.std.specs.Prelude.{◌≡◌, ℕ, ◌+◌, ◌<◌, ◌≤◌, ◌⊎◌, Bool, false, ◌||◌, Option, Some, List, [], ◌∷◌, ◌++◌, String, map, take, is_some, option_map}
use Rattle.std.specs.Str.{bytes_eq}
use Rattle.std.specs.Option.{option_map_or}
use Rattle.std.specs.declared.alloc.Global.{Global}
use Rattle.std.specs.List.{All}
use Rattle.rx_event.specs.declared.event.Event.{Event}
use Rattle.rx_event.specs.Kept.{nothing_kept, shown, stored}
use Rattle.rx_event.specs.Bases.{base_of}
use Rattle.rx_event.specs.Lawful.{IsLawful}
use Rattle.rx_event.specs.Notes.{notes as notes_in}
use Rattle.rx_event.specs.Forced.{IsSettled}
use Rattle.rx_event.specs.declared.event.Kind.{Kind}
use Rattle.rx_event.specs.declared.event.Kind.TheVariants.{Leaf, Pass, Flat, Switch, Until, Sub}
use Rattle.rx_event.specs.Totals.{taken_count}
use Rattle.rx_slots.specs.declared.Key.{Key}
use Rattle.rx_book.specs.declared.answer.At.{At}
use Rattle.rx_book.specs.declared.answer.At.TheVariants.{Root as AtRoot, Source as AtSource, Inner as AtInner, Notifier as AtNotifier}
use Rattle.rx_book.specs.State.{State, IsPromised}
use Rattle.rx_agenda.specs.declared.answer.Answer.{Answer}
use Rattle.rx_agenda.specs.declared.names.Named.{Named}
use Rattle.rx_script.specs.declared.engine.Engine.{Engine}
use Rattle.rx_agenda.specs.declared.agenda.Agenda.{Agenda as AgendaInCode}
use Rattle.rx_scenario.specs.declared.scenario.Action.{Action as ActionInCode}
use Rattle.rx_scenario.specs.declared.scenario.Step.{Step as StepInCode}
use Rattle.rx_scenario.specs.Scenario.{Name, Site, root, source, inner, notifier, Sort, leaf, pass}
use Rattle.rx_scenario.specs.Scenario.{flat, switch, until, sub, Command, action_of, list_of, step_of}
use Rattle.rx_agenda.specs.Names.{key_named}
use Rattle.rx_agenda.specs.Bindings.{Binding}
use Rattle.rx_agenda.specs.Shown.{number_binding, agenda_of, steps_to_come, size_left}
use Rattle.rx_script.specs.declared.tallies.Tallies.{Tallies}
use Rattle.rx_script.specs.Tallies.{AreCountsOf, AreNotesOf}
use Rattle.rx_script.specs.Keys.{node_binding, res_binding, lease_binding, IsNodeKey, IsHeldKey, IsLeaseKey}
use Rattle.rx_script.specs.Stage.{Stage}
use Rattle.rx_agenda.specs.Agenda.{Agenda, followed_by}
use Rattle.rx_script.specs.Course.{limited, Executes}
use Rattle.rx_script.specs.Progress.{PerformsStep}

-- names --------------------------------------------------------------------------------------------

-- where a node is to be opened, by keys
abbrev pub at_of : List (Named Key) → Site → Option At
at_of names root = Some AtRoot
at_of names (source name) = option_map AtSource (key_named names name)
at_of names (inner name) = option_map AtInner (key_named names name)
at_of names (notifier name) = option_map AtNotifier (key_named names name)

-- the kind of node that is to be opened, by the numbers of hubs
abbrev pub kind_by_hubs : List (Named ℕ) → Sort → Option Kind
kind_by_hubs names leaf = Some Leaf
kind_by_hubs names pass = Some Pass
kind_by_hubs names flat = Some Flat
kind_by_hubs names switch = Some Switch
kind_by_hubs names until = Some Until
kind_by_hubs names (sub hub connection) = option_map Sub (key_named names hub)

-- a name for a connection, where there is one, is bound
abbrev pub is_connection_bound : List (Named Key) → Option Name → Bool
is_connection_bound names name = option_map_or (λ n. is_some (key_named names n)) name false

-- or is this one, which another node is to get before
abbrev pub is_taken_beside : List (Named Key) → Name → Option Name → Bool
is_taken_beside names node name = option_map_or (λ n. is_some (key_named names n) || bytes_eq node n) name false

-- a connection that was made gets its name, where there are both
abbrev pub with_named : List (Named Key) → Option (String Global) → Option Key → List (Named Key)
with_named names (Some name) (Some key) = names ++ record { name = name; key = key } ∷ []
with_named names _ _ = names

-- the history ----------------------------------------------------------------------------------------

-- the history from its first event on, of which a book stores the part since the last checkpoint alone, behind the base of the part
-- before it. The tallies have the events and notes of that part, and the notes that the book handed out since
pub record IsHistoryOf (h : List Event) (t : Tallies) (s : State) : Type 0 where
  pub front : List Event
  pub since : List Event
  pub whole : h ≡ front ++ since
  pub lawful : IsLawful nothing_kept front
  pub settled : IsSettled nothing_kept front
  pub base : s.base ≡ base_of nothing_kept front
  pub history : s.history ≡ stored s.base since
  pub counts : AreCountsOf front t
  pub told : AreNotesOf (notes_in front ++ take s.given (notes_in s.history)) t

-- the engine ---------------------------------------------------------------------------------------

-- the stage that an engine is at, where this is its history
abbrev pub stage_of : {R : Type 0} → Engine R → List Event → Stage
stage_of e h =
    record {
      history = h;
      checked = e.book.base.at_length;
      nodes = map node_binding e.nodes;
      hubs = map number_binding e.hubs;
      resources = map res_binding e.resources;
      leases = map lease_binding e.leases;
      stock = e.stock.wares;
    }

-- the names of its run
abbrev pub engine_names : {R : Type 0} → Engine R → List Binding
engine_names e = map node_binding e.nodes ++ map number_binding e.hubs ++ map res_binding e.resources

-- what an engine keeps
pub record IsSound {R : Type 0} (e : Engine R) : Type 0 where
  pub kept : IsPromised e.book
  pub nodes : All (λ n. IsNodeKey e.book n.key) e.nodes
  pub resources : All (λ n. IsHeldKey e.book n.key) e.resources
  pub leases : All (λ n. IsLeaseKey e.book n.key) e.leases
  pub faults : e.faults ≤ taken_count e.book.base e.book.history

-- whatever history the old engine has, it goes on to one of the new engine, and the stages are in this relation
abbrev pub MovesOn : {R : Type 0} → Engine R → Engine R → (Stage → Stage → Type 0) → Type 0
MovesOn old new IsDone =
    (h : List Event) → IsHistoryOf h old.tallies old.book
    → (k : List Event) × IsDone (stage_of old h) (stage_of new k) × IsHistoryOf k new.tallies new.book

-- no note was handed out, but at a checkpoint all, behind which none is left
abbrev pub HandsOutNone : {R : Type 0} → Engine R → Engine R → Type 0
HandsOutNone old new = (new.book.given ≡ old.book.given) ⊎ (new.book.history ≡ shown new.book.base)

-- the step was executed with this answer
pub record CarriesStep {R : Type 0} (old : Engine R) (step : Command) (answer : Answer) (new : Engine R) : Type 0 where
  pub executes : MovesOn old new (λ s t. Executes (limited old.book.limit) s step answer t)
  pub sound : IsSound new
  pub limit : new.book.limit ≡ old.book.limit
  pub given : HandsOutNone old new

-- whatever history the old engine has, the new one has too, and they are at the same stage
pub record StaysAt {R : Type 0} (old new : Engine R) : Type 0 where
  pub history : (h : List Event) → IsHistoryOf h old.tallies old.book → IsHistoryOf h new.tallies new.book
  pub stage : (h : List Event) → stage_of new h ≡ stage_of old h
  pub sound : IsSound new
  pub limit : new.book.limit ≡ old.book.limit

-- the agenda ---------------------------------------------------------------------------------------

-- what a step does was done with this answer
pub record Performed {R : Type 0} (old : Engine R) (before : AgendaInCode) (action : ActionInCode) (answer : Answer)
    (new : Engine R) (now : AgendaInCode) : Type 0 where
  pub performs : MovesOn old new (λ s t. PerformsStep (limited old.book.limit) (record { stage = s; agenda = agenda_of before }) (action_of action) answer
      (record { stage = t; agenda = agenda_of now }))
  pub sound : IsSound new
  pub limit : new.book.limit ≡ old.book.limit
  pub given : HandsOutNone old new
  pub size : size_left now ≤ size_left before
  pub clock : now.timeline.clock ≡ before.timeline.clock

-- the step was taken with this answer, and what follows it is to come
pub record Followed {R : Type 0} (old : Engine R) (before : AgendaInCode) (step : StepInCode) (answer : Answer)
    (new : Engine R) (now : AgendaInCode) : Type 0 where
  pub left : Agenda
  pub performs : MovesOn old new (λ s t. PerformsStep (limited old.book.limit) (record { stage = s; agenda = agenda_of before }) (step_of step).action answer
      (record { stage = t; agenda = left }))
  pub follows : agenda_of now ≡ followed_by answer (list_of (step_of step).followers) left
  pub sound : IsSound new
  pub limit : new.book.limit ≡ old.book.limit
  pub given : HandsOutNone old new
  pub size : size_left now < size_left before + steps_to_come step
  pub clock : now.timeline.clock ≡ before.timeline.clock
