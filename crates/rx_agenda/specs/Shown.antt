-- What the code's agenda stands for, and how much is to come.
use Rattle.std.specs.Prelude.{ℕ, ◌+◌, length, map, sum_by}
use Rattle.rx_time.specs.Schedule.{seen_as, scheduled_items}
use Rattle.rx_scenario.specs.declared.scenario.Step.{Step as StepInCode}
use Rattle.rx_scenario.specs.Scenario.{step_of, labels_of}
use Rattle.rx_agenda.specs.declared.names.Named.{Named}
use Rattle.rx_agenda.specs.declared.agenda.Agenda.{Agenda as AgendaInCode}
use Rattle.rx_agenda.specs.Names.{name_bytes}
use Rattle.rx_agenda.specs.Bindings.{Binding}
use Rattle.rx_agenda.specs.Agenda.{Agenda}

-- a hub, and a label too, stands for a number
abbrev pub number_binding : Named ℕ → Binding
number_binding n = record { name = name_bytes n; number = n.key }

-- the agenda that the code's one is
abbrev pub agenda_of : AgendaInCode → Agenda
agenda_of a = record { timeline = seen_as step_of a.timeline; turn = map step_of a.turn; labels = map number_binding a.labels }

-- how many steps are to come, with those that may follow them
abbrev pub steps_to_come : StepInCode → ℕ
steps_to_come s = length (labels_of (step_of s))

abbrev pub size_left : AgendaInCode → ℕ
size_left a = sum_by steps_to_come (scheduled_items a.timeline.work) + sum_by steps_to_come a.turn
