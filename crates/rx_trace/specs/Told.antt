-- What a line tells, from what had happened before its step and what has happened after it.
use Rattle.std.specs.Prelude.{ℕ, ◌==◌, ◌&&◌, Bool, Option, Some, None, List, [], length, drop, map, filter, find}
use Rattle.std.specs.List.{filter_map}
use Rattle.std.specs.Option.{option_map_or}
use Rattle.std.proofs.Math.Bool.{not}
use Rattle.rx_event.specs.declared.event.Event.{Event}
use Rattle.rx_event.specs.declared.event.Event.TheVariants.{Take}
use Rattle.rx_event.specs.declared.mail.Mail.{Mail}
use Rattle.rx_event.specs.Notes.{notes}
use Rattle.rx_event.specs.Resources.{is_held, is_taken}
use Rattle.rx_scenario.specs.Scenario.{Name}
use Rattle.rx_agenda.specs.Bindings.{Binding}
use Rattle.rx_line.specs.Pieces.{note_text, name_text}

-- names --------------------------------------------------------------------------------------------

-- the name that a number has; an empty one, if it has none
unfoldable pub name_by_number : List Binding → ℕ → Name
name_by_number bindings n = option_map_or (λ b. b.name) (find (λ b. b.number == n) bindings) []

-- the names of those numbers that are so, in order of binding
abbrev pub names_where : (ℕ → Bool) → List Binding → List Name
names_where is_so bindings = map (λ b. b.name) (filter (λ b. is_so b.number) bindings)

-- notes --------------------------------------------------------------------------------------------

-- what observers were told while one history became a longer one
abbrev pub told_between : List Event → List Event → List Mail
told_between h k = drop (length (notes h)) (notes k)

-- a note, with the name of the node that it goes to
abbrev pub told_note : List Binding → Mail → List ℕ
told_note nodes m = note_text (name_by_number nodes m.to) m.note

-- resources ----------------------------------------------------------------------------------------

-- the resource is not held any more, and was not handed out for its release
abbrev pub waits_after : List Event → ℕ → Bool
waits_after h r = not (is_held h r) && not (is_taken h r)

-- it was not handed out for its release: it is held, or waits
abbrev pub is_left_in : List Event → ℕ → Bool
is_left_in h r = not (is_taken h r)

-- the resource that an event hands out for its release
abbrev pub taken_by : Event → Option ℕ
taken_by (Take r) = Some r
taken_by _ = None

-- those that were handed out while one history became a longer one, in that order
abbrev pub taken_between : List Event → List Event → List ℕ
taken_between h k = filter_map taken_by (drop (length h) k)

-- one of them, by its name
abbrev pub resource_told : List Binding → ℕ → List ℕ
resource_told resources r = name_text (name_by_number resources r)
