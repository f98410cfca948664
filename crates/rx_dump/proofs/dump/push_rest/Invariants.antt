-- The events so far, each after a comma.
use Rattle.rx_dump.proofs.Common.{◌≡◌, ◌++◌, take, string_bytes, flat_map, following_event_text}
use Rattle.rx_dump.proofs.dump.push_rest.Given as goal

abbrev pub invariant-loop-event : goal.invariant-loop-event
invariant-loop-event l = string_bytes l.text ≡ string_bytes l.initial.text ++ flat_map following_event_text (take l.event-index l.events)
