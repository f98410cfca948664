-- The events that were read, before those that are left of a dump.
use Rattle.rx_dump.proofs.Common.{◌≡◌, List, [], ◌∷◌, ◌++◌, Option, Some, None, option_map, refl, ap, ◌∙◌, option_and_then, Token, after_end_array, Data}
use Rattle.rx_dump.proofs.Common.{Items, no_items, item, Event, event_of, each_event, in_dump, IsEvent, AreEvents}
use Rattle.rx_dump.proofs.Arrays.{joined, AreBefore, none_yet, one_more, all_read}

abbrev first : Option Event → Option (List Event) → Option (List Event)
first e es = option_and_then (λ x. option_map (λ xs. x ∷ xs) es) e

abbrev last : Option (List Event) → Option Event → Option (List Event)
last es e = option_and_then (λ xs. option_map (λ x. xs ++ x ∷ []) e) es

only : (e : Option Event) → first e (Some []) ≡ last (Some []) e
only None = refl
only (Some x) = refl

either_end : (e : Option Event) (es : Option (List Event)) (l : Option Event) → first e (last es l) ≡ last (first e es) l
either_end None es l = refl
either_end (Some x) None l = refl
either_end (Some x) (Some xs) None = refl
either_end (Some x) (Some xs) (Some y) = refl

each_event-joined : (past : Items) (d : Data) → each_event (joined past (item d no_items)) ≡ last (each_event past) (event_of d)
each_event-joined no_items d = only (event_of d)
each_event-joined (item x xs) d = ap (first (event_of x)) (each_event-joined xs d) ∙ either_end (event_of x) (each_event xs) (event_of d)

-- between the tokens start and now stand the events h, and whatever is left then follows them
pub record AreEventsBefore (start now : List Token) (h : List Event) : Type 0 where
  pub values : Items
  pub before : AreBefore in_dump start now values
  pub events : each_event values ≡ Some h

pub no_events_yet : (start : List Token) → AreEventsBefore start start []
no_events_yet start = record { values = no_items; before = none_yet in_dump start; events = refl }

pub one_more_event : (start now rest : List Token) (h : List Event) (e : Event) → AreEventsBefore start now h
    → after_end_array now ≡ None → IsEvent now rest e → AreEventsBefore start rest (h ++ e ∷ [])
one_more_event start now rest h e was going next = record {
  values = joined was.values (item next.value no_items);
  before = one_more start now rest was.values next.value was.before going next.read;
  events = each_event-joined was.values next.value ∙ rw (was.events, next.event) refl;
}

pub all_events_read : (start now rest : List Token) (h : List Event) → AreEventsBefore start now h
    → after_end_array now ≡ Some rest → AreEvents start rest h
all_events_read start now rest h was over =
    record { values = was.values; read = all_read in_dump start now rest was.values was.before over; events = was.events }
