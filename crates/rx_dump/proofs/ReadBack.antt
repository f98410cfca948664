-- Each event's JSON value is read as the event.
use Rattle.rx_dump.proofs.Common.{◌≡◌, pos, true, List, [], ◌∷◌, Some, option_map, refl, ap, map, list_all, and_parts, items_of, Data, array, Error, Place}
use Rattle.rx_dump.proofs.Common.{Root, Source, Inner, Notifier, Kind, Leaf, Auto, Event, Open, Hub, Item, End, has_count, event_of, each_event, history_of}
use Rattle.rx_dump.specs.History.{word_at, number_element, value_element, only_number, plain_kind, kind_from, place_below, open_below, open_by, open_event_of}
use Rattle.rx_dump.specs.History.{terminal_by}
use Rattle.rx_dump.specs.History.{end_event_of, mode_by_word, hub_of, accept_of, item_event_of, resource_event_by, event_by_word}
use Rattle.rx_dump.specs.Claims.Dumps.{kind_parts, event_data, history_data, is_in_range}

kind_after_two : (a b : Data) (kind : Kind) → kind_from 2 (array (items_of (a ∷ b ∷ kind_parts kind))) ≡ Some kind
unfolding kind_from has_count word_at number_element plain_kind
kind_after_two a b Leaf = refl
kind_after_two a b _ = refl

kind_after_three : (a b c : Data) (kind : Kind) → kind_from 3 (array (items_of (a ∷ b ∷ c ∷ kind_parts kind))) ≡ Some kind
unfolding kind_from has_count word_at number_element plain_kind
kind_after_three a b c Leaf = refl
kind_after_three a b c _ = refl

open_read : (place : Place) (kind : Kind) → event_of (event_data (Open place kind)) ≡ Some (Open place kind)
unfolding event_of event_by_word open_event_of open_by open_below place_below word_at number_element
open_read Root kind = ap (option_map (Open Root)) (kind_after_two _ _ kind)
open_read (Source n) kind = ap (option_map (Open (Source n))) (kind_after_three _ _ _ kind)
open_read (Inner n) kind = ap (option_map (Open (Inner n))) (kind_after_three _ _ _ kind)
open_read (Notifier n) kind = ap (option_map (Open (Notifier n))) (kind_after_three _ _ _ kind)

event_read : (e : Event) → is_in_range e ≡ true → event_of (event_data e) ≡ Some e
unfolding event_of event_by_word resource_event_by hub_of mode_by_word accept_of item_event_of end_event_of terminal_by only_number has_count word_at
    number_element value_element
event_read (Open place kind) h = open_read place kind
event_read (Hub Auto) h = refl
event_read (Item leaf (pos n)) h = rw h refl
event_read (End node (Error code)) h = rw h refl
event_read _ h = refl

each_read : (h : List Event) → list_all is_in_range h ≡ true → each_event (items_of (map event_data h)) ≡ Some h
each_read [] within = refl
each_read (e ∷ es) within =
    let both = and_parts (is_in_range e) (list_all is_in_range es) within in
    rw (event_read e both.0, each_read es both.1) refl

pub read_back : (h : List Event) → list_all is_in_range h ≡ true → history_of (history_data h) ≡ Some h
unfolding history_of
read_back h within = each_read h within
