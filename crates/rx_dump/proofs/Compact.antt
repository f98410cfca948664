-- The dump's text as that of its JSON value.
use Rattle.rx_dump.proofs.Common.{◌≡◌, pos, negsuc, true, false, List, [], ◌∷◌, ◌++◌, refl, ap, sym, ◌∙◌, codes, map, decimal, append_assoc, flat_map, Error}
use Rattle.rx_dump.proofs.Common.{items_of, Completed, Place, Root, Source, Inner, Notifier, Kind, Leaf, Auto, Event, Open, Hub, Accept, Item, End}
use Rattle.rx_dump.proofs.Common.{following_event_text}
use Rattle.serde_json.proofs.OnLiterals.{serde_json_on_literals}
use Rattle.serde_json.specs.Written.{compact_text, items_text}
use Rattle.rx_note.specs.declared.note.Terminal.{Terminal}
use Rattle.rx_dump.specs.Dump.{place_text, kind_text, terminal_text, event_text, events_text, dump}
use Rattle.rx_dump.specs.Claims.Dumps.{kind_parts, place_parts, terminal_parts, event_data, history_data}

kind_compact : (kind : Kind) → items_text true (items_of (kind_parts kind)) ≡ codes "," ++ kind_text kind ++ codes "]"
unfolding serde_json_on_literals
kind_compact Leaf = refl
kind_compact _ = refl

place_compact : (place : Place) (kind : Kind) → items_text true (items_of (place_parts place ++ kind_parts kind))
    ≡ codes "," ++ place_text place ++ codes "," ++ kind_text kind ++ codes "]"
unfolding serde_json_on_literals
place_compact Root kind = ap (λ s. codes ",\"root\"" ++ s) (kind_compact kind)
place_compact (Source n) kind = ap (λ s. codes ",\"source\"," ++ (decimal n ++ s)) (kind_compact kind) ∙ simp append_assoc
place_compact (Inner n) kind = ap (λ s. codes ",\"inner\"," ++ (decimal n ++ s)) (kind_compact kind) ∙ simp append_assoc
place_compact (Notifier n) kind = ap (λ s. codes ",\"notifier\"," ++ (decimal n ++ s)) (kind_compact kind) ∙ simp append_assoc

terminal_compact : (terminal : Terminal) → items_text true (items_of (terminal_parts terminal)) ≡ codes "," ++ terminal_text terminal ++ codes "]"
unfolding serde_json_on_literals
terminal_compact Completed = refl
terminal_compact (Error code) = refl

event_compact : (e : Event) → compact_text (event_data e) ≡ event_text e
unfolding serde_json_on_literals event_text
event_compact (Open place kind) = ap (λ s. codes "[\"open\"" ++ s) (place_compact place kind)
event_compact (Hub Auto) = refl
event_compact (Accept node tag) = simp append_assoc
event_compact (Item leaf (pos n)) = simp append_assoc
event_compact (Item leaf (negsuc n)) = simp append_assoc
event_compact (End node terminal) = ap (λ s. codes "[\"end\"," ++ (decimal node ++ s)) (terminal_compact terminal) ∙ simp append_assoc
event_compact _ = refl

rest_compact : (h : List Event) → items_text true (items_of (map event_data h)) ≡ flat_map following_event_text h ++ codes "]"
rest_compact [] = refl
rest_compact (e ∷ es) =
    ap (λ s. codes "," ++ (s ++ items_text true (items_of (map event_data es)))) (event_compact e)
    ∙ ap (λ s. codes "," ++ (event_text e ++ s)) (rest_compact es)
    ∙ simp append_assoc

events_compact : (h : List Event) → items_text false (items_of (map event_data h)) ≡ events_text h ++ codes "]"
events_compact [] = refl
events_compact (e ∷ es) =
    ap (λ s. s ++ items_text true (items_of (map event_data es))) (event_compact e)
    ∙ ap (λ s. event_text e ++ s) (rest_compact es)
    ∙ sym (append_assoc (event_text e) (flat_map following_event_text es) (codes "]"))

pub compact : (h : List Event) → dump h ≡ compact_text (history_data h) ++ codes "\n"
unfolding dump
compact h = sym (ap (λ s. codes "[" ++ s ++ codes "\n") (events_compact h) ∙ simp append_assoc)
