-- An array from the token that opens it.
use Rattle.rx_dump.proofs.Common.{◌≡◌, ℕ, List, [], ◌∷◌, Some, option_map, ap, ◌∙◌, arith, option_and_then, Token, begin_array, tokens, Items, array, of_json}
use Rattle.rx_dump.proofs.Common.{Event, event_of, history_of, in_dump, in_event, AreItems, IsEvent, AreEvents, IsTextOf}
use Rattle.json.specs.Json.{array as json_array, parse_map, if_last, value}
use Rattle.json.proofs.Grammar.{value-begin_array}

pub event_opened : (old rest new : List Token) (ds : Items) (e : Event) → old ≡ begin_array ∷ rest → AreItems in_event rest new ds
    → event_of (array ds) ≡ Some e → IsEvent old new e
event_opened old rest new ds e opens parts is = record {
  value = array ds;
  read = record {
    json = json_array parts.json;
    read = ap (value in_dump) opens ∙ value-begin_array in_dump rest (omega arith) ∙ ap (parse_map json_array) parts.read;
    means = ap (option_map array) parts.means;
  };
  event = is;
}

pub text_opened : (text : List ℕ) (rest : List Token) (h : List Event) → tokens text ≡ begin_array ∷ rest → AreEvents rest [] h → IsTextOf text h
unfolding history_of
text_opened text rest h opens events = record {
  value = array events.values;
  json =
      let all : value 127 (tokens text) ≡ Some (json_array events.read.json, []) =
      ap (value 127) opens ∙ value-begin_array 127 rest (omega arith) ∙ ap (parse_map json_array) events.read.read in
      ap (λ r. option_and_then of_json (option_and_then (λ p. if_last p.0 p.1) r)) all ∙ ap (option_map array) events.read.means;
  reading = events.events;
}
