-- The dump of a history beside the names of what is in it, as one JSON object.
use Rattle.std.specs.Prelude.{ℕ, List, [], ◌∷◌, ◌++◌, codes, map, flat_map}
use Rattle.std.specs.Fmt.{decimal}
use Rattle.serde_json.specs.Data.{string}
use Rattle.serde_json.specs.Written.{compact_text}
use Rattle.rx_event.specs.declared.event.Event.{Event}
use Rattle.rx_dump.specs.Dump.{dump}
use Rattle.rx_agenda.specs.Bindings.{Binding}
use Rattle.rx_scenario.specs.Scenario.{Name}
use Rattle.rx_script.specs.Stage.{Stage}

-- the names of a run: those of its nodes, of its hubs and of its resources, each with its number in the history
abbrev pub run_names : Stage → List Binding
run_names s = s.nodes ++ s.hubs ++ s.resources

-- a member of an object: the number, in quotes, leads to the name as a JSON string
unfoldable pub number_member_text : ℕ → Name → List ℕ
number_member_text number name = codes "\"" ++ decimal number ++ codes "\":" ++ compact_text (string name)

abbrev pub binding_text : Binding → List ℕ
binding_text b = number_member_text b.number b.name

-- a text that another one precedes
abbrev pub following_text : List ℕ → List ℕ
following_text t = codes "," ++ t

-- texts, with a comma between them
abbrev pub joined : List (List ℕ) → List ℕ
joined [] = []
joined (t ∷ ts) = t ++ flat_map following_text ts

-- the dump, and behind it the names
unfoldable pub named_dump : List Event → List Binding → List ℕ
named_dump h names = codes "{\"dump\":" ++ dump h ++ codes ",\"names\":{" ++ joined (map binding_text names) ++ codes "}}\n"
