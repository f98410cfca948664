-- Values, the rest of an array and events, as the tokens of a text tell them.
use Rattle.std.specs.Prelude.{◌≡◌, ◌∷◌}
use Rattle.rx_dump.specs.Imports.{ℕ, List, length, Some, Token, Data, Items, of_json, of_items, read, Event}
use Rattle.json.specs.Json.{Json, Items as JsonItems, items, value}
use Rattle.rx_dump.specs.History.{event_of, each_event, history_of}

-- a text nests 127 deep at most, of which so many are left within a dump, and within an event of it
abbrev pub in_dump : ℕ
in_dump = 126

abbrev pub in_event : ℕ
in_event = 125

-- the tokens old begin with this value, which nests no deeper than depth, and new are those behind it
pub record IsValue (depth : ℕ) (old new : List Token) (d : Data) : Type 0 where
  pub json : Json
  pub read : value depth old ≡ Some (json, new)
  pub means : of_json json ≡ Some d

-- the token alone is this value
abbrev pub IsAlone : Token → Data → Type 0
IsAlone t d = (depth : ℕ) (ts : List Token) → IsValue depth (t ∷ ts) ts d

-- the tokens old begin with the rest of an array, which has these items, and new are those behind its end
pub record AreItems (depth : ℕ) (old new : List Token) (ds : Items) : Type 0 where
  pub json : JsonItems
  pub read : items (value depth) (length old) old ≡ Some (json, new)
  pub means : of_items json ≡ Some ds

-- the tokens old begin with this event, and new are those behind it
pub record IsEvent (old new : List Token) (e : Event) : Type 0 where
  pub value : Data
  pub read : IsValue in_dump old new value
  pub event : event_of value ≡ Some e

-- the tokens old begin with the rest of a dump, which has these events, and new are those behind its end
pub record AreEvents (old new : List Token) (h : List Event) : Type 0 where
  pub values : Items
  pub read : AreItems in_dump old new values
  pub events : each_event values ≡ Some h

-- the text is that of a dump of these events
pub record IsTextOf (text : List ℕ) (h : List Event) : Type 0 where
  pub value : Data
  pub json : read text ≡ Some value
  pub reading : history_of value ≡ Some h
