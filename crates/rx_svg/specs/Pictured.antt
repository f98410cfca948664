-- The picture of an input: of a dump, or of an object with a dump and with names.
use Rattle.std.specs.Prelude.{◌≡◌, ℕ, Some, List}
use Rattle.serde_json.specs.Data.{Data}
use Rattle.rx_event.specs.declared.event.Event.{Event}
use Rattle.rx_device.specs.Input.{IsJsonOf}
use Rattle.rx_dump.specs.History.{history_of}
pub use Rattle.rx_dump.specs.Names.{dump_in, names_in}
use Rattle.rx_dump.specs.Names.{name_in_object}
use Rattle.rx_svg.specs.Page.{IsPicture}

-- the JSON value has the dump of a history, and the text is a picture of that, with its names
pub record IsPictureOn (d : Data) (text : List ℕ) : Type 0 where
  pub history : List Event
  pub reading : history_of (dump_in d) ≡ Some history
  pub picture : IsPicture history (name_in_object (names_in d)) text

-- the input is the text of such a value
pub record IsPictureOfInput (input text : List ℕ) : Type 0 where
  pub value : Data
  pub json : IsJsonOf input value
  pub picture : IsPictureOn value text
