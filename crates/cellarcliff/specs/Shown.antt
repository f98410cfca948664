-- What a picture shows of the bytes that are handed in, and what is said of those that are faulty.
use Rattle.std.specs.Prelude.{◌≡◌, ℕ, ◌<◌, ◌⊎◌, None, List, [], length}
use Rattle.serde_json.specs.Data.{Data}
use Rattle.rx_device.specs.Input.{IsJsonOf, most_bytes}
use Rattle.rx_dump.specs.History.{history_of}
use Rattle.rx_svg.specs.Pictured.{dump_in, IsPictureOn}
use Rattle.rx_explain.specs.Accepted.{IsAccepted}

-- the bytes have a dump, and the text is the picture of its history, with the names beside it
pub record TellsPicture (input text : List ℕ) (status : ℕ) : Type 0 where
  pub value : Data
  pub json : IsJsonOf input value
  pub picture : IsPictureOn value text
  pub says : status ≡ 0

-- the bytes are too many, or no JSON text, or one that has no dump
abbrev pub HasNoDump : List ℕ → Type 0
HasNoDump input = (most_bytes < length input) ⊎ ((value : Data) → IsJsonOf input value → history_of (dump_in value) ≡ None)

-- nothing is said of bytes that are accepted, and something of all others
pub data TellsFault (input text : List ℕ) (status : ℕ) : Type 0 where
  says_nothing : IsAccepted input → text ≡ [] → status ≡ 0 → TellsFault input text status
  says_why : ¬ IsAccepted input → status ≡ 5 → TellsFault input text status
