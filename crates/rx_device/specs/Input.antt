-- What a reader gave, said of the bytes that it had and has left.
use Rattle.std.specs.Prelude.{◌≡◌, ℕ, ◌<◌, ◌≤◌, Some, Option, List, length, IsUtf8}
use Rattle.std.specs.Io.KnownBytes.{Consumes, IsAtEnd}
use Rattle.serde_json.specs.Data.{Data}
use Rattle.serde_json.specs.Read.{read}

-- the longest input, in bytes
abbrev pub most_bytes : ℕ
most_bytes = 16777216

-- the input is the text of this JSON value
pub record IsJsonOf (input : List ℕ) (d : Data) : Type 0 where
  pub text : IsUtf8 input
  pub value : read input ≡ Some d

-- the reader gave this input, which is not too long, and has nothing left
pub record GivesWhole (old new : Option (List ℕ)) (input : List ℕ) : Type 0 where
  pub consumes : Consumes old new input
  pub at_end : IsAtEnd new
  pub short : length input ≤ most_bytes

-- it gave more bytes than an input may have
pub record GivesTooMuch (old new : Option (List ℕ)) : Type 0 where
  pub input : List ℕ
  pub consumes : Consumes old new input
  pub long : most_bytes < length input

-- it gave the text of this JSON value
pub record GivesJson (old new : Option (List ℕ)) (d : Data) : Type 0 where
  pub input : List ℕ
  pub whole : GivesWhole old new input
  pub json : IsJsonOf input d

-- it gave what is no JSON text
pub record GivesNoJson (old new : Option (List ℕ)) : Type 0 where
  pub input : List ℕ
  pub whole : GivesWhole old new input
  pub no_json : (d : Data) → ¬ IsJsonOf input d
