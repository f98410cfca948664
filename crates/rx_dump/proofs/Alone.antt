-- A word and a number as values of one token.
use Rattle.rx_dump.proofs.Common.{◌≡◌, ℕ, List, ◌∷◌, Some, option_map, sym, ap, Token, value_is, Data, number, string, IsAlone}
use Rattle.json.specs.Json as grammar
use Rattle.serde_json.specs.Read.{number_of}

pub word_alone : (s : List ℕ) (d : Data) → d ≡ string s → IsAlone (Token.string s) d
word_alone s d e = λ depth ts. record {
  json = grammar.string s;
  read = value_is depth (Token.string s ∷ ts);
  means = ap Some (sym e);
}

pub number_alone : (s : List ℕ) (d : Data) → option_map number (number_of s) ≡ Some d → IsAlone (Token.number s) d
number_alone s d e = λ depth ts. record {
  json = grammar.number s;
  read = value_is depth (Token.number s ∷ ts);
  means = e;
}
