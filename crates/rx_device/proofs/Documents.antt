-- A text that is read in place: what serde_json reads there, where each number has a value.
use Rattle.std.proofs.Common.{◌≡◌, ℕ, List, ◌∷◌, Option, Some, None, Bool, true, false, option_map, option_and_then, refl, ap, sym, arith, rules}
use Rattle.std.specs.Prelude.{◌&&◌, ◌==◌, length, is_some}
use Rattle.std.proofs.lemmas.Bool.{and_parts, false≢true}
use Rattle.json.specs.Token.{Token}
use Rattle.json.specs.Lex.{tokens}
use Rattle.json.specs.Json as text
use Rattle.serde_json.specs.Data.{Num, number, array, object, item, Members, no_members, put}
use Rattle.serde_json.specs.Read.{number_of, of_json, of_items, of_members, read}
use Rattle.rx_device.specs.Part.{number_or_null, data_of, items_data, members_data, has_values, items_have_values, members_have_values}

number_read : (o : Option Num) → is_some o ≡ true → option_map number o ≡ Some (number_or_null o)
number_read x0 lacks = search (rules, false≢true)

mutual
  pub read_as : (j : text.Json) → has_values j ≡ true → of_json j ≡ Some (data_of j)
  read_as text.null all = refl
  read_as (text.boolean b) all = refl
  read_as (text.number s) all = number_read (number_of s) all
  read_as (text.string s) all = refl
  read_as (text.array js) all = ap (option_map array) (items_as js all)
  read_as (text.object ms) all = ap (option_map object) (members_as ms no_members all)

  items_as : (js : text.Items) → items_have_values js ≡ true → of_items js ≡ Some (items_data js)
  items_as text.no_items all = refl
  items_as (text.item j js) all =
      let both = and_parts (has_values j) (items_have_values js) all in
      rw (read_as j both.0, items_as js both.1) refl

  members_as : (ms : text.Members) (found : Members) → members_have_values ms ≡ true → of_members ms found ≡ Some (members_data ms found)
  members_as text.no_members found all = refl
  members_as (text.member k j ms) found all =
      let both = and_parts (has_values j) (members_have_values ms) all in
      rw (read_as j both.0) (members_as ms (put k (data_of j) found) both.1)

no_number : (o : Option Num) → is_some o ≡ false → option_map number o ≡ None
no_number x0 lacks = search (rules, false≢true)

second_lacks : (a b : Bool) → (a && b) ≡ false → a ≡ true → b ≡ false
second_lacks x0 b lacks is = search (rules, false≢true)

-- where the first has a value, the second lacks one
none_of_two : {A B : Type 0} (a b : Bool) (first : Option A) (here : A) (go_on : A → Option B) → (a ≡ true → first ≡ Some here)
    → (a ≡ false → first ≡ None) → (b ≡ false → go_on here ≡ None) → (a && b) ≡ false → option_and_then go_on first ≡ None
none_of_two x0 b first here go_on has lacks none both = search (rules, option_and_then)

mutual
  pub not_read : (j : text.Json) → has_values j ≡ false → of_json j ≡ None
  not_read text.null lacks = absurd (false≢true (sym lacks))
  not_read (text.boolean b) lacks = absurd (false≢true (sym lacks))
  not_read (text.number s) lacks = no_number (number_of s) lacks
  not_read (text.string s) lacks = absurd (false≢true (sym lacks))
  not_read (text.array js) lacks = ap (option_map array) (items_not js lacks)
  not_read (text.object ms) lacks = ap (option_map object) (members_not ms no_members lacks)

  items_not : (js : text.Items) → items_have_values js ≡ false → of_items js ≡ None
  items_not text.no_items lacks = absurd (false≢true (sym lacks))
  items_not (text.item j js) lacks =
      none_of_two (has_values j) (items_have_values js) (of_json j) (data_of j) (λ d. option_map (item d) (of_items js)) (read_as j) (not_read j)
      (λ rest. ap (option_map (item (data_of j))) (items_not js rest)) lacks

  members_not : (ms : text.Members) (found : Members) → members_have_values ms ≡ false → of_members ms found ≡ None
  members_not text.no_members found lacks = absurd (false≢true (sym lacks))
  members_not (text.member k j ms) found lacks =
      none_of_two (has_values j) (members_have_values ms) (of_json j) (data_of j) (λ d. of_members ms (put k d found)) (read_as j) (not_read j)
      (λ rest. members_not ms (put k (data_of j) found) rest) lacks

not_empty : (t : Token) (ts : List Token) → (length (t ∷ ts) == 0) ≡ true → ⊥
not_empty t ts is = grind arith

pub read_whole : (s : List ℕ) (j : text.Json) (ts : List Token) → text.value 127 (tokens s) ≡ Some (j, ts)
    → (length ts == 0 && has_values j) ≡ true → read s ≡ Some (data_of j)
read_whole s j x2 is all = search (rules, read_as, not_empty, and_parts)

pub read_other : (s : List ℕ) (j : text.Json) (ts : List Token) → text.value 127 (tokens s) ≡ Some (j, ts)
    → (length ts == 0 && has_values j) ≡ false → read s ≡ None
read_other s j x2 is lacks = search (rules, not_read)

pub read_none : (s : List ℕ) → text.value 127 (tokens s) ≡ None → read s ≡ None
read_none s is = rw is refl
