-- The items of an array, one after the other: those that were read, and those that are left.
use Rattle.rx_dump.proofs.Common.{◌≡◌, ℕ, ◌-◌, ◌<◌, ◌≤◌, List, [], ◌∷◌, ◌++◌, length, Some, None, refl, ap, ◌∙◌, subst, arith, Token, after_end_array, Data}
use Rattle.rx_dump.proofs.Common.{Items, no_items, item, of_json, of_items, view, items_view, Value, IsValue, AreItems}
use Rattle.json.specs.Json.{Json, Items as JsonItems, no_items as no_json, item as json_item, parse_map, items, value}
use Rattle.json.proofs.Grammar.{left, items_end, items_more, skip_value-shorter}

abbrev pub joined : Items → Items → Items
joined no_items rest = rest
joined (item d ds) rest = item d (joined ds rest)

joined-none : (past : Items) → joined past no_items ≡ past
joined-none no_items = refl
joined-none (item d ds) = ap (item d) (joined-none ds)

joined-one : (past : Items) (d : Data) (rest : Items) → joined past (item d rest) ≡ joined (joined past (item d no_items)) rest
joined-one no_items d rest = refl
joined-one (item e es) d rest = ap (item e) (joined-one es d rest)

pub joined-view : (vs : List Value) (v : Value) → joined (items_view vs) (item (view v) no_items) ≡ items_view (vs ++ v ∷ [])
joined-view [] v = refl
joined-view (w ∷ vs) v = ap (item (view w)) (joined-view vs v)

item_means : (j : Json) (js : JsonItems) (d : Data) (ds : Items) → of_json j ≡ Some d → of_items js ≡ Some ds
    → of_items (json_item j js) ≡ Some (item d ds)
item_means j js d ds e es = rw (e, es) refl

-- between the tokens start and now stand the items past, and whatever is left then follows them
pub record AreBefore (depth : ℕ) (start now : List Token) (past : Items) : Type 0 where
  pub turns : ℕ
  pub enough : length now ≤ turns
  pub go_on : (js : JsonItems) (rest : List Token) (ds : Items) → items (value depth) turns now ≡ Some (js, rest) → of_items js ≡ Some ds
      → AreItems depth start rest (joined past ds)

pub none_yet : (depth : ℕ) (start : List Token) → AreBefore depth start start no_items
none_yet depth start = record {
  turns = length start;
  enough = omega arith;
  go_on = λ js rest ds read means. record { json = js; read = read; means = means };
}

pub value_takes : (depth : ℕ) (now rest : List Token) (d : Data) → IsValue depth now rest d → length rest < length now
value_takes depth now rest d v = skip_value-shorter depth now rest (ap left v.read)

pub one_more : {depth : ℕ} (start now rest : List Token) (past : Items) (d : Data) → AreBefore depth start now past
    → after_end_array now ≡ None → IsValue depth now rest d → AreBefore depth start rest (joined past (item d no_items))
one_more {depth} start now rest past d before going v =
    let fewer = value_takes depth now rest d v in
    let some : 0 < before.turns = omega (arith, fewer, before.enough) in
    record {
      turns = before.turns - 1;
      enough = omega (arith, fewer, before.enough);
      go_on = λ js behind ds read means.
          let all : items (value depth) before.turns now ≡ Some (json_item v.json js, behind) =
          items_more (value depth) before.turns now rest v.json some going v.read ∙ ap (parse_map (json_item v.json)) read in
          subst (AreItems depth start behind) (joined-one past d ds)
          (before.go_on (json_item v.json js) behind (item d ds) all (item_means v.json js d ds v.means means));
    }

pub all_read : (depth : ℕ) (start now rest : List Token) (past : Items) → AreBefore depth start now past
    → after_end_array now ≡ Some rest → AreItems depth start rest past
all_read depth start now rest past before over =
    subst (AreItems depth start rest) (joined-none past)
    (before.go_on no_json rest no_items (items_end (value depth) before.turns now rest before.enough over) refl)
