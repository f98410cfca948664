use Rattle.rx_live.proofs.Common.{◌≡◌, ℕ, ◌+◌, ◌<◌, ◌≤◌, List, ◌∷◌, drop, length, slice_index_or, subst, string_bytes, sym, ap, ◌∙◌, arith, Data, Items, item}
use Rattle.rx_live.proofs.Common.{no_items, Value, value_view, items_view, data_of, items_data, order_in, session_of, WritesAnswer, AnsweredOne}
use Rattle.std.proofs.lemmas.List.{at_drop_more, at_drop_all}
use Rattle.rx_live.proofs.AnswersOfArrays.{answering_begun, answering_on, answering_ended}
use Rattle.rx_live.proofs.arrays.push_each.Goals as goal
use Rattle.std.proofs.Common.{rules}

-- what is left, one step on and at the end
left_more : {A : Type 0} (vs : List (Value A)) (i : ℕ) (x y : Value A) → i < length vs → x ≡ slice_index_or vs i y →
    items_data (items_view (drop i vs)) ≡ item (data_of (value_view x)) (items_data (items_view (drop (i + 1) vs)))
left_more vs i x y within is =
    at_drop_more (λ ys. items_data (items_view ys)) vs i y within ∙ ap (λ z. items_data (items_view (z ∷ drop (i + 1) vs))) (sym is)

left_none : {A : Type 0} (vs : List (Value A)) (i : ℕ) → length vs ≤ i → items_data (items_view (drop i vs)) ≡ no_items
left_none vs i past = at_drop_all (λ ys. items_data (items_view ys)) vs i past

pub values-init : goal.values-init
values-init c = search (rules, answering_begun, items_data, items_view, string_bytes)

pub values-preserved : goal.values-preserved
values-preserved c =
    let i = c.values.value-index in
    let x = c.value-item.result in
    let d : Data = data_of (value_view x) in
    let now = session_of c.values.engine in
    let mid = session_of c.push_one.new.engine in
    let led : List ℕ = string_bytes c.push_comma.new.text in
    let text : List ℕ = string_bytes c.push_one.new.text in
    let rest : Items = items_data (items_view (drop (i + 1) c.args.values.now.items)) in
    let next : items_data (items_view (drop i c.args.values.now.items)) ≡ item d rest =
    subst (λ ys. items_data (items_view (drop i ys)) ≡ item d (items_data (items_view (drop (i + 1) ys)))) c.deref-value-items.ensures.value
    (left_more c.deref-value-items.result.now i x x c.values-test.true c.value-item.is) in
    let wrote : WritesAnswer (AnsweredOne now (order_in d) mid) led text =
    subst (λ (e : Data). WritesAnswer (AnsweredOne now (order_in e) mid) led text) c.new.ensures c.push_one.ensures.ok in
    record {
      answering = answering_on d rest (string_bytes c.args.text.now) (string_bytes c.values.text) led text c.values.is_first c.values.invariant.answering next
          c.push_comma.ensures.text wrote;
      sound = c.push_one.ensures.sound;
      room = c.push_one.ensures.room;
      share = (let s = c.values.invariant.share in let w = c.values-test.true in let l = c.deref-value-items.ensures.len in omega (arith, s, w, l));
    }

pub returns-clause-ok : goal.returns-clause-ok
returns-clause-ok c =
    let none : items_data (items_view (drop c.values.value-index c.args.values.now.items)) ≡ no_items =
    subst (λ ys. items_data (items_view (drop c.values.value-index ys)) ≡ no_items) c.deref-value-items.ensures.value
    (left_none c.deref-value-items.result.now c.values.value-index c.values-test.false) in
    answering_ended (string_bytes c.args.text.now) (string_bytes c.values.text) c.values.is_first c.values.invariant.answering none
