use Rattle.rx_live.proofs.Common.{◌≡◌, Some, option_map, sym, ap, ◌∙◌, as_array, items_view, part_data, items_data, session_of}
use Rattle.rx_live.proofs.AnswersOfArrays.{value_one, value_many, array_waits}
use Rattle.rx_live.proofs.arrays.send_value.Goals as goal
use Rattle.std.proofs.Common.{rules}

pub returns-in-Some-clause-ok : goal.returns-in-Some-clause-ok
returns-in-Some-clause-ok c =
    let several : as_array (part_data c.args.value) ≡ Some (items_data (items_view c.in-Some.values.now.items)) =
    sym c.as_array.ensures ∙ ap (option_map (λ v. items_data (items_view v.now.items))) c.in-Some.is in
    value_many (session_of c.args.engine.now) (session_of c.send_array.new.engine) (part_data c.args.value) (items_data (items_view c.in-Some.values.now.items))
    c.send_array.result several c.send_array.ensures.ok

pub returns-in-Some-clause-err : goal.returns-in-Some-clause-err
returns-in-Some-clause-err c = search (rules, array_waits)

pub returns-in-None-clause-ok : goal.returns-in-None-clause-ok
returns-in-None-clause-ok c = search (rules, as_array, option_map, items_data, items_view, value_one)
