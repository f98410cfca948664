use Rattle.rx_trace.proofs.Common.{◌∙◌, ◌++◌, ◌∷◌, [], ap, cond, map, string_bytes, name_text, res_binding, waits_by}
use Rattle.rx_trace.proofs.NamesListed.{names_next}
use Rattle.rx_trace.proofs.told.waiting_names.Goals as goal

pub loop-named-preserved : goal.loop-named-preserved
loop-named-preserved g c = names_next res_binding c.args.resources.now c.loop-named.named-index c.named-item.result c.loop-named-test.true c.named-item.is
    (waits_by c.args.book.now c.args.handed.now) c.waits-is_so.result (map string_bytes c.loop-named.names.items) (map string_bytes c.push_where.new.names.items)
    c.waits-is_so.ensures c.loop-named.invariant
    (c.in_ok-push_where.ensures ∙ ap (λ n. map string_bytes c.loop-named.names.items ++ cond c.waits-is_so.result (name_text n ∷ []) []) c.as_str.ensures.value)
