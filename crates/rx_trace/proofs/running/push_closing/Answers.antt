use Rattle.rx_trace.proofs.Common.{not, contains, nat_eq, name_text, names_where, ◌∙◌, ap, map, string_bytes, res_binding, member_text, codes, ◌++◌}
use Rattle.rx_trace.proofs.WholeTrace.{closing_behind}
use Rattle.rx_trace.proofs.running.push_closing.Goals as goal

pub returns : goal.returns
returns g c = λ h law taken. closing_behind h law c.args.handed.now taken (map res_binding c.args.engine.now.resources) (string_bytes c.args.text.now)
    (string_bytes c.push_str.new.self) (string_bytes c.push_list.new.text) (string_bytes c.push_str-2.new.self) c.in_ok-push_str.ensures.bytes
    (c.in_ok-push_list.ensures ∙ ap (λ l. string_bytes c.push_str.new.self ++ member_text (codes "release") (map string_bytes l)) c.as_slice.ensures.value
    ∙ ap (λ l. string_bytes c.push_str.new.self ++ member_text (codes "release") l)
    (c.in_ok-names.ensures ∙ ap (λ l. map name_text (names_where (λ r. not (contains nat_eq c.args.handed.now.numbers r)) (map res_binding l)))
    c.in_order.ensures))
    c.in_ok-push_str-2.ensures.bytes
