use Rattle.rx_script.proofs.Common.{◌++◌, map, string_bytes, sym, ap, subst, ◌∙◌, node_binding, res_binding, refused_lines, node_lines, res_lines, IsWhole}
use Rattle.rx_script.proofs.Common.{totals_line}
use Rattle.rx_script.proofs.WrittenBeforeClosing.{all_gathered, lines_report}
use Rattle.rx_script.proofs.running.unclosed_report.Goals as goal

pub returns-clause-ok : goal.returns-clause-ok
returns-clause-ok g c = λ h w.
    let whole : IsWhole h c.gather.new.tallies c.gather.new.book = subst (IsWhole h c.gather.new.tallies) (sym c.in_ok-gather.ensures.kept)
    (all_gathered c.args.engine.now c.requires.sound h w c.gather.new.tallies c.gather.new.book.given c.in_ok-gather.ensures.ok) in
    lines_report c.args.engine.now c.requires.sound h w c.args.answers.now _ _ _
    (c.in_ok-push_all_refused.ensures ∙ ap (λ l. l ++ refused_lines c.args.answers.now) c.new-text.ensures.bytes)
    (c.in_ok-push_nodes.ensures h whole ∙ ap (λ ns. string_bytes c.push_all_refused.new.text ++ node_lines h (map node_binding ns)) c.in_order.ensures)
    (c.in_ok-push_resources.ensures h whole ∙ ap (λ ns. string_bytes c.push_nodes.new.text ++ res_lines h (map res_binding ns)) c.in_order-2.ensures)
    (c.in_ok-push_totals.ensures ∙ ap (λ t. string_bytes c.push_resources.new.text ++ totals_line t) (c.totals_reported.ensures h whole))
