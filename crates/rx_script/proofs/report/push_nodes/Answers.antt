use Rattle.rx_script.proofs.Common.{◌≡◌, ◌++◌, ◌∙◌, sym, ap, subst, true, false, string_bytes, at, is_open, notes_to, is_told, line_of_node, node_binding}
use Rattle.rx_script.proofs.Common.{IsNodeKey}
use Rattle.rx_script.proofs.TalliesOfWholeHistory.{open_here}
use Rattle.rx_script.specs.Repeated.{one_by_one}
use Rattle.rx_script.proofs.LinesMade.{node_line_told, node_line_untold, node_line_shown}
use Rattle.rx_script.proofs.report.push_nodes.Goals.{then-is_told+in_ok-push_node, else-is_told}
use Rattle.rx_script.proofs.report.push_nodes.Goals as goal

pub loop-named-preserved : goal.loop-named-preserved
loop-named-preserved g c = λ h whole.
    let book = c.args.book.now in
    let item = c.named-item.result in
    let so_far = c.loop-named.invariant h whole in
    let known : IsNodeKey book item.key =
    subst (λ x. IsNodeKey book x.key) (sym c.named-item.is) (c.requires.known c.loop-named.named-index item c.loop-named-test.true) in
    let asked : c.is_told.result ≡ at is_told h item.key.number = c.is_told.ensures ∙ whole.tallies.counts.told item.key.number in
    elim c.if-is_told.branch [
      | then-is_told+in_ok-push_node w ↦
          let told : at is_told h item.key.number ≡ true = sym asked ∙ w.if-is_told.true in
          let open_now : w.is_open.result ≡ is_open h item.key.number =
          w.is_open.ensures ∙ open_here h c.args.tallies.now book whole item.key c.requires.kept known in
          let told_of : one_by_one w.notes_to.result.now ≡ notes_to h item.key.number = w.notes_to.ensures ∙ whole.tallies.notes item.key.number in
          let line = node_line_shown h item w.as_str.result.now w.is_open.result (one_by_one w.notes_to.result.now) w.as_str.ensures.value open_now told_of in
          let here : string_bytes c.if-is_told.text ≡ string_bytes c.loop-named.text ++ line_of_node h (node_binding item) =
          ap string_bytes w.text-is ∙ w.in_ok-push_node.ensures ∙ ap (λ l. string_bytes c.loop-named.text ++ l) line in
          node_line_told node_binding c.args.nodes.now c.loop-named.named-index item c.loop-named-test.true c.named-item.is h
          (string_bytes c.args.text.now) (string_bytes c.loop-named.text) (string_bytes c.if-is_told.text) so_far told here
      | else-is_told w ↦
          let untold : at is_told h item.key.number ≡ false = sym asked ∙ w.if-is_told.false in
          ap string_bytes w.text-is ∙ node_line_untold node_binding c.args.nodes.now c.loop-named.named-index item c.loop-named-test.true c.named-item.is h
          (string_bytes c.args.text.now) (string_bytes c.loop-named.text) so_far untold
    ]
