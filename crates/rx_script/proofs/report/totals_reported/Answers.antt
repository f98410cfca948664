use Rattle.rx_script.proofs.Common.{◌∙◌, sym}
use Rattle.rx_script.proofs.TalliesOfWholeHistory.{open_total, held_total, waiting_total}
use Rattle.rx_script.proofs.report.totals_reported.Goals as goal

pub returns : goal.returns
returns g c = λ h whole i. record {
  nodes = whole.tallies.counts.nodes i;
  open_nodes = (c.open_count.ensures ∙ open_total h _ _ whole) i;
  accepted = (c.accepted.ensures ∙ sym whole.agree.accepted_total) i;
  held = (c.held.ensures ∙ held_total h _ _ whole) i;
  waiting = (c.waiting.ensures ∙ waiting_total h _ _ whole) i;
  taken = (c.taken.ensures ∙ sym whole.agree.taken_total) i;
}
