use Rattle.rx_script.proofs.Common.{append_assoc, totals_line}
use Rattle.rx_script.proofs.text.push_totals.Goals as goal

pub returns : goal.returns
unfolding totals_line
returns c = simp append_assoc (simp append_assoc at c.writeln.ensures.bytes)
