use Rattle.rx_picture.proofs.Common.{sym}
use Rattle.std.proofs.lemmas.List.{get_or_past}
use Rattle.rx_picture.proofs.firsts.value_at.Goals as goal

pub returns-else-n-table : goal.returns-else-n-table
returns-else-n-table c = sym (get_or_past c.args.table.now c.args.n 0 c.if-n-table.false)
