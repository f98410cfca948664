use Rattle.rx_line.proofs.FreeOrders.{found_order}
use Rattle.rx_line.proofs.free.free_command_in.Goals as goal

pub returns-in-Ok-clause-order : goal.returns-in-Ok-clause-order
returns-in-Ok-clause-order c = found_order c.args.line.now c.read.result c.in-Ok.ensures.cases.1 c.read.ensures

pub returns-in-Err-clause-is : goal.returns-in-Err-clause-is
returns-in-Err-clause-is c utf8 = absurd (c.in-Err.ensures.cases.0 utf8)
