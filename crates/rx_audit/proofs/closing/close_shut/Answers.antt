use Rattle.rx_audit.proofs.ClosingBelow.{all_stays, none_listed}
use Rattle.rx_audit.proofs.closing.close_shut.Goals as goal
use Rattle.std.proofs.Common.{rules}

pub returns-in-None-clause-closed : goal.returns-in-None-clause-closed
returns-in-None-clause-closed c = all_stays c.args.past.now c.args.event c.args.marks.now c.requires.tied c.in-None.ensures

pub returns-in-None-clause-listed : goal.returns-in-None-clause-listed
returns-in-None-clause-listed c = search (rules, none_listed, all_stays)
