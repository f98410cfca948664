use Rattle.rx_picture.proofs.Common.{Some, get_or, sym, parent-lt}
use Rattle.rx_picture.proofs.WhereLinesEnd.{line_none, line_top, line_below}
use Rattle.rx_picture.proofs.lines.line_end.Goals as goal
use Rattle.std.proofs.Common.{rules}

pub returns-then-not-is_node_at-clause-spans : goal.returns-then-not-is_node_at-clause-spans
returns-then-not-is_node_at-clause-spans c = line_none c.args.events.now c.args.n (sym c.if-not-is_node_at.ensures)

pub returns-in-Some-clause-spans : goal.returns-in-Some-clause-spans
returns-in-Some-clause-spans c =
    search (rules, Some, parent-lt, line_below, get_or)

pub returns-in-None-clause-spans : goal.returns-in-None-clause-spans
returns-in-None-clause-spans c =
    search (rules, line_top, get_or)
