use Rattle.rx_audit.proofs.Marking.{touched_open, kept_more, kept_same}
use Rattle.rx_audit.proofs.nodes.remark.Goals.{in-Some, in_default}
use Rattle.rx_audit.proofs.nodes.remark.Goals as goal
use Rattle.std.proofs.Common.{rules}

pub changed-value-requires-clause-is : goal.changed-value-requires-clause-is
changed-value-requires-clause-is c = search (rules, touched_open)

pub returns-clause-kept : goal.returns-clause-kept
returns-clause-kept c = search (rules, in-Some, kept_more, in_default, kept_same)
