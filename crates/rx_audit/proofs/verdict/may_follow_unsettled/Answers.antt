use Rattle.rx_audit.proofs.Common.{both_ways}
use Rattle.rx_audit.proofs.TestsToVerdict.{forced_follows, unforced_follows}
use Rattle.rx_audit.proofs.verdict.may_follow_unsettled.Goals as goal
use Rattle.std.proofs.Common.{rules}

pub returns-then-is_forced : goal.returns-then-is_forced
returns-then-is_forced c = forced_follows c.args.past.now c.args.event (c.is_forced.ensures.0 c.if-is_forced.true)

pub returns : goal.returns
returns c = search (rules, unforced_follows, both_ways)
