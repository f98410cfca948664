use Rattle.rx_audit.proofs.Common.{◌≡◌, get_or, arith, get_or_read}
use Rattle.rx_audit.proofs.ClosingBelow.{passing_starts, passing_more, passing_ends, count_cleared, noted_first, noted_on, closed_listed}
use Rattle.rx_audit.proofs.closing.close_from.Goals as goal
use Rattle.std.proofs.Common.{rules}

pub loop-i-init : goal.loop-i-init
loop-i-init c = search (rules, passing_starts, noted_first)

pub loop-i-preserved : goal.loop-i-preserved
loop-i-preserved c =
    let is : c.index-p.result.now ≡ get_or c.loop-i.todo.items c.loop-i.i 0 = get_or_read c.loop-i.todo.items c.loop-i.i c.index-p.result.now
    (omega arith) c.index-p.ensures 0 in
    let kept = c.loop-i.invariant.balance in
    let closes = c.in_ok-close_children.ensures.balance in
    record {
      passing = passing_more c.loop-i.marks c.close_children.new.marks
          c.loop-i.todo.items c.close_children.new.todo.items (omega arith) is c.loop-i.invariant.passing c.in_ok-close_children.ensures;
      noted = noted_on c.close_children.new.marks c.loop-i.todo.items c.close_children.new.todo.items c.loop-i.invariant.noted c.in_ok-close_children.ensures;
      balance = omega arith;
    }

pub returns-clause-closed : goal.returns-clause-closed
returns-clause-closed c = search (rules, passing_ends)

pub returns-clause-count : goal.returns-clause-count
returns-clause-count c = search (rules, count_cleared)

pub returns-clause-listed : goal.returns-clause-listed
returns-clause-listed c = search (rules, closed_listed, passing_ends)
