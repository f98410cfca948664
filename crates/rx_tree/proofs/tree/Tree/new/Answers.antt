use Rattle.rx_tree.proofs.CountSteps.{counted_empty}
use Rattle.rx_tree.proofs.RecordSteps.{empty_tied}
use Rattle.rx_tree.proofs.tree.Tree.new.Goals as goal

pub invariant_of-result : goal.invariant_of-result
invariant_of-result g c =
    let e = c.new.ensures in
    record {
      tied = empty_tied c.new.result e.nodes e.resources e.roots e.due e.waiting;
      counted = counted_empty c.new.result e.nodes e.resources e.waiting_count e.owed;
    }
