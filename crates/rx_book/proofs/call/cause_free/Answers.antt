use Rattle.rx_book.proofs.Common.{true, sym, Ending, Aborting, Declining, Failing, Disposing, Removing}
use Rattle.rx_book.proofs.CausesByKey.{first_of_node, first_of_res, first_by_lease_key}
use Rattle.rx_book.proofs.call.cause_free.Goals as goal
use Rattle.std.proofs.Common.{rules}

pub returns-in-End : goal.returns-in-End
returns-in-End g c =
    rw c.in-End.is (sym (first_of_node c.args.ground.now true c.in-End.leaf (λ n. Ending n c.in-End.terminal) c.ending_cause.ensures))

pub returns-in-Abort : goal.returns-in-Abort
returns-in-Abort g c = rw c.in-Abort.is (sym (first_of_node c.args.ground.now true c.in-Abort.node (λ n. Aborting n c.in-Abort.code) c.aborting_cause.ensures))

pub returns-in-Decline : goal.returns-in-Decline
returns-in-Decline g c =
    rw c.in-Decline.is (sym (first_of_node c.args.ground.now true c.in-Decline.merging Declining c.declining_cause.ensures))

pub returns-in-Fail : goal.returns-in-Fail
returns-in-Fail g c = rw c.in-Fail.is (sym (first_of_node c.args.ground.now true c.in-Fail.merging (λ n. Failing n c.in-Fail.code) c.failing_cause.ensures))

pub returns-in-Dispose : goal.returns-in-Dispose
returns-in-Dispose g c =
    rw c.in-Dispose.is (sym (first_of_node c.args.ground.now true c.in-Dispose.root Disposing c.disposing_cause.ensures))

pub returns-in-Remove : goal.returns-in-Remove
returns-in-Remove g c = rw c.in-Remove.is (sym (first_of_res c.args.ground.now true c.in-Remove.res Removing c.removing_cause.ensures))

pub returns-in-GiveBack : goal.returns-in-GiveBack
returns-in-GiveBack g c = search (rules, first_by_lease_key)
