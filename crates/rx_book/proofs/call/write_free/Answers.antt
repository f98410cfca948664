use Rattle.rx_book.proofs.Common.{map, refl, sym, ap, subst, not-false, no_cause, Close}
use Rattle.rx_ground.specs.Wrote.{Wrote}
use Rattle.rx_book.proofs.CallWithoutCause.{one_ready, open_asked, owned_asked, out_asked}
use Rattle.rx_book.proofs.call.write_free.Goals as goal
use Rattle.std.proofs.Common.{rules}

pub write_end-requires-clause-ready : goal.write_end-requires-clause-ready
write_end-requires-clause-ready g c κs within = one_ready g.R.Resource c.args.ground.now _ (rw c.in-End.is at c.requires.let_in) _ refl

pub write_end-requires-clause-open : goal.write_end-requires-clause-open
write_end-requires-clause-open g c κs within = open_asked g.R.Resource _ _ (rw c.in-End.is at c.requires.let_in) _ refl

pub returns-in-End : goal.returns-in-End
returns-in-End g c = rw c.in-End.is c.write_end.ensures.wrote

pub write_end-requires-in-Abort-clause-ready : goal.write_end-requires-in-Abort-clause-ready
write_end-requires-in-Abort-clause-ready g c κs within =
    one_ready g.R.Resource c.args.ground.now _ (rw c.in-Abort.is at c.requires.let_in) _ refl

pub write_end-requires-in-Abort-clause-open : goal.write_end-requires-in-Abort-clause-open
write_end-requires-in-Abort-clause-open g c κs within =
    open_asked g.R.Resource c.args.ground.now _ (rw c.in-Abort.is at c.requires.let_in) c.in-Abort.node refl

pub returns-in-Abort : goal.returns-in-Abort
returns-in-Abort g c = rw c.in-Abort.is c.write_end-in-Abort.ensures.wrote

pub write_decline-requires-clause-ready : goal.write_decline-requires-clause-ready
write_decline-requires-clause-ready g c κs within =
    one_ready g.R.Resource c.args.ground.now _ (rw c.in-Decline.is at c.requires.let_in) _ refl

pub write_decline-requires-clause-open : goal.write_decline-requires-clause-open
write_decline-requires-clause-open g c κs within =
    open_asked g.R.Resource c.args.ground.now _ (rw c.in-Decline.is at c.requires.let_in) c.in-Decline.merging refl

pub returns-in-Decline : goal.returns-in-Decline
returns-in-Decline g c = rw c.in-Decline.is c.write_decline.ensures.wrote

pub write_end-requires-in-Fail-clause-ready : goal.write_end-requires-in-Fail-clause-ready
write_end-requires-in-Fail-clause-ready g c κs within =
    one_ready g.R.Resource c.args.ground.now _ (rw c.in-Fail.is at c.requires.let_in) _ refl

pub write_end-requires-in-Fail-clause-open : goal.write_end-requires-in-Fail-clause-open
write_end-requires-in-Fail-clause-open g c κs within =
    open_asked g.R.Resource c.args.ground.now _ (rw c.in-Fail.is at c.requires.let_in) c.in-Fail.merging refl

pub returns-in-Fail : goal.returns-in-Fail
returns-in-Fail g c = rw c.in-Fail.is c.write_end-in-Fail.ensures.wrote

pub write_close-requires-clause-ready : goal.write_close-requires-clause-ready
write_close-requires-clause-ready g c κs within =
    one_ready g.R.Resource c.args.ground.now _ (rw c.in-Dispose.is at c.requires.let_in) _ refl

pub write_close-requires-clause-open : goal.write_close-requires-clause-open
write_close-requires-clause-open g c κs within =
    open_asked g.R.Resource c.args.ground.now _ (rw c.in-Dispose.is at c.requires.let_in) c.in-Dispose.root refl

pub returns-in-Dispose : goal.returns-in-Dispose
returns-in-Dispose g c = rw c.in-Dispose.is c.write_close.ensures.wrote

-- the hub's open connection is closed, and nothing else
pub write_close-requires-in-Some-clause-ready : goal.write_close-requires-in-Some-clause-ready
write_close-requires-in-Some-clause-ready g c κs within =
    one_ready g.R.Resource c.args.ground.now _ (rw c.in-Disconnect.is at c.requires.let_in) _ (ap (map (λ n. Close n)) (sym c.in-Some.ensures.number))

pub returns-in-Some : goal.returns-in-Some
returns-in-Some g c = rw c.in-Disconnect.is (subst (λ es. Wrote g.R.Resource c.args.ground.now es c.write_close-in-Some.new.self)
    (ap (map (λ n. Close n)) c.in-Some.ensures.number) c.write_close-in-Some.ensures.wrote)

pub write_remove-requires-clause-ready : goal.write_remove-requires-clause-ready
write_remove-requires-clause-ready g c κs within =
    one_ready g.R.Resource c.args.ground.now _ (rw c.in-Remove.is at c.requires.let_in) _ refl

pub write_remove-requires-clause-owned : goal.write_remove-requires-clause-owned
write_remove-requires-clause-owned g c κs within = search (rules, owned_asked, not-false, no_cause)

pub returns-in-Remove : goal.returns-in-Remove
returns-in-Remove g c = rw c.in-Remove.is c.write_remove.ensures.wrote

pub write_return-requires-clause-ready : goal.write_return-requires-clause-ready
write_return-requires-clause-ready g c κs within =
    one_ready g.R.Resource c.args.ground.now _ (rw c.in-GiveBack.is at c.requires.let_in) _ refl

pub write_return-requires-clause-out : goal.write_return-requires-clause-out
write_return-requires-clause-out g c κs within = search (rules, out_asked)

pub returns-in-GiveBack : goal.returns-in-GiveBack
returns-in-GiveBack g c = rw c.in-GiveBack.is c.write_return.ensures.wrote
