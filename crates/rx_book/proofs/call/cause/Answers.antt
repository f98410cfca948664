use Rattle.rx_book.proofs.Common.{true, sym, Applying, Leasing}
use Rattle.rx_book.proofs.CausesByKey.{first_of_res}
use Rattle.rx_book.proofs.call.cause.Goals as goal

pub returns-in-Apply : goal.returns-in-Apply
returns-in-Apply g c = rw c.in-Apply.is (sym (first_of_res c.args.ground.now true c.in-Apply.res Applying c.applying_cause.ensures))

pub returns-in-Lease : goal.returns-in-Lease
returns-in-Lease g c =
    rw c.in-Lease.is (sym (first_of_res c.args.ground.now true c.in-Lease.res Leasing c.leasing_cause.ensures))
