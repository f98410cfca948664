use Rattle.rx_audit.proofs.Common.{sym, ap, ◌∙◌, not, at_within, makes_lease}
use Rattle.rx_audit.proofs.Allowing.{out_there, not_out, returned_here}
use Rattle.rx_audit.proofs.allowed.is_out.Goals as goal

pub returns-then-not-is_lease : goal.returns-then-not-is_lease
returns-then-not-is_lease c = not_out c.args.past.now c.args.l (sym c.if-not-is_lease.ensures)

pub returns : goal.returns
returns c =
    let lease = sym c.if-not-is_lease.ensures in
    let marked = rw c.as_slice.ensures.value at c.is_marked.ensures in
    ap not (marked ∙ returned_here c.requires c.args.l (at_within makes_lease c.args.past.now c.args.l lease)) ∙ out_there c.args.past.now c.args.l lease
