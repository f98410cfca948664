use Rattle.std.proofs.Common.{refl, sym, arith}
use Rattle.rx_register.proofs.RegisterStaysTied.{tied_empty, no_notes}
use Rattle.rx_register.proofs.register.Register.new.Goals as goal

pub invariant_of-result : goal.invariant_of-result
invariant_of-result c =
    let is = c.new.ensures in
    tied_empty (let l = is.limit in let r = c.requires in omega arith) (sym is.limit) is.base is.events is.room refl refl refl refl refl

pub returns-clause-given : goal.returns-clause-given
returns-clause-given c = rw c.new.ensures.events (let n = no_notes in omega arith)
