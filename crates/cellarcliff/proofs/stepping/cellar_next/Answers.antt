use Rattle.cellarcliff.proofs.CallOnEngine.{turned}
use Rattle.cellarcliff.proofs.Turned.{steps_as}
use Rattle.cellarcliff.proofs.stepping.cellar_next.Goals as goal

pub returns : goal.returns
returns c =
    turned c.in-Some.ensures.taken c.put.ensures.kept c.deref_mut.ensures.value c.put.ensures.promised (steps_as c.turn_of.ensures c.next.ensures)
