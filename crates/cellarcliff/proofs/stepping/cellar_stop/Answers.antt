use Rattle.std.proofs.Common.{refl}
use Rattle.cellarcliff.proofs.CallOnEngine.{turned}
use Rattle.cellarcliff.proofs.Turned.{stops_as}
use Rattle.cellarcliff.proofs.stepping.cellar_stop.Goals as goal

pub returns : goal.returns
returns c =
    turned c.in-Some.ensures.taken c.put.ensures.kept c.deref_mut.ensures.value c.put.ensures.promised (stops_as c.turn_of.ensures c.stop.ensures, refl)
