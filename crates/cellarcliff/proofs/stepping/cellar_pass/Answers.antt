use Rattle.std.proofs.Common.{refl}
use Rattle.cellarcliff.proofs.CallOnEngine.{turned}
use Rattle.cellarcliff.proofs.Turned.{passes_as}
use Rattle.cellarcliff.proofs.stepping.cellar_pass.Goals as goal

pub returns : goal.returns
returns c =
    turned c.in-Some.ensures.taken c.put.ensures.kept c.deref_mut.ensures.value c.put.ensures.promised (passes_as c.turn_of.ensures c.pass.ensures, refl)
