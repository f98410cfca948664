use Rattle.std.proofs.Common.{refl}
use Rattle.cellarcliff.proofs.CallOnEngine.{looked}
use Rattle.cellarcliff.proofs.reading.cellar_totals.Goals as goal

pub returns : goal.returns
returns c = looked c.in-Some.ensures.taken c.put.ensures.kept c.deref.ensures (record { told = c.totals.ensures; done = refl })
