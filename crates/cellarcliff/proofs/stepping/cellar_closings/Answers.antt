use Rattle.cellarcliff.proofs.CallOnEngine.{looked}
use Rattle.cellarcliff.proofs.stepping.cellar_closings.Goals as goal

pub returns : goal.returns
returns c = looked c.in-Some.ensures.taken c.put.ensures.kept c.deref.ensures c.closings-status.ensures
