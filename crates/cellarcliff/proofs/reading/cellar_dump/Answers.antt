use Rattle.cellarcliff.proofs.CallOnEngine.{looked}
use Rattle.cellarcliff.proofs.reading.cellar_dump.Goals as goal

pub returns : goal.returns
returns c = looked c.in-Some.ensures.taken c.put.ensures.kept c.deref.ensures c.dump_to-status.ensures
