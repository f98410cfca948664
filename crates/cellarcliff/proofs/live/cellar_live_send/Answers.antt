use Rattle.cellarcliff.proofs.live.cellar_live_send.Goals as goal

pub returns : goal.returns
returns c = rw (c.in-Some.ensures.taken, c.put.ensures, ← c.deref_mut.ensures.value) c.send-status.ensures
