use Rattle.std.proofs.Common.{subst, sym}
use Rattle.rx_book.specs.State.{State as BookState}
use Rattle.rx_engine.specs.States.{IsTied}
use Rattle.rx_engine.specs.Ties.{state_of}
use Rattle.rx_engine.proofs.Laws.AcrossCheckpoint.{tied_checkpointed}
use Rattle.rx_engine.proofs.engine.Engine.checkpoint.Goals as goal
use Rattle.rx_engine.proofs.engine.Engine.checkpoint.Goals.{in-Ok, in-Err}

pub invariant_of-self : goal.invariant_of-self
invariant_of-self c = elim c.match-checkpoint.branch [
  | in-Ok w ↦ tied_checkpointed (state_of c.self.inside) c.checkpoint.new.self c.self.invariant c.promise.ensures w.promise-in-Ok.ensures w.in-Ok.ensures.made
  | in-Err w ↦ subst (λ (b : BookState). IsTied (record (state_of c.self.inside) { book = b })) (sym w.in-Err.ensures.kept) c.self.invariant
]
