use Rattle.rx_script.proofs.Common.{subst, State, Checkpoints}
use Rattle.rx_script.proofs.CheckpointCarriedOut.{checkpointed_to}
use Rattle.rx_script.proofs.engine.checkpoint.Goals as goal

pub returns-in-Ok : goal.returns-in-Ok
returns-in-Ok g c = checkpointed_to c.args.engine.now c.gather.new.tallies c.gather.new.book.given c.checkpoint.new.self c.requires c.promise-in-Ok.ensures
    c.in_ok-gather.ensures.ok (subst (λ (s : State). Checkpoints s c.checkpoint.new.self) c.in_ok-gather.ensures.kept c.in-Ok.ensures.made)
