use Rattle.cellarcliff.proofs.OutcomeIsAnswer.{answered}
use Rattle.cellarcliff.proofs.NoOutput.{no_output}
use Rattle.cellarcliff.proofs.running.run_in.Goals as goal

pub returns : goal.returns
returns c =
    answered _ c.carry_out.ensures.ok c.carry_out.ensures.syntax (λ is. no_output _ _ (c.carry_out.ensures.shape is)) c.hand_out.ensures
