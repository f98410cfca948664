use Rattle.cellarcliff.proofs.OutcomeIsAnswer.{answered}
use Rattle.cellarcliff.proofs.showing.cellar_explain.Goals as goal

pub returns : goal.returns
returns c =
    answered _ c.fault_in.ensures.ok c.fault_in.ensures.no_syntax c.fault_in.ensures.no_shape c.hand_out.ensures
