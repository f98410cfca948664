use Rattle.cellarcliff.proofs.OutcomeIsAnswer.{answered}
use Rattle.cellarcliff.proofs.audit.cellar_audit.Goals as goal

pub returns : goal.returns
returns c =
    answered _ c.verdict_on.ensures.ok c.verdict_on.ensures.syntax c.verdict_on.ensures.shape c.hand_out.ensures
