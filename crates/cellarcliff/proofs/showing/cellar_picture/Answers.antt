use Rattle.cellarcliff.proofs.OutcomeIsAnswer.{answered}
use Rattle.cellarcliff.proofs.showing.cellar_picture.Goals as goal

pub returns : goal.returns
returns c =
    answered _ c.drawn.ensures.ok c.drawn.ensures.syntax c.drawn.ensures.shape c.hand_out.ensures
