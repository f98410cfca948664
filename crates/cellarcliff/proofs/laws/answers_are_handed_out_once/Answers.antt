use Rattle.cellarcliff.proofs.AnswersHandedOut.{handed_out}
use Rattle.cellarcliff.proofs.laws.answers_are_handed_out_once.Goals as goal

pub returns : goal.returns
returns c = handed_out
