use Rattle.rx_live.proofs.AnswersTellNotes.{session_told}
use Rattle.rx_live.proofs.theorems.notes_are_told_in_order.Goals as goal

pub returns : goal.returns
returns c = session_told
