use Rattle.rx_note.proofs.AcceptsJustGrammatical.{accepted_form, form_accepted}
use Rattle.rx_note.proofs.laws.accepted_whole.Goals as goal

pub returns : goal.returns
returns c = record { accepted = accepted_form; accepts = form_accepted }
