use Rattle.rx_hub.proofs.HubsByNumber.{not_noted}
use Rattle.rx_hub.proofs.hubs.note_unless.Goals as goal

pub returns-then-is_quiet-clause-waits : goal.returns-then-is_quiet-clause-waits
returns-then-is_quiet-clause-waits c = not_noted _ _ _ c.requires.waiting (c.requires.unmet c.if-is_quiet.true)

pub returns-then-is_quiet-clause-acts : goal.returns-then-is_quiet-clause-acts
returns-then-is_quiet-clause-acts c = not_noted _ _ _ c.requires.due (c.requires.undue c.if-is_quiet.true)
