use Rattle.rx_live.proofs.ClosedSessionIsSound.{closed_sound}
use Rattle.rx_live.proofs.closing.close.Goals as goal
use Rattle.std.proofs.Common.{rules}

pub returns-clause-sound : goal.returns-clause-sound
returns-clause-sound c = search (rules, closed_sound)
