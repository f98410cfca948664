use Rattle.std.proofs.Common.{refl}
use Rattle.rx_turns.specs.Making.{all_wait}
use Rattle.rx_turns.proofs.turns.Turns.come_bare.Goals as goal

pub returns-then-is_done : goal.returns-then-is_done
returns-then-is_done c = rw c.if-is_done.true (all_wait refl c.claim_all.ensures)
