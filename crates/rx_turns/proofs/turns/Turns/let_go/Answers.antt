use Rattle.std.proofs.Common.{refl, sym}
use Rattle.rx_turns.specs.Ending.{holds_none}
use Rattle.rx_turns.proofs.turns.Turns.let_go.Goals as goal

pub returns-in-None : goal.returns-in-None
returns-in-None c = holds_none (sym c.in-None.ensures.hand) refl
