use Rattle.std.proofs.Common.{refl}
use Rattle.rx_scenario.proofs.reading.members.root_in.Goals as goal

pub returns-in-Some : goal.returns-in-Some
returns-in-Some c = rw (← c.get.ensures, c.in-Some.is) refl

pub returns-in-None : goal.returns-in-None
returns-in-None c = rw (← c.get.ensures, c.in-None.is) refl
