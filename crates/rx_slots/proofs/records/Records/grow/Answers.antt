use Rattle.rx_slots.proofs.records.Records.grow.Goals as goal
use Rattle.std.proofs.lemmas.Grind.{common_steps}
use Rattle.rx_slots.proofs.Common.{arith}

pub invariant_of-self-2 : goal.invariant_of-self-2
invariant_of-self-2 g c = grind (arith, common_steps)

pub returns-clause-ok : goal.returns-clause-ok
returns-clause-ok g c = grind (arith, common_steps)

pub returns-clause-kept : goal.returns-clause-kept
returns-clause-kept g c = grind (arith, common_steps)

pub returns-clause-room : goal.returns-clause-room
returns-clause-room g c = grind (arith, common_steps)
