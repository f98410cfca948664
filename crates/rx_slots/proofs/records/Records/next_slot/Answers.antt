use Rattle.rx_slots.proofs.Common.{length, slice_get}
use Rattle.rx_slots.proofs.KeptLemmas.{last_or_at}
use Rattle.rx_slots.proofs.records.Records.next_slot.Goals as goal
use Rattle.std.proofs.Common.{rules}

pub returns-in-Some-clause-value : goal.returns-in-Some-clause-value
returns-in-Some-clause-value g c = search (rules, last_or_at, slice_get, length)
