use Rattle.rx_slots.proofs.Common.{ap, with_number}
use Rattle.rx_slots.proofs.Laws.EntryByNumber.{found_there, find-value_at}
use Rattle.rx_slots.proofs.Slots.take.Goals as goal
use Rattle.std.proofs.Common.{rules}

pub take_at-requires : goal.take_at-requires
take_at-requires g c = search (rules, found_there)

pub returns-clause-value : goal.returns-clause-value
returns-clause-value g c =
    search (rules, find-value_at)

pub returns-clause-kept : goal.returns-clause-kept
returns-clause-kept g c =
    search rules

pub returns-clause-gone : goal.returns-clause-gone
returns-clause-gone g c = ap (with_number c.args.key.number) c.take_at.ensures.changes.changed
