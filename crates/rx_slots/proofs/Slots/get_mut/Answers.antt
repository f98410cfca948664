use Rattle.rx_slots.proofs.Common.{with_value, with_value_at}
use Rattle.rx_slots.proofs.Laws.EntryByNumber.{found_there, find-value_at, with_value_at-found}
use Rattle.rx_slots.proofs.KeptLemmas.{same_loan}
use Rattle.rx_slots.proofs.Slots.get_mut.Goals as goal
use Rattle.std.proofs.Common.{rules}

pub at_mut-requires : goal.at_mut-requires
at_mut-requires g c = record { there = found_there c.args.self.now c.args.key (c.contains.ensures.0 c.if-contains.true) }

pub returns-then-contains : goal.returns-then-contains
returns-then-contains g c =
    search (rules, same_loan, with_value_at, with_value, with_value_at-found, find-value_at)
