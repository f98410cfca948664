use Rattle.std.proofs.Common.{rules}
use Rattle.std.proofs.lemmas.List.Sorted.{answers_always}
use Rattle.rx_time.proofs.SlotsInOrder.{searched}
use Rattle.rx_time.proofs.run.place_of.Goals as goal

pub returns-in_default-clause-has_ticket : goal.returns-in_default-clause-has_ticket
returns-in_default-clause-has_ticket g c =
    let by_ticket = c.binary_search_by_key.ensures.position (λ slot. slot.ticket) (answers_always _ _ _ (λ f a r h called. search rules)) in
    rw c.ok.ensures.value (searched c.args.slots.now.items c.args.ticket c.binary_search_by_key.result c.requires by_ticket).0

pub returns-in_default-clause-absent : goal.returns-in_default-clause-absent
returns-in_default-clause-absent g c =
    let by_ticket = c.binary_search_by_key.ensures.position (λ slot. slot.ticket) (answers_always _ _ _ (λ f a r h called. search rules)) in
    rw c.ok.ensures.value (searched c.args.slots.now.items c.args.ticket c.binary_search_by_key.result c.requires by_ticket).1
