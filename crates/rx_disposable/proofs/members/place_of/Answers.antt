use Rattle.std.proofs.Common.{rules}
use Rattle.std.proofs.lemmas.List.Sorted.{answers_always}
use Rattle.rx_disposable.proofs.Search.{searched}
use Rattle.rx_disposable.proofs.members.place_of.Goals as goal

pub returns-clause-has_ticket : goal.returns-clause-has_ticket
returns-clause-has_ticket g c =
    let by_ticket = c.binary_search_by_key.ensures.position (λ member. member.ticket) (answers_always _ _ _ (λ f a r h called. search rules)) in
    rw c.ok.ensures.value (searched c.args.members.now c.requires c.args.ticket c.binary_search_by_key.result by_ticket).0

pub returns-clause-absent : goal.returns-clause-absent
returns-clause-absent g c =
    let by_ticket = c.binary_search_by_key.ensures.position (λ member. member.ticket) (answers_always _ _ _ (λ f a r h called. search rules)) in
    rw c.ok.ensures.value (searched c.args.members.now c.requires c.args.ticket c.binary_search_by_key.result by_ticket).1
