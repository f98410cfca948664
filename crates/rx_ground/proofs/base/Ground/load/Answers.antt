use Rattle.rx_ground.proofs.Common.{◌≡◌, ◌+◌, ◌-◌, ◌*◌, ap, ◌∙◌, arith, places, debt, accepted_count-parts, owed_in, Ground, lent_alone_count}
use Rattle.std.specs.List.{count_by}
use Rattle.rx_ground.proofs.OwedCountBounded.{owed_in-count}
use Rattle.rx_ground.proofs.TreeAgreesOnResource.{is_alone}
use Rattle.rx_ground.proofs.Laws.JustOpenHeldWaiting.{length-alone}
use Rattle.rx_ground.proofs.Loads.{held_counted, debt_counted, debt_bounded}
use Rattle.rx_ground.proofs.base.Ground.load.Given.{Over}
use Rattle.rx_ground.proofs.base.Ground.load.Goals as goal
use Rattle.std.proofs.Common.{rules}

pub overflow_sub-held : goal.overflow_sub-held
overflow_sub-held g c = search (rules, accepted_count-parts)

pub overflow_sub-held-2 : goal.overflow_sub-held-2
overflow_sub-held-2 g c = search (rules, accepted_count-parts)

alone_of : (g : Over) (c : goal.After-owed-owed g) →
    c.lent_alone-alone.result ≡ count_by (is_alone c.args.self.now.register.history) (places c.args.self.now.register.history)
alone_of g c =
    let b = c.args.self.now in
    c.lent_alone-alone.ensures ∙ ap (λ (s : Ground _). lent_alone_count s.tree) c.self.view_is ∙
    length-alone b.register.base g.R.Resource b.register.history b.tree c.requires.standing.tied.of_tree c.promise.ensures.register.lawful
    c.promise.ensures.tree.resources_apart

counted : (g : Over) (c : goal.After-owed-owed g) → (let waiting = c.waiting_count-waiting.result in
    let alone = c.lent_alone-alone.result in
    c.open_count-open.result + 2 * ((c.accepted.result - c.taken.result - waiting) - alone) + alone + waiting + c.lease_count-leases.result +
    c.owed-owed.result) ≡ debt c.args.self.now.register.base c.args.self.now.register.history
counted g c =
    let b = c.args.self.now in
    let records = c.requires.standing.tied.of_tree.records in
    let same = ap (λ (s : Ground _). owed_in s.tree.nodes) c.self.view_is in
    let owing = c.owed-owed.ensures ∙ same ∙
    owed_in-count b.register.base b.register.history c.promise.ensures.register.lawful b.tree.nodes b.tree.chain records c.promise.ensures.tree.sound.apart in
    debt_counted c.promise.ensures.register.lawful c.open_count-open.ensures c.waiting_count-waiting.ensures c.accepted.ensures c.taken.ensures (alone_of g c)
    c.lease_count-leases.ensures owing

pub overflow_mul-result : goal.overflow_mul-result
overflow_mul-result g c = let is = counted g c in let bounded = debt_bounded _ c.promise.ensures.register c.requires.standing.paid in omega arith

pub overflow_sub-result : goal.overflow_sub-result
overflow_sub-result g c =
    let b = c.args.self.now in
    let parts = accepted_count-parts b.register.base b.register.history c.promise.ensures.register.lawful in
    let apart = held_counted b.register.history in
    let alone = alone_of g c in
    omega (arith, c.accepted.ensures, c.taken.ensures, c.waiting_count-waiting.ensures)

pub overflow_add-result : goal.overflow_add-result
overflow_add-result g c = let is = counted g c in let bounded = debt_bounded _ c.promise.ensures.register c.requires.standing.paid in omega arith

pub overflow_add-result-2 : goal.overflow_add-result-2
overflow_add-result-2 g c = let is = counted g c in let bounded = debt_bounded _ c.promise.ensures.register c.requires.standing.paid in omega arith

pub overflow_add-result-3 : goal.overflow_add-result-3
overflow_add-result-3 g c = let is = counted g c in let bounded = debt_bounded _ c.promise.ensures.register c.requires.standing.paid in omega arith

pub overflow_add-result-4 : goal.overflow_add-result-4
overflow_add-result-4 g c = let is = counted g c in let bounded = debt_bounded _ c.promise.ensures.register c.requires.standing.paid in omega arith

pub overflow_add-result-5 : goal.overflow_add-result-5
overflow_add-result-5 g c = let is = counted g c in let bounded = debt_bounded _ c.promise.ensures.register c.requires.standing.paid in omega arith

pub returns-clause-load : goal.returns-clause-load
returns-clause-load g c = record { open_count = c.open_count-open.ensures; debt = counted g c }

pub returns-clause-bound : goal.returns-clause-bound
returns-clause-bound g c = search (rules, counted, debt_bounded)
