use Rattle.rx_hub.proofs.Common.{◌≡◌, List, [], ◌∷◌, length, map, refl, ap, ◌∙◌, arith, after_closing, Hub}
use Rattle.rx_hub.proofs.ClosedLemmas.{closed_first, closed_step, known_at}
use Rattle.rx_hub.proofs.hubs.Hubs.leave_closed.Goals as goal
use Rattle.std.proofs.Common.{rules}

-- where there is no hub none changes
none_changed : (f : Hub → Hub) (hubs : List Hub) → length hubs ≡ 0 → hubs ≡ map f hubs
none_changed f [] none = refl
none_changed f (hub ∷ hubs) none = absurd (omega arith)

pub returns-then-len-eq0 : goal.returns-then-len-eq0
returns-then-len-eq0 c = search (rules, none_changed)

pub loop-one-init : goal.loop-one-init
loop-one-init c = search (rules, closed_first)

pub leave_one-requires : goal.leave_one-requires
leave_one-requires c = search (rules, known_at)

pub loop-one-preserved : goal.loop-one-preserved
loop-one-preserved c =
    let test = c.loop-one-test.true in
    closed_step c.args.self.now c.args.closed.now c.one-item.result c.args.ended c.loop-one.invariant
    (c.leave_one.ensures ∙ ap (λ x. record c.loop-one.self { hubs = map (after_closing (x ∷ []) c.args.ended) c.loop-one.self.hubs }) c.one-item.is)
    (omega (arith, test)) (omega arith)
