use Rattle.std.proofs.Common.{Option, IsSome, refl, sym, ap, ◌∙◌, arith, subst}
use Rattle.std.proofs.lemmas.Option.{same_Some}
use Rattle.rx_lanes.specs.Lane.{Lane}
use Rattle.rx_roles.specs.declared.effect.Effect.{Effect}
use Rattle.rx_engine.proofs.NamedLanes.{role_named}
use Rattle.rx_engine.proofs.Laws.EffectsInLanes.{found_lane}
use Rattle.rx_engine.proofs.leaving.leave_one.Goals as goal

pub leave-requires-clause-open : goal.leave-requires-clause-open
leave-requires-clause-open c =
    let some = role_named c.args.homes.now.list c.args.number c.in-Some.home (sym c.in-Some.ensures.value) in
    let few = c.requires.named c.in-Some.home.lane in
    let found = found_lane c.args.lanes.now c.in-Some.home.lane (omega (arith, some, few)) in
    subst (λ (o : Option (Lane Effect)). IsSome o) (sym found.1) refl

pub leave-requires-clause-named : goal.leave-requires-clause-named
leave-requires-clause-named c = λ l is.
    let some = role_named c.args.homes.now.list c.args.number c.in-Some.home (sym c.in-Some.ensures.value) in
    let few = c.requires.named c.in-Some.home.lane in
    let found = found_lane c.args.lanes.now c.in-Some.home.lane (omega (arith, some, few)) in
    let same = ap (λ (x : Lane Effect). x.many) (same_Some l found.0 (sym is ∙ found.1)) in
    let named = found.2 in
    omega (arith, same, named)
