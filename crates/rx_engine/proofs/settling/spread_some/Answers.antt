use Rattle.std.proofs.Common.{ap, arith}
use Rattle.rx_lanes.specs.State.{State}
use Rattle.rx_roles.specs.declared.effect.Effect.{Effect}
use Rattle.rx_engine.specs.Deliveries.{many_at}
use Rattle.rx_engine.proofs.settling.spread_some.Goals as goal

pub deliver-parts-requires : goal.deliver-parts-requires
deliver-parts-requires c = record { named = c.requires.are_named; spare = let spare = c.requires.spare in omega (arith, spare) }

pub returns-clause-ready : goal.returns-clause-ready
returns-clause-ready c = record {
  empty = c.deliver-parts.ensures.empty;
  many = λ name.
      (let had = c.requires.many name in
      let less = c.deliver-parts.ensures.many name in
      let same = ap (λ (x : State Effect). many_at x name) c.settle-many.ensures.settles in
      omega (arith, had, less, same));
  room = let had = c.requires.room in let d = c.deliver-parts.ensures.room in omega (arith, had, d);
  spare =
      let had = c.requires.spare in let put = c.deliver-parts.ensures.spare in
      let same = ap (λ (x : State Effect). x.spare) c.settle-many.ensures.settles in
      omega (arith, had, put, same);
}
