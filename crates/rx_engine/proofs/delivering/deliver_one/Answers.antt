use Rattle.std.proofs.Common.{Bool, Option, IsSome, refl, sym, ap, ◌∙◌, arith, subst}
use Rattle.std.proofs.lemmas.Option.{same_Some}
use Rattle.rx_lanes.specs.Lane.{Lane}
use Rattle.rx_roles.specs.declared.effect.Effect.{Effect}
use Rattle.rx_engine.specs.Deliveries.{put_by, PartsIf}
use Rattle.rx_engine.proofs.Laws.EffectsInLanes.{found_lane, put_many}
use Rattle.rx_engine.proofs.delivering.deliver_one.Goals as goal

pub leave-requires-clause-open : goal.leave-requires-clause-open
leave-requires-clause-open c =
    let found = found_lane c.args.lanes.now c.args.effect.lane c.requires.named in
    subst (λ (o : Option (Lane Effect)). IsSome o) (sym (c.put_one.ensures.puts found.0 found.1).found) refl

pub leave-requires-clause-named : goal.leave-requires-clause-named
leave-requires-clause-named c = λ l is.
    let found = found_lane c.args.lanes.now c.args.effect.lane c.requires.named in
    let same = same_Some l (put_by c.args.by c.args.effect found.0) (sym is ∙ (c.put_one.ensures.puts found.0 found.1).found) in
    let many = ap (λ (x : Lane Effect). x.many) same in
    let put = put_many c.args.by c.args.effect found.0 in
    let some = found.2 in
    omega (arith, many, put, some)

pub returns-then-is_last-clause-arrives : goal.returns-then-is_last-clause-arrives
returns-then-is_last-clause-arrives c = λ l is.
    let put = put_by c.args.by c.args.effect l in
    let puts = c.put_one.ensures.puts l is in
    let last = sym c.if-is_last.true ∙ c.is_last.ensures in
    record {
      between = c.put_one.new.lanes;
      gets = puts;
      parts = subst (λ (b : Bool). PartsIf b c.args.effect.lane put c.put_one.new.lanes c.leave.new.self) last (c.leave.ensures.leaves put puts.found);
    }

pub returns-else-is_last-clause-arrives : goal.returns-else-is_last-clause-arrives
returns-else-is_last-clause-arrives c = λ l is.
    let put = put_by c.args.by c.args.effect l in
    let last = sym c.if-is_last.false ∙ c.is_last.ensures in
    record {
      between = c.put_one.new.lanes;
      gets = c.put_one.ensures.puts l is;
      parts = subst (λ (b : Bool). PartsIf b c.args.effect.lane put c.put_one.new.lanes c.put_one.new.lanes) last refl;
    }
