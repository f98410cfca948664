use Rattle.std.proofs.Common.{length, ap, ◌∙◌, arith, subst}
use Rattle.rx_resource.specs.contracts.token.TokenResource.TheImpl.{ghosts}
use Rattle.rx_event.specs.declared.event.Mode.{Mode}
use Rattle.rx_engine.specs.Hubs.{mode_at, IsHubDone, none_made, one_made, room_gotten}
use Rattle.rx_engine.proofs.TiedAfterHub.{one_longer, refused_still}
use Rattle.rx_engine.proofs.engine.Engine.make_hubs.Goals as goal

pub loop-self-init : goal.loop-self-init
loop-self-init c = record { makes = none_made }

pub loop-self-smaller : goal.loop-self-smaller
loop-self-smaller c =
    let d = c.in-Ok.ensures.done in
    let one = one_longer ghosts c.args.by 0 d.mid c.loop-self.self.parts d.added (length c.loop-self.self.book.history) c.mode_at-mode.result c.make_hub.new.self d.adds d.settles in
    let few = c.loop-self-test.true in let many = c.hub_count.ensures in
    omega (arith, one, few, many)

pub loop-self-preserved : goal.loop-self-preserved
loop-self-preserved c = record {
  makes = one_made c.loop-self.invariant.makes
      (subst (λ (m : Mode). IsHubDone ghosts m c.args.by c.loop-self.self c.make_hub.new.self) (c.mode_at-mode.ensures ∙ ap mode_at c.hub_count-in-loop-self.ensures) c.in-Ok.ensures.done);
}

pub returns-in-Err : goal.returns-in-Err
returns-in-Err c = record {
  makes = room_gotten c.loop-self.invariant.makes c.in-Err.ensures.kept;
  all = tt;
  refused = refused_still c.loop-self.self c.make_hub.new.self c.mode_at-mode.result c.in-Err.why c.in-Err.ensures.kept (c.mode_at-mode.ensures ∙ ap mode_at c.hub_count-in-loop-self.ensures)
      c.in-Err.ensures.refused;
}
