-- What is put from here on completes what there was to be put.
use Rattle.std.proofs.Common.{◌≡◌, ◌≤◌, ◌+◌, ◌-◌, length, drop}
use Rattle.rx_lanes.specs.declared.names.LaneName.{LaneName}
use Rattle.rx_lanes.specs.State.{State}
use Rattle.rx_roles.specs.declared.effect.Effect.{Effect}
use Rattle.rx_roles.specs.Effects.{copies_in}
use Rattle.rx_engine.specs.Deliveries.{many_at, less, Delivers, AreNamed}
use Rattle.rx_engine.proofs.delivering.deliver.Given as goal

abbrev pub invariant-loop-effect : goal.invariant-loop-effect
invariant-loop-effect l = record {
  within : l.at ≤ length l.effects.list;
  delivers : (u : State Effect) → Delivers l.by l.lanes (drop l.at l.effects.list) u → Delivers l.by l.initial.lanes l.effects.list u;
  named : AreNamed (many_at l.lanes) (drop l.at l.effects.list);
  many : (name : LaneName) → less (many_at l.lanes) (drop l.at l.effects.list) name ≡ less (many_at l.initial.lanes) l.effects.list name;
  copies : l.copies + copies_in (drop l.at l.effects.list) ≡ copies_in l.effects.list;
  few : l.copies ≤ l.at;
  spare : l.lanes.spare + length l.effects.list ≡ l.initial.lanes.spare + length (drop l.at l.effects.list);
}

abbrev pub decreases-loop-effect : goal.decreases-loop-effect
decreases-loop-effect l = length l.effects.list - l.at
