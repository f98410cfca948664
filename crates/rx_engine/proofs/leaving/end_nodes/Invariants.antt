-- Who ends from here on completes all who were to end.
use Rattle.std.proofs.Common.{◌≤◌, ◌+◌, ◌-◌, length, drop}
use Rattle.rx_lanes.specs.declared.names.LaneName.{LaneName}
use Rattle.rx_roles.specs.Effects.{names_of}
use Rattle.rx_pool.specs.Moves.{MayLeaveAll}
use Rattle.rx_pool.specs.Places.{places_left}
use Rattle.rx_engine.specs.declared.parts.Parts.{Parts}
use Rattle.rx_engine.specs.Deliveries.{many_at}
use Rattle.rx_engine.specs.Settlements.{closed_of}
use Rattle.rx_engine.specs.Gatherings.{EndsClosed}
use Rattle.rx_engine.proofs.leaving.end_nodes.Given as goal

abbrev pub invariant-loop-key : goal.invariant-loop-key
invariant-loop-key l = record {
  within : l.at ≤ length (closed_of l.book);
  ends : (u : Parts) → EndsClosed l.by (drop l.at (closed_of l.book)) l.parts u → EndsClosed l.by (closed_of l.book) l.initial.parts u;
  may : MayLeaveAll (places_left l.parts.shares.list (drop l.at (closed_of l.book))) l.parts.shares.hubs;
  named : (name : LaneName) → names_of name l.parts.homes.list ≤ many_at l.parts.lanes name;
  room : length l.parts.hears.list + length l.parts.merges.list ≤ l.parts.effects.room;
}

abbrev pub decreases-loop-key : goal.decreases-loop-key
decreases-loop-key l = length (closed_of l.book) - l.at
