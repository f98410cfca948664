-- The resources that the events so far handed out.
use Rattle.rx_trace.proofs.Common.{◌≡◌, ◌≤◌, ◌-◌, ◌++◌, List, length, map, take, drop, filter_map, string_bytes, Event, resource_told, res_binding, taken_by, AreHandedOut}
use Rattle.rx_trace.proofs.told.hand_out.Given as goal

abbrev pub invariant-loop-event : goal.invariant-loop-event
invariant-loop-event g l = record {
  begun : l.from ≤ l.place;
  names : map string_bytes l.names.items
      ≡ map (resource_told (map res_binding l.engine.resources)) (filter_map taken_by (drop l.from (take l.place l.engine.book.history)));
  handed : (h : List Event) → AreHandedOut l.initial.handed h → AreHandedOut l.handed (h ++ drop l.from (take l.place l.engine.book.history));
}

abbrev pub decreases-loop-event : goal.decreases-loop-event
decreases-loop-event g l = length l.engine.book.history - l.place
