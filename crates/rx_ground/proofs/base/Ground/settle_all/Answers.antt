use Rattle.rx_ground.proofs.TiedWhileSettling.{settled, way_starts, way_rechained, way_on, next_ready, next_room}
use Rattle.rx_ground.proofs.base.Ground.settle_all.Goals as goal
use Rattle.std.proofs.Common.{rules}

pub loop-due-init : goal.loop-due-init
loop-due-init g c = search (rules, way_starts)

pub write_due-requires-clause-ready : goal.write_due-requires-clause-ready
write_due-requires-clause-ready g c κs within = let w = way_rechained g.R.Resource _ _ _ c.loop-due.invariant.way c.in-Some.ensures.kept
    c.in-Some.ensures.between in next_ready g.R.Resource _ w.between.tied _ (rw (← c.self.view_is) c.promise.ensures.lawful) c.in-Some.ensures.next w.paid

pub write_due-requires-clause-room : goal.write_due-requires-clause-room
write_due-requires-clause-room g c κs within = let w = way_rechained g.R.Resource _ _ _ c.loop-due.invariant.way c.in-Some.ensures.kept
    c.in-Some.ensures.between in next_room _ _ c.in-Some.ensures.next w.room

pub loop-due-preserved : goal.loop-due-preserved
loop-due-preserved g c = let w = way_rechained g.R.Resource _ _ _ c.loop-due.invariant.way c.in-Some.ensures.kept c.in-Some.ensures.between in
    let u = c.write_due.ensures in
    record {
      way = way_on {d = c.in-Some.due} w
          (record { law = rw (← c.self.view_is) c.promise.ensures.lawful; next = c.in-Some.ensures.next; wrote = u.wrote; frame = u.frame });
    }

pub loop-due-smaller : goal.loop-due-smaller
loop-due-smaller g c = search rules

pub returns-then-is_calm : goal.returns-then-is_calm
returns-then-is_calm g c = let w = way_rechained g.R.Resource _ _ _ c.loop-due.invariant.way c.in-Some.ensures.kept c.in-Some.ensures.between in
    let u = c.write_due.ensures in
    settled (c.is_calm.ensures c.if-is_calm.true) (way_on {d = c.in-Some.due} w
    (record { law = rw (← c.self.view_is) c.promise.ensures.lawful; next = c.in-Some.ensures.next; wrote = u.wrote; frame = u.frame }))

pub returns : goal.returns
returns g c = search (rules, settled, way_rechained)
