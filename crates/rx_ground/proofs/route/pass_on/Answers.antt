use Rattle.rx_ground.proofs.Common.{ap, w64, to_z-of_z, Route}
use Rattle.rx_ground.proofs.Passage.{going_starts, going_on, going_fewer, stop_room}
use Rattle.rx_ground.proofs.MarksMakeNothingDue.{off_undue}
use Rattle.rx_ground.proofs.route.pass_on.Goals as goal

pub loop-stop-init : goal.loop-stop-init
loop-stop-init g c = rw (to_z-of_z w64 c.args.value c.ranges.value)
    (going_starts c.args.register.now c.args.tree.now c.args.hubs.now.hubs c.args.route.now.room c.args.leaf c.args.value
    c.requires.lawful c.requires.walk c.requires.records c.requires.open c.requires.pending
    (c.start.ensures.under_way _ _ c.requires.open c.requires.room) (ap (λ (r : Route). r.room) c.start.ensures.started) (c.start.ensures.stops _ _))

pub tell_at-requires : goal.tell_at-requires
tell_at-requires g c =
    let going = rw (to_z-of_z w64 c.args.value c.ranges.value) at c.loop-stop.invariant in
    record {
      room = stop_room c.args.register.now c.args.tree.now c.args.hubs.now.hubs c.args.route.now.room c.args.leaf c.args.value c.loop-stop.register
          c.loop-stop.tree c.loop-stop.route c.next.new.self c.in-Some.stop going c.in-Some.ensures c.requires.notes;
    }

pub loop-stop-smaller : goal.loop-stop-smaller
loop-stop-smaller g c = going_fewer c.args.register.now c.args.tree.now c.args.hubs.now.hubs c.args.route.now.room c.args.leaf _ c.loop-stop.register
    c.loop-stop.tree c.mark_at.new.tree c.loop-stop.route c.next.new.self c.in-Some.stop c.loop-stop.invariant c.in-Some.ensures c.mark_at.ensures

pub loop-stop-preserved : goal.loop-stop-preserved
loop-stop-preserved g c = going_on c.args.register.now c.args.tree.now c.args.hubs.now.hubs c.args.route.now.room c.args.leaf _ c.loop-stop.register
    c.loop-stop.tree c.mark_at.new.tree c.loop-stop.route c.next.new.self c.in-Some.stop c.loop-stop.invariant c.in-Some.ensures c.mark_at.ensures
    c.tell_at.new.register c.tell_at.ensures.same c.tell_at.ensures.told c.tell_at.ensures.mail_room

pub mark_at-requires-clause-quiet : goal.mark_at-requires-clause-quiet
mark_at-requires-clause-quiet g c κs within = off_undue c.loop-stop.tree.nodes c.loop-stop.tree.chain c.loop-stop.invariant.passing.records.quiet
