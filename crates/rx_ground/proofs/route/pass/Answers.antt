use Rattle.rx_ground.proofs.Common.{w64, to_z-of_z}
use Rattle.rx_ground.proofs.Passage.{only_stop, one_there, one_room, one_passed}
use Rattle.rx_ground.proofs.MarksMakeNothingDue.{off_undue}
use Rattle.rx_ground.proofs.route.pass.Goals as goal

pub tell_at-requires : goal.tell_at-requires
tell_at-requires g c =
    let only = only_stop c.args.tree.now.nodes c.args.hubs.now.hubs c.args.leaf c.in-Some.is c.requires.only in
    record {
      room = one_room c.args.register.now c.args.tree.now c.args.hubs.now.hubs c.args.leaf c.args.value c.requires.lawful c.requires.walk
          c.requires.records c.requires.open c.in-Some.one only c.requires.notes;
    }

pub mark_at-requires-clause-there : goal.mark_at-requires-clause-there
mark_at-requires-clause-there g c κs within =
    let only = only_stop c.args.tree.now.nodes c.args.hubs.now.hubs c.args.leaf c.in-Some.is c.requires.only in
    one_there c.args.register.now c.args.tree.now c.args.hubs.now.hubs c.args.leaf c.args.value c.requires.lawful c.requires.walk c.requires.records
    c.requires.open c.in-Some.one only

pub mark_at-requires-clause-quiet : goal.mark_at-requires-clause-quiet
mark_at-requires-clause-quiet g c κs within = off_undue c.args.tree.now.nodes c.args.tree.now.chain c.requires.records.quiet

pub returns-in-Some-clause-passed : goal.returns-in-Some-clause-passed
returns-in-Some-clause-passed g c =
    let only = only_stop c.args.tree.now.nodes c.args.hubs.now.hubs c.args.leaf c.in-Some.is c.requires.only in
    let told = rw (to_z-of_z w64 c.args.value c.ranges.value) at c.tell_at.ensures.told in
    one_passed c.args.register.now c.args.tree.now c.args.hubs.now.hubs c.args.leaf c.args.value c.requires.lawful c.requires.walk c.requires.records
    c.requires.open c.in-Some.one only c.tell_at.new.register c.mark_at.new.tree c.mark_at.ensures c.requires.pending c.tell_at.ensures.same told
    c.tell_at.ensures.mail_room

pub returns-in-None-clause-passed : goal.returns-in-None-clause-passed
returns-in-None-clause-passed g c = rw (to_z-of_z w64 c.args.value c.ranges.value) at c.pass_on.ensures.passed
