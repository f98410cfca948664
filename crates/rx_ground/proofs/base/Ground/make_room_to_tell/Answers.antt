use Rattle.rx_ground.proofs.Common.{◌≤◌, arith, IsPromised, IsStanding, greatest_limit}
use Rattle.rx_ground.proofs.Loads.{open_bounded}
use Rattle.rx_ground.proofs.StandsWithMoreRoom.{standing_aside, standing_mail, roomier_aside, roomier_after_aside, roomier_mail}
use Rattle.rx_ground.proofs.base.Ground.make_room_to_tell.Goals as goal
use Rattle.std.proofs.Common.{rules}

pub returns-in_default-clause-kept : goal.returns-in_default-clause-kept
returns-in_default-clause-kept g c = roomier_aside _ _ c.set_aside.ensures.aside

pub returns-in_default-clause-standing : goal.returns-in_default-clause-standing
returns-in_default-clause-standing g c = search (rules, standing_aside)

pub returns-then-notes-eq0-clause-kept : goal.returns-then-notes-eq0-clause-kept
returns-then-notes-eq0-clause-kept g c = roomier_aside _ _ c.set_aside.ensures.aside

pub returns-then-notes-eq0-clause-standing : goal.returns-then-notes-eq0-clause-standing
returns-then-notes-eq0-clause-standing g c = search (rules, standing_aside)

pub open_count-open-requires-clause-standing : goal.open_count-open-requires-clause-standing
open_count-open-requires-clause-standing g c κs within = search (rules, standing_aside)

pub overflow_add-open : goal.overflow_add-open
overflow_add-open g c =
    let b = c.set_aside.new.self in
    let s : IsStanding g.R.Resource b = standing_aside g.R.Resource c.args.self.now b c.set_aside.ensures.aside c.requires.standing in
    let promised : IsPromised b.register = rw (← c.self.view_is) c.promise.ensures in
    let few = open_bounded b.register promised s.paid in
    let is = c.open_count-open.ensures in
    let small : c.open_count-open.result ≤ greatest_limit = omega arith in
    search rules

pub returns-clause-kept : goal.returns-clause-kept
returns-clause-kept g c = search (rules, roomier_after_aside, roomier_mail)

pub returns-clause-standing : goal.returns-clause-standing
returns-clause-standing g c =
    let b = c.set_aside.new.self in
    let s : IsStanding g.R.Resource b = standing_aside g.R.Resource c.args.self.now b c.set_aside.ensures.aside c.requires.standing in
    let seen = rw (← c.self.view_is) at s in
    standing_mail g.R.Resource _ c.reserve_mail.new.self c.reserve_mail.ensures.kept c.reserve_mail.ensures.mail_room seen
