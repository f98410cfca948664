use Rattle.std.proofs.Common.{Bool, Some, None, refl, arith, subst}
use Rattle.rx_book.specs.Requests.{place_of}
use Rattle.rx_engine.specs.Openings.{Gives}
use Rattle.rx_engine.proofs.LanesJoined.{many_few}
use Rattle.rx_engine.proofs.LanesGiven.{housed_lane, only_open, none_open, housed_few, between_few}
use Rattle.rx_engine.proofs.parts.Parts.enter.Goals as goal

pub lane_for-lane-requires : goal.lane_for-lane-requires
lane_for-lane-requires c = record {
  room = let r = c.requires.room.lanes in omega (arith, r);
  there = c.requires.there;
  few = λ name l is. (let some = many_few c.args.self.now name c.requires.many l is in let few = c.requires.few in omega (arith, some, few));
}

pub give-requires : goal.give-requires
give-requires c = record {
  one = c.requires.room.hears;
  below = c.requires.hears;
  room = let r = c.requires.room.lanes in let left = c.lane_for-lane.ensures.room in omega (arith, r, left);
  there = only_open c.lane_for-lane.new.lanes c.lane_for-lane.result
      (housed_lane c.args.home.lane c.args.self.now.lanes c.lane_for-lane.new.lanes c.lane_for-lane.result c.lane_for-lane.ensures.given);
  few = λ name l is.
      (let some = housed_few c.args.self.now c.args.home.lane c.lane_for-lane.new.lanes c.lane_for-lane.result c.requires.many c.lane_for-lane.ensures.given
      name l is in
      let few = c.requires.few in omega (arith, some, few));
}

pub give-requires-2 : goal.give-requires-2
give-requires-2 c = record {
  one = c.requires.room.merges;
  below = c.requires.merges;
  room = let r = c.requires.room.lanes in let left = c.lane_for-lane.ensures.room in let more = c.give.ensures.room in omega (arith, r, left, more);
  there = none_open c.give.new.lanes;
  few = λ name l is.
      (let some = between_few c.args.self.now c.args.home.lane c.lane_for-lane.new.lanes c.lane_for-lane.result c.requires.many c.lane_for-lane.ensures.given
      c.is_root_at.result c.args.number c.args.word c.give.new.roles.list c.give.new.lanes c.give.ensures.gives name l is in
      let few = c.requires.few in omega (arith, some, few));
}

pub returns-clause-entered : goal.returns-clause-entered
returns-clause-entered c = record {
  housed = c.lane_for-lane.new.lanes;
  between = c.give.new.lanes;
  lane_is = c.lane_for-lane.ensures.given;
  homes_is = c.put.ensures.list;
  hears_is = subst (λ (b : Bool). Gives b c.args.number c.args.word (Some c.lane_for-lane.result) c.args.self.now.hears.list c.give.new.roles.list
      c.lane_for-lane.new.lanes c.give.new.lanes)
      (c.is_root_at.ensures c.args.kind) c.give.ensures.gives;
  merges_is = subst (λ (b : Bool). Gives b c.args.number c.args.word None c.args.self.now.merges.list c.give-2.new.roles.list c.give.new.lanes
      c.give-2.new.lanes)
      (c.is_merging.ensures (place_of c.args.at)) c.give-2.ensures.gives;
  holds = refl;
  shares = refl;
  hubs = refl;
}
