use Rattle.std.proofs.Common.{◌≡◌, true, false, rules, refl}
use Rattle.rx_turns.specs.States.{turn_state}
use Rattle.rx_turns.specs.Making.{opens_lanes, makes_there, finds_no_room}
use Rattle.rx_turns.proofs.Laws.NothingLost.{loses_none}
use Rattle.rx_turns.proofs.turns.Turns.make_there.Goals as goal

pub returns-then-not-opens_lanes : goal.returns-then-not-opens_lanes
returns-then-not-opens_lanes c =
    makes_there (turn_state c.args.self.now) c.make_by.result.status c.make_by.result.is_own (loses_none (turn_state c.args.self.now).agenda) refl
    (rw (← c.is_free-is_free.ensures) c.make_by.ensures)

pub returns-then-make_room : goal.returns-then-make_room
returns-then-make_room c =
    makes_there (turn_state c.make_room.new.self) c.make_opening.result false c.make_room.ensures.kept c.make_room.ensures.only
    (rw (← c.is_free-is_free.ensures) c.make_opening.ensures)

pub returns : goal.returns
returns c =
    let none = c.make_room.ensures.none c.if-make_room.false in
    let opening : opens_lanes c.args.command.now.what ≡ true = search rules in
    finds_no_room none.0 opening none.1 c.make_room.ensures.kept c.make_room.ensures.only c.clear.ensures
