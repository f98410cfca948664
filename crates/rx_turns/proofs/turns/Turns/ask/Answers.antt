use Rattle.std.proofs.Common.{refl}
use Rattle.rx_turns.specs.States.{turn_state}
use Rattle.rx_turns.specs.Serving.{new_hand, gives_one, gives_none}
use Rattle.rx_turns.specs.Finding.{found_one, found_none}
use Rattle.rx_turns.proofs.Held.{hand_held}
use Rattle.rx_turns.proofs.turns.Turns.ask.Goals as goal

pub returns-in-Some-clause-asks : goal.returns-in-Some-clause-asks
returns-in-Some-clause-asks c =
    let h = new_hand c.args.self.now.tickets c.args.word c.in-Some.effect in
    found_one c.args.on.line h
    (hand_held c.args.on (turn_state c.args.self.now).agenda (turn_state c.hand_out.new.self).agenda h c.hand_out.ensures.line c.hand_out.ensures.hands.holds)
    (gives_one c.take.new.self c.in-Some.effect h c.promise.ensures c.in-Some.ensures c.hand_out.ensures.hands)

pub returns-in-None-clause-asks : goal.returns-in-None-clause-asks
returns-in-None-clause-asks c = found_none (gives_none c.take.new.self c.promise.ensures c.in-None.ensures refl)
