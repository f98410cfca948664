use Rattle.std.proofs.Common.{refl}
use Rattle.rx_turns.specs.Seen.{seen}
use Rattle.rx_turns.specs.States.{turn_state}
use Rattle.rx_turns.specs.Ending.{gives_lane_up}
use Rattle.rx_turns.proofs.turns.Turns.give_up.Goals as goal

pub returns : goal.returns
returns c =
    rw c.left_under.ensures (gives_lane_up c.args.handed (record (turn_state c.args.self.now) { agenda = seen c.drop_hand.new.self }) c.give_back-is_left.new.cellar
    c.give_back-is_left.result c.requires.hand c.requires.outside (record { holds = c.drop_hand.ensures.holds; only = refl }) c.promise.ensures
    c.give_back-is_left.ensures refl)
