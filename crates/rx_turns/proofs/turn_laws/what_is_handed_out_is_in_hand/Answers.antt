use Rattle.rx_turns.proofs.NothingLeft.{holds_what_it_hands}
use Rattle.rx_turns.proofs.turn_laws.what_is_handed_out_is_in_hand.Goals as goal

pub returns : goal.returns
returns c = holds_what_it_hands
