use Rattle.rx_dump.proofs.Common.{◌≡◌, ◌∷◌, Some, arith, begin_array, array, items_view, event_of}
use Rattle.rx_dump.proofs.Openings.{event_opened}
use Rattle.rx_dump.proofs.reading.next_event.Goals as goal

pub returns : goal.returns
returns c =
    let opens : c.args.reader.now ≡ begin_array ∷ c.opens_array.new.reader = grind arith in
    let is : event_of (array (items_view c.in_ok-parts.parts.items)) ≡ Some c.in_ok-event.event = grind arith in
    event_opened _ _ _ _ _ opens c.in_ok-parts.ensures is
