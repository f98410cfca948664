use Rattle.rx_book_tests.proofs.TicksEnd.{ticks_end}
use Rattle.rx_book_tests.proofs.desks.whole.emit.Goals as goal

pub feed-requires-after_bounds : goal.feed-requires-after_bounds
feed-requires-after_bounds g c κs within =
    rw c.of-source.ensures.2 (ticks_end c.of-source.result.terminal c.of-source.result.left)
