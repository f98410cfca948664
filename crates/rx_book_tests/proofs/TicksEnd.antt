-- A clock ends once.
use Rattle.std.proofs.Common.{◌≡◌, ℕ, zero, suc, true, refl}
use Rattle.rx_note.specs.declared.note.Terminal.{Terminal}
use Rattle.rx_crew.specs.Feeds.{ends_once}
use Rattle.rx_book_tests.specs.Ticks.{ticks}

pub ticks_end : (terminal : Terminal) (left : ℕ) → ends_once (ticks terminal left) ≡ true
ticks_end terminal zero = refl
ticks_end terminal (suc left) = ticks_end terminal left
