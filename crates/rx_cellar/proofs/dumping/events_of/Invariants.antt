use Rattle.std.proofs.Common.{◌≡◌, take}
use Rattle.rx_cellar.proofs.dumping.events_of.Given as goal

abbrev pub invariant-places : goal.invariant-places
invariant-places l = l.events.items ≡ take l.place l.book.history
