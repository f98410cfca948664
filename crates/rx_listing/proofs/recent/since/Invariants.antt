use Rattle.std.proofs.Common.{◌≤◌, length}
use Rattle.rx_listing.proofs.recent.since.Given as goal

abbrev pub invariant-places : goal.invariant-places
invariant-places g l = record {
  above : l.book.base.at_length ≤ l.place;
  within : l.place ≤ length l.book.history;
}

abbrev pub decreases-places : goal.decreases-places
decreases-places g l = l.place
