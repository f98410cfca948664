-- So far only leases were given back.
use Rattle.rx_book.proofs.Common.{◌≡◌, ◌-◌, length, ◌+◌, accepted_count, taken_count, IsPromised, LetsGo}
use Rattle.rx_book.proofs.book.Book.return_leases.Given as goal

abbrev pub invariant-loop-lease : goal.invariant-loop-lease
invariant-loop-lease g l = record {
  kept : IsPromised l.self;
  lets_go : LetsGo l.initial.self l.self;
  base : l.self.base ≡ l.initial.self.base;
  limit : l.self.limit ≡ l.initial.self.limit;
  given : l.self.given ≡ l.initial.self.given;
  accepted : accepted_count l.self.base l.self.history ≡ accepted_count l.initial.self.base l.initial.self.history;
  taken : taken_count l.self.base l.self.history ≡ taken_count l.initial.self.base l.initial.self.history;
}

abbrev pub decreases-loop-lease : goal.decreases-loop-lease
decreases-loop-lease g l = l.self.base.at_length + l.self.limit - length l.self.history
