-- So far only connections were closed that a caller had made.
use Rattle.rx_book.proofs.Common.{◌≡◌, ◌-◌, ℕ, true, length, ◌+◌, is_open_root, is_out, accepted_count, taken_count, IsPromised, LetsGo}
use Rattle.rx_book.proofs.book.Book.disconnect_hubs.Given as goal

abbrev pub invariant-loop-hub : goal.invariant-loop-hub
invariant-loop-hub g l = record {
  kept : IsPromised l.self;
  lets_go : LetsGo l.initial.self l.self;
  base : l.self.base ≡ l.initial.self.base;
  limit : l.self.limit ≡ l.initial.self.limit;
  given : l.self.given ≡ l.initial.self.given;
  roots : (n : ℕ) → is_open_root l.self.history n ≡ true → is_open_root l.initial.self.history n ≡ true;
  out : (n : ℕ) → is_out l.self.history n ≡ true → is_out l.initial.self.history n ≡ true;
  accepted : accepted_count l.self.base l.self.history ≡ accepted_count l.initial.self.base l.initial.self.history;
  taken : taken_count l.self.base l.self.history ≡ taken_count l.initial.self.base l.initial.self.history;
}

abbrev pub decreases-loop-hub : goal.decreases-loop-hub
decreases-loop-hub g l = l.self.base.at_length + l.self.limit - length l.self.history
