-- So far only roots were disposed of.
use Rattle.rx_book.proofs.Common.{◌≡◌, ◌-◌, ℕ, true, length, ◌+◌, is_out, accepted_count, taken_count, IsPromised, LetsGo}
use Rattle.rx_book.proofs.book.Book.dispose_roots.Given as goal

abbrev pub invariant-loop-root : goal.invariant-loop-root
invariant-loop-root g l = record {
  kept : IsPromised l.self;
  lets_go : LetsGo l.initial.self l.self;
  base : l.self.base ≡ l.initial.self.base;
  limit : l.self.limit ≡ l.initial.self.limit;
  given : l.self.given ≡ l.initial.self.given;
  out : (n : ℕ) → is_out l.self.history n ≡ true → is_out l.initial.self.history n ≡ true;
  accepted : accepted_count l.self.base l.self.history ≡ accepted_count l.initial.self.base l.initial.self.history;
  taken : taken_count l.self.base l.self.history ≡ taken_count l.initial.self.base l.initial.self.history;
}

abbrev pub decreases-loop-root : goal.decreases-loop-root
decreases-loop-root g l = l.self.base.at_length + l.self.limit - length l.self.history
