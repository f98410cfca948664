-- So far these values were emitted.
use Rattle.rx_book.proofs.Common.{length, ◌-◌, ◌≤◌, take, Emits}
use Rattle.rx_book.proofs.book.Book.next_all.Given as goal

abbrev pub invariant-loop-count : goal.invariant-loop-count
invariant-loop-count g l = record {
  emits : Emits l.leaf l.initial.self (take l.count l.values) l.self;
  fits : l.count ≤ length l.values;
}

abbrev pub decreases-loop-count : goal.decreases-loop-count
decreases-loop-count g l = length l.values - l.count
