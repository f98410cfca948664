-- So far resources were taken, one after another, and at most as many releases met a fault.
use Rattle.rx_book.proofs.Common.{◌≤◌, ◌+◌, ◌-◌, length, taken_count, IsPromised, Continues, Takes}
use Rattle.rx_book.proofs.book.Book.release_waiting.Given as goal

abbrev pub invariant-loop-handed : goal.invariant-loop-handed
invariant-loop-handed g l = record {
  kept : IsPromised l.self;
  takes : Takes l.initial.self.base l.initial.self.history l.self.history;
  continues : Continues l.initial.self l.self;
  faults : l.faults + taken_count l.initial.self.base l.initial.self.history ≤ taken_count l.self.base l.self.history;
}

abbrev pub decreases-loop-handed : goal.decreases-loop-handed
decreases-loop-handed g l = l.self.base.at_length + l.self.limit - length l.self.history
