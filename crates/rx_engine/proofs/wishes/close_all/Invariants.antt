-- The words so far, and those of what is left, are all there are.
use Rattle.std.proofs.Common.{◌≡◌, ◌≤◌, ◌+◌, ◌-◌, ◌++◌, length, drop, vec_len, vec_capacity}
use Rattle.rx_roles.specs.Roles.{without_all}
use Rattle.rx_engine.specs.Settlements.{closed_of}
use Rattle.rx_engine.specs.Closings.{words_taken}
use Rattle.rx_engine.proofs.wishes.close_all.Given as goal

abbrev pub invariant-loop-key : goal.invariant-loop-key
invariant-loop-key l = record {
  within : l.at ≤ length (closed_of l.book);
  roles : without_all l.roles.list (drop l.at (closed_of l.book)) ≡ without_all l.initial.roles.list (closed_of l.book);
  closings : l.closings.items ++ words_taken l.roles.list (drop l.at (closed_of l.book)) ≡ words_taken l.initial.roles.list (closed_of l.book);
  room : vec_len l.closings + length l.roles.list ≤ vec_capacity l.closings;
}

abbrev pub decreases-loop-key : goal.decreases-loop-key
decreases-loop-key l = length (closed_of l.book) - l.at
