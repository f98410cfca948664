use Rattle.std.proofs.Common.{◌≡◌, ◌++◌}
use Rattle.rx_book_tests.proofs.parts.uses.moved_out.Given as goal

-- what was moved and what is left are what there was
abbrev pub invariant-loop-member : goal.invariant-loop-member
invariant-loop-member g l =
    (goal.iterator-loop-member g).can_next l.member-iterator
    × (goal.iterator-loop-member g).is_finite l.member-iterator
    × (l.list.items ++ l.member-iterator ≡ l.initial.list.items ++ l.initial.member-iterator)
