use Rattle.std.proofs.Common.{ℕ, length}
use Rattle.rx_turns.specs.Rows.{TellsAlike, AreNoDeeper}
use Rattle.rx_turns.proofs.agenda.trim.Given as goal

abbrev pub invariant-loop-rows : goal.invariant-loop-rows
invariant-loop-rows l = TellsAlike l.fn.rows.items l.rows.items l.lists l.lists
    × ((n : ℕ) → AreNoDeeper n l.fn.rows.items → AreNoDeeper n l.rows.items)

abbrev pub decreases-loop-rows : goal.decreases-loop-rows
decreases-loop-rows l = length l.rows.items
