use Rattle.std.proofs.Common.{◌≡◌, ◌<◌, ◌≤◌, ℕ, false, length}
use Rattle.rx_turns.specs.Rows.{is_of, row_on}
use Rattle.rx_turns.proofs.agenda.own_line.Given as goal

-- no row from this line on is of the turn
abbrev pub invariant-loop-line : goal.invariant-loop-line
invariant-loop-line l = (l.line ≤ length l.rows) × ((k : ℕ) → l.line ≤ k → k < length l.rows → is_of l.turn (row_on l.rows k) ≡ false)

abbrev pub decreases-loop-line : goal.decreases-loop-line
decreases-loop-line l = l.line
