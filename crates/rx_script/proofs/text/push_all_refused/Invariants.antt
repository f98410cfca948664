-- The lines of the answers so far.
use Rattle.rx_script.proofs.Common.{◌≡◌, ◌++◌, take, string_bytes, refused_lines}
use Rattle.rx_script.proofs.text.push_all_refused.Given as goal

abbrev pub invariant-loop-executed : goal.invariant-loop-executed
invariant-loop-executed l = string_bytes l.text ≡ string_bytes l.initial.text ++ refused_lines (take l.executed l.answers)
