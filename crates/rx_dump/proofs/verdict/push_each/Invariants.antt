-- The numbers so far.
use Rattle.rx_dump.proofs.Common.{◌≡◌, ◌++◌, take, string_bytes, flat_map, number_text}
use Rattle.rx_dump.proofs.verdict.push_each.Given as goal

abbrev pub invariant-loop-number : goal.invariant-loop-number
invariant-loop-number l = string_bytes l.text ≡ string_bytes l.initial.text ++ flat_map number_text (take l.number-index l.numbers)
