use Rattle.rx_svg.proofs.Common.{◌≡◌, ◌++◌, take, string_bytes, flat_map, note_marble}
use Rattle.rx_svg.proofs.svg.push_marbles.Given as goal

abbrev pub invariant-loop-mail : goal.invariant-loop-mail
invariant-loop-mail l = string_bytes l.text ≡ string_bytes l.initial.text ++ flat_map (note_marble l.drawing) (take l.mail-index l.marbles)
