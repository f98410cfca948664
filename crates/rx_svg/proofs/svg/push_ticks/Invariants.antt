use Rattle.rx_svg.proofs.Common.{◌≡◌, ◌++◌, take, string_bytes, flat_map, tick_text}
use Rattle.rx_svg.proofs.svg.push_ticks.Given as goal

abbrev pub invariant-loop-point : goal.invariant-loop-point
invariant-loop-point l = string_bytes l.text ≡ string_bytes l.initial.text ++ flat_map (tick_text l.drawing) (take l.point-index l.points)
