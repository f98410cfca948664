-- The texts so far, each behind a comma.
use Rattle.rx_script.proofs.Common.{◌≡◌, ◌++◌, take, map, string_bytes, flat_map}
use Rattle.rx_script.specs.NamedDumps.{following_text}
use Rattle.rx_script.proofs.naming.push_rest.Given as goal

abbrev pub invariant-loop-one : goal.invariant-loop-one
invariant-loop-one l = string_bytes l.text ≡ string_bytes l.initial.text ++ flat_map following_text (map string_bytes (take l.one-index l.texts))
