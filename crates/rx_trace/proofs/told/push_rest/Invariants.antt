-- The texts so far, each behind a comma.
use Rattle.rx_trace.proofs.Common.{◌≡◌, ◌++◌, take, map, string_bytes, flat_map, codes}
use Rattle.rx_trace.proofs.told.push_rest.Given as goal

abbrev pub invariant-loop-one : goal.invariant-loop-one
invariant-loop-one l = string_bytes l.text ≡ string_bytes l.initial.text ++ flat_map (λ q. codes "," ++ q) (map string_bytes (take l.one-index l.texts))
