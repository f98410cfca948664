use Rattle.rx_svg.proofs.Common.{◌≡◌, ◌++◌, take, string_bytes, flat_map, byte_text}
use Rattle.rx_svg.proofs.names.push_bytes.Given as goal

abbrev pub invariant-loop-byte : goal.invariant-loop-byte
invariant-loop-byte l = string_bytes l.text ≡ string_bytes l.initial.text ++ flat_map byte_text (take l.byte-index l.bytes)
