use Rattle.rx_svg.proofs.Common.{◌≡◌, ◌++◌, take, string_bytes, flat_map}
use Rattle.rx_svg.specs.Parts.{piece_text}
use Rattle.rx_svg.proofs.pieces.push_pieces.Given as goal

abbrev pub invariant-loop-piece : goal.invariant-loop-piece
invariant-loop-piece l = string_bytes l.text ≡ string_bytes l.initial.text ++ flat_map piece_text (take l.piece-index l.pieces)
