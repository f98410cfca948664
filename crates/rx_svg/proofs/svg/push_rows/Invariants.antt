use Rattle.rx_svg.proofs.Common.{◌≡◌, ◌++◌, take, string_bytes, flat_map, view, name_in_object, row_text}
use Rattle.rx_svg.proofs.svg.push_rows.Given as goal

abbrev pub invariant-loop-row : goal.invariant-loop-row
invariant-loop-row l =
    string_bytes l.text ≡ string_bytes l.initial.text
    ++ flat_map (row_text l.drawing (name_in_object (view l.names.object.now)) l.end) (take l.row-index l.rows)
