use Rattle.rx_svg.proofs.Common.{◌≡◌, take, view, name_in_object}
use Rattle.rx_svg.specs.Track.{width}
use Rattle.rx_svg.proofs.width.width.Given as goal

abbrev pub invariant-loop-row : goal.invariant-loop-row
invariant-loop-row l = l.wide ≡ width l.drawing (name_in_object (view l.names.object.now)) l.end (take l.row-index l.rows)
