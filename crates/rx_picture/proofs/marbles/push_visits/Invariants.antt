use Rattle.rx_picture.proofs.Common.{◌≡◌, take, flat_map, marked, told_in_track}
use Rattle.std.specs.List.{fold}
use Rattle.rx_picture.specs.Told.{told_once}
use Rattle.rx_picture.proofs.marbles.push_visits.Given as goal

abbrev pub invariant-loop-n : goal.invariant-loop-n
invariant-loop-n l = l.told.items ≡ fold told_once l.initial.told.items (flat_map (told_in_track (marked l.tracks) l.past l.item.value) (take l.n-index l.visits))
