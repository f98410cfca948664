use Rattle.rx_picture.proofs.Common.{◌≡◌, marked}
use Rattle.rx_picture.proofs.MarblesOfPrefixes.{marbles_to}
use Rattle.rx_picture.proofs.marbles.marbles_of.Given as goal

abbrev pub invariant-loop-place : goal.invariant-loop-place
invariant-loop-place l = l.marbles.items ≡ marbles_to (marked l.tracks) (marked l.places) l.events l.place
