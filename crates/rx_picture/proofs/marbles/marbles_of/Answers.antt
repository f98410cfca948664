use Rattle.rx_picture.proofs.Common.{◌≡◌, ◌∙◌, ◌++◌, true, false, marked}
use Rattle.std.proofs.Common.{rules}
use Rattle.rx_picture.specs.Told.{marbles_at}
use Rattle.rx_picture.proofs.MarblesOfPrefixes.{marbles_more, marbles_skip}
use Rattle.rx_picture.proofs.marbles.marbles_of.Goals.{then-is_marked+in_ok-push_told_at+in_ok-extend_from_slice, else-is_marked}
use Rattle.rx_picture.proofs.marbles.marbles_of.Goals as goal

pub loop-place-preserved : goal.loop-place-preserved
loop-place-preserved c = elim c.if-is_marked.branch [
  | then-is_marked+in_ok-push_told_at+in_ok-extend_from_slice w ↦
      let told : w.push_told_at.new.told.items ≡ marbles_at (marked c.args.tracks.now) c.args.events.now c.loop-place.place = search rules in
      let pushed : w.extend_from_slice.new.self.items ≡ c.loop-place.marbles.items ++ w.push_told_at.new.told.items = search rules in
      let here : marked c.args.places.now c.loop-place.place ≡ true = search rules in
      rw w.marbles-is (pushed ∙ marbles_more (marked c.args.tracks.now) (marked c.args.places.now) c.args.events.now c.loop-place.place
      c.loop-place.marbles.items w.push_told_at.new.told.items here c.loop-place.invariant told)
  | else-is_marked w ↦
      let hidden : marked c.args.places.now c.loop-place.place ≡ false = search rules in
      rw w.marbles-is (marbles_skip (marked c.args.tracks.now) (marked c.args.places.now) c.args.events.now c.loop-place.place
      c.loop-place.marbles.items hidden c.loop-place.invariant)
]
