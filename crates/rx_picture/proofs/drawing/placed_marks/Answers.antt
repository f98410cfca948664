use Rattle.rx_picture.proofs.Common.{length, nat_lt, is_shown}
use Rattle.rx_picture.proofs.MarksStandForTests.{marks_chosen}
use Rattle.rx_picture.proofs.Drawings.{marks_every}
use Rattle.rx_picture.proofs.drawing.placed_marks.Goals as goal

pub returns : goal.returns
returns c =
    marks_chosen _ (is_shown c.args.events.now) (λ n. nat_lt n (length c.args.events.now)) 2000 (length c.args.events.now) c.requires
    (marks_every (length c.args.events.now) _ c.in_ok-every.ensures) (rw c.deref.ensures.value at c.in_ok-chosen.ensures.chosen)
