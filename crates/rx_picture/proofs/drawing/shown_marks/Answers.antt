use Rattle.rx_picture.proofs.Common.{length, at, is_drawn, leads_tracks}
use Rattle.rx_picture.proofs.MarksStandForTests.{marks_chosen}
use Rattle.rx_picture.proofs.drawing.shown_marks.Goals as goal

pub returns : goal.returns
returns c =
    marks_chosen _ (leads_tracks c.args.events.now) (at is_drawn c.args.events.now) 200 (length c.args.events.now) c.in_ok-leading.ensures c.requires.drawn
    (rw c.deref.ensures.value at c.in_ok-chosen.ensures.chosen)
