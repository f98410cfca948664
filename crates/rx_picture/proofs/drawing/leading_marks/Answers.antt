use Rattle.rx_picture.proofs.Common.{length, leaks, is_left_behind}
use Rattle.rx_picture.proofs.MarksStandForTests.{marks_chosen}
use Rattle.rx_picture.proofs.drawing.leading_marks.Goals as goal

pub returns : goal.returns
returns c =
    let h = c.args.events.now in
    marks_chosen _ (leaks h) (is_left_behind h) 200 (length h) (c.in_ok-leaking.ensures) (c.in_ok-left.ensures)
    (rw (c.deref-2.ensures.value, c.deref-3.ensures.value) at c.in_ok-chosen.ensures.chosen)
