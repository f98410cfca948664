use Rattle.rx_picture.proofs.Drawings.{drawing_is}
use Rattle.rx_picture.proofs.drawing.draw.Goals as goal

pub returns : goal.returns
returns c =
    drawing_is {rowed = c.in_ok-rowed.rowed.items} (record {
      of_drawn = c.in_ok-drawn.ensures;
      of_shown = c.in_ok-shown.ensures;
      of_placed = c.in_ok-placed.ensures;
      of_rowed = rw c.deref-3.ensures.value at c.in_ok-rowed.ensures;
    }) (record {
      rows = rw c.deref-4.ensures.value at c.in_ok-rows.ensures;
      all = rw c.deref-11.ensures.value at c.count_marks-all.ensures;
      leaking = c.in_ok-leaks.ensures;
      marbles = rw (c.deref-6.ensures.value, c.deref-7.ensures.value) at c.in_ok-marbles.ensures;
      points = rw c.deref-8.ensures.value at c.in_ok-points.ensures;
      tracks = rw c.deref-9.ensures.value at c.in_ok-tracks.ensures;
      columns = rw c.deref-10.ensures.value at c.in_ok-columns.ensures;
      levels = c.in_ok-levels.ensures;
    })
