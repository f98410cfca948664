-- The drawing, by the marks of what is shown.
use Rattle.rx_picture.proofs.Common.{◌≡◌, ℕ, Bool, true, List, length, filter, replicate, ap, ◌∙◌, nat_lt, Event, at, places, Drawing, count_below, marked}
use Rattle.rx_picture.proofs.Common.{AreMarksByTest, AreLevels, AreRowsShown, is_drawn, leaks, leads_tracks, marbles, is_shown, is_placed, is_rowed}
use Rattle.rx_picture.proofs.Common.{is_rowed_by, AreColumns}
use Rattle.rx_picture.proofs.Common.{IsDrawing}
use Rattle.rx_picture.specs.Told.{ArePoints}
use Rattle.rx_picture.proofs.FewAreChosen.{few_chosen}
use Rattle.rx_picture.proofs.MarksStandForTests.{count_same, marks_all, rows_same, rowed_same, columns_same, shown_anywhere, placed_anywhere}
use Rattle.std.proofs.Common.{rules}

pub marks_every : (size : ℕ) (every : List Bool) → every ≡ replicate size true → AreMarksByTest every size (λ n. nat_lt n size)
marks_every size every is = rw is (marks_all size)

points_same : (h : List Event) (d : Drawing) (placed : List Bool) → AreMarksByTest placed (length h) (is_placed h)
    → ArePoints h (marked placed) d.points.items →
    ArePoints h (is_placed h) d.points.items
points_same h d placed tied told = search (rules, filter, placed_anywhere)

-- lists that mark what is drawn, shown, placed and rowed of a history
pub record AreMarked (h : List Event) (drawn shown placed rowed : List Bool) : Type 0 where
  pub of_drawn : AreMarksByTest drawn (length h) (at is_drawn h)
  pub of_shown : AreMarksByTest shown (length h) (is_shown h)
  pub of_placed : AreMarksByTest placed (length h) (is_placed h)
  pub of_rowed : AreMarksByTest rowed (length h) (is_rowed_by (marked shown) h)

-- the drawing has what such lists mark
pub record IsDrawnByMarks (h : List Event) (drawn shown placed rowed : List Bool) (d : Drawing) : Type 0 where
  pub rows : AreRowsShown h (marked rowed) d.rows.items
  pub all : d.all ≡ count_below (marked drawn) (length drawn)
  pub leaking : d.leaks.items ≡ filter (leaks h) (places h)
  pub marbles : d.marbles.items ≡ marbles (marked shown) (marked placed) h
  pub points : ArePoints h (marked placed) d.points.items
  pub tracks : AreColumns (marked shown) (length shown) d.tracks.items
  pub columns : AreColumns (marked placed) (length placed) d.columns.items
  pub levels : AreLevels h (length h) d.levels.items

pub drawing_is : {h : List Event} {d : Drawing} {drawn shown placed rowed : List Bool} → AreMarked h drawn shown placed rowed
    → IsDrawnByMarks h drawn shown placed rowed d → IsDrawing h d
drawing_is {h} {d} {drawn} {shown} {placed} {rowed} marks by = record {
  rows = rows_same h rowed (is_rowed h) d.rows.items (rowed_same h shown rowed marks.of_shown marks.of_rowed) by.rows;
  all = by.all ∙ ap (count_below (marked drawn)) marks.of_drawn.size
      ∙ count_same (marked drawn) (at is_drawn h) (length h) (λ k l. marks.of_drawn.each k l);
  leaks = by.leaking;
  marbles = by.marbles
      ∙ (λ i. marbles (λ n. shown_anywhere h shown marks.of_shown n i) (λ n. placed_anywhere h placed marks.of_placed n i) h);
  points = points_same h d placed marks.of_placed by.points;
  tracks = columns_same shown (length h) (is_shown h) d.tracks.items marks.of_shown by.tracks;
  columns = columns_same placed (length h) (is_placed h) d.columns.items marks.of_placed by.columns;
  levels = by.levels;
  few_tracks = few_chosen (leads_tracks h) (at is_drawn h) 200 (length h);
  few_places = few_chosen (is_shown h) (λ n. nat_lt n (length h)) 2000 (length h);
}
