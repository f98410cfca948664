-- What is drawn of a history: which rows and places are shown, and where they stand.
use Rattle.std.specs.Prelude.{◌≡◌, ◌+◌, ◌≤◌, slice_index_or}
use Rattle.rx_picture.specs.Imports.{ℕ, Bool, false, nat_lt, List, length, filter, slice_get, option_map_or, Event, at, places, Drawing}
use Rattle.rx_picture.specs.Choice.{count_below, is_chosen}
use Rattle.rx_picture.specs.Levels.{AreLevels}
use Rattle.rx_picture.specs.Told.{marbles, ArePoints}
use Rattle.rx_picture.specs.Rows.{AreRowsShown, is_drawn, leaks, is_left_behind, track_of}

-- of what is left behind 200: first the resources that leak, then the open nodes
abbrev pub leads_tracks : List Event → ℕ → Bool
leads_tracks h = is_chosen (leaks h) (is_left_behind h) 200 (length h)

-- at most 200 tracks: first those of what leaks, then those of what is only open, then the others
abbrev pub is_shown : List Event → ℕ → Bool
is_shown h = is_chosen (leads_tracks h) (at is_drawn h) 200 (length h)

-- a row is shown where its track is
abbrev pub is_rowed_by : (ℕ → Bool) → List Event → ℕ → Bool
is_rowed_by track h n = option_map_or (λ e. track (track_of n e)) (slice_get h n) false

abbrev pub is_rowed : List Event → ℕ → Bool
is_rowed h = is_rowed_by (is_shown h) h

-- at most 2,000 places: those at which a shown track begins come first
abbrev pub is_placed : List Event → ℕ → Bool
is_placed h = is_chosen (is_shown h) (λ n. nat_lt n (length h)) 2000 (length h)

-- the list says of each number, and of the bound, how many pass below it
pub record AreColumns (test : ℕ → Bool) (bound : ℕ) (columns : List ℕ) : Type 0 where
  pub size : length columns ≡ bound + 1
  pub each : (n : ℕ) → n ≤ bound → slice_index_or columns n 0 ≡ count_below test n

pub record IsDrawing (h : List Event) (drawing : Drawing) : Type 0 where
  pub rows : AreRowsShown h (is_rowed h) drawing.rows.items
  pub all : drawing.all ≡ count_below (at is_drawn h) (length h)
  pub leaks : drawing.leaks.items ≡ filter (leaks h) (places h)
  pub marbles : drawing.marbles.items ≡ marbles (is_shown h) (is_placed h) h
  pub points : ArePoints h (is_placed h) drawing.points.items
  pub tracks : AreColumns (is_shown h) (length h) drawing.tracks.items
  pub columns : AreColumns (is_placed h) (length h) drawing.columns.items
  pub levels : AreLevels h (length h) drawing.levels.items
  pub few_tracks : count_below (is_shown h) (length h) ≤ 200
  pub few_places : count_below (is_placed h) (length h) ≤ 2000
