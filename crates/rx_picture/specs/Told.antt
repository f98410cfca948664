-- The marbles and places of a picture: what observers were told, so far as track and place are shown, and what happened where.
use Rattle.std.specs.Prelude.{◌≡◌, ◌<◌, ◌==◌, ◌∷◌, ◌++◌, flat_map, slice_index_or, if◌then◌else◌}
use Rattle.std.specs.List.{fold}
use Rattle.rx_picture.specs.Imports.{ℕ, ℤ, Bool, true, nat_lt, Some, List, [], length, filter, list_any, map, take, slice_get, not, AllByRecursion}
use Rattle.rx_picture.specs.Imports.{option_and_then, option_map_or, option_to_list, Event, is_open, places, stop_at, mail_of, told}
use Rattle.rx_event.specs.declared.mail.Mail.{Mail}
use Rattle.rx_picture.specs.declared.points.Point.{Point}

-- marbles -----------------------------------------------------------------------------------------

-- what the event at the place tells, where the track is shown of whom it goes to
abbrev pub mail_told : (ℕ → Bool) → List Event → ℕ → List Mail
mail_told track h n = filter (λ m. track m.to) (option_map_or (mail_of (take n h)) (slice_get h n) [])

-- one note of an event more, but none to whom it has told one: an item that comes to a node by many ways is drawn there once
abbrev pub told_once : List Mail → Mail → List Mail
told_once before m = if list_any (λ o. o.to == m.to) before then before else before ++ m ∷ []

-- the marbles at a place
abbrev pub marbles_at : (ℕ → Bool) → List Event → ℕ → List Mail
marbles_at track h n = fold told_once [] (mail_told track h n)

-- what was told, in order, so far as it is shown
abbrev pub marbles : (ℕ → Bool) → (ℕ → Bool) → List Event → List Mail
marbles track place h = flat_map (marbles_at track h) (filter place (places h))

-- places ------------------------------------------------------------------------------------------

-- one point for each place that is shown, by rising number, with its event
pub record ArePoints (h : List Event) (place : ℕ → Bool) (points : List Point) : Type 0 where
  pub numbers : map (λ p. p.place) points ≡ filter place (places h)
  pub each : AllByRecursion (λ p. slice_get h p.place ≡ Some p.event) points

-- the parts of it -----------------------------------------------------------------------------------

-- after these events a node is open where its line has not ended
pub record AreEndsOf (past : List Event) (ends : List ℕ) : Type 0 where
  pub each : (n : ℕ) → n < length past → is_open past n ≡ not (nat_lt (slice_index_or ends n 0) (length past))

-- what an item tells at the node, where the track is shown of whom it goes to
abbrev pub told_in_track : (ℕ → Bool) → List Event → ℤ → ℕ → List Mail
told_in_track track past value n = filter (λ m. track m.to) (option_to_list (option_and_then (told (length past) value) (stop_at past n)))

-- the point of the place, which is shown
pub record IsPointAt (h : List Event) (place : ℕ → Bool) (n : ℕ) (point : Point) : Type 0 where
  pub number : point.place ≡ n
  pub shown_here : place n ≡ true
  pub is : slice_get h n ≡ Some point.event
