-- The points of the first places.
use Rattle.rx_picture.proofs.Common.{◌≡◌, ℕ, ◌+◌, ◌<◌, Bool, false, cond, List, [], ◌∷◌, ◌++◌, length, map, filter, sym, ap, ◌∙◌, slice_get, Option, Some}
use Rattle.rx_picture.proofs.Common.{append-nil, ◌&&◌, AllByRecursion, range_with_len, map-append, Event, AllByRecursion-both, event_at}
use Rattle.std.proofs.Common.{is_some}
use Rattle.rx_picture.specs.declared.points.Point.{Point}
use Rattle.rx_picture.specs.Told.{IsPointAt}
use Rattle.rx_picture.proofs.RowsOfFirstPlaces.{next_filter}

pub record PointsUpTo (h : List Event) (place : ℕ → Bool) (n : ℕ) (points : List Point) : Type 0 where
  pub numbers : map (λ p. p.place) points ≡ filter place (range_with_len 0 n)
  pub each : AllByRecursion (λ p. slice_get h p.place ≡ Some p.event) points

pub points_more : (h : List Event) (place : ℕ → Bool) (n : ℕ) (points : List Point) (point : Point) → PointsUpTo h place n points →
    IsPointAt h place n point → PointsUpTo h place (n + 1) (points ++ point ∷ [])
points_more h place n points point tied here = record {
  numbers =
      map-append (λ p. p.place) points (point ∷ []) ∙ ap (λ (ks : List ℕ). ks ++ point.place ∷ []) tied.numbers
      ∙ ap (λ (k : ℕ). filter place (range_with_len 0 n) ++ k ∷ []) here.number
      ∙ sym (next_filter place n ∙ ap (λ (x : Bool). filter place (range_with_len 0 n) ++ cond x (n ∷ []) []) here.shown_here);
  each = AllByRecursion-both (λ p. slice_get h p.place ≡ Some p.event) points (point ∷ []) tied.each (ap (slice_get h) here.number ∙ here.is, tt);
}

unmarked : (h : List Event) (place : ℕ → Bool) (n : ℕ) → n < length h → (is_some (slice_get h n) && place n) ≡ false → place n ≡ false
unmarked h place n within none = ap (λ (o : Option Event). is_some o && place n) (sym (event_at h n within).1) ∙ none

pub points_skip : (h : List Event) (place : ℕ → Bool) (n : ℕ) (points : List Point) → n < length h → PointsUpTo h place n points →
    (is_some (slice_get h n) && place n) ≡ false → PointsUpTo h place (n + 1) points
points_skip h place n points within tied none = record {
  numbers =
      tied.numbers ∙ sym (next_filter place n ∙ ap (λ (x : Bool). filter place (range_with_len 0 n) ++ cond x (n ∷ []) []) (unmarked h place n within none)
      ∙ append-nil (filter place (range_with_len 0 n)));
  each = tied.each;
}
