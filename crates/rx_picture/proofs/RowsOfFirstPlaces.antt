-- The rows of the first places.
use Rattle.rx_picture.proofs.Common.{◌≡◌, ℕ, ◌+◌, Bool, true, false, cond, List, [], ◌∷◌, ◌++◌, map, filter, Option, Some, None, refl, sym, ap, ◌∙◌, slice_get}
use Rattle.rx_picture.proofs.Common.{◌&&◌, AllByRecursion, range_with_len, option_map_or, or_left, or_right, and_from, map-append, filter-append, append-nil}
use Rattle.rx_picture.proofs.Common.{Event, at, AllByRecursion-both, Row, Shape, Node, Resource, Loan, IsRowMade, IsShape, has_row}
use Rattle.rx_picture.specs.Tables.{IsShownAt}
use Rattle.rx_picture.proofs.Ranges.{below_push}
use Rattle.std.proofs.Common.{rules}

pub record RowsUpTo (h : List Event) (shown : ℕ → Bool) (n : ℕ) (rows : List Row) : Type 0 where
  pub numbers : map (λ row. row.number) rows ≡ filter (λ k. at has_row h k && shown k) (range_with_len 0 n)
  pub each : AllByRecursion (IsRowMade h) rows

pub next_filter : (p : ℕ → Bool) (n : ℕ) → filter p (range_with_len 0 (n + 1)) ≡ filter p (range_with_len 0 n) ++ cond (p n) (n ∷ []) []
next_filter p n = ap (filter p) (below_push n) ∙ filter-append p (range_with_len 0 n) (n ∷ [])

-- what has a shape has a row
drawn : (h : List Event) (n : ℕ) (shape : Shape) → IsShape h n shape → at has_row h n ≡ true
drawn h n shape is = search (rules, Option, Event, option_map_or, None, Some, or_left, or_right, Shape, Node, slice_get, Resource, Loan)

pub rows_none : (h : List Event) (shown : ℕ → Bool) → RowsUpTo h shown 0 []
rows_none h shown = record { numbers = refl; each = tt }

pub rows_more : (h : List Event) (shown : ℕ → Bool) (n : ℕ) (rows : List Row) (row : Row)
    → RowsUpTo h shown n rows → IsShownAt h shown n row → RowsUpTo h shown (n + 1) (rows ++ row ∷ [])
rows_more h shown n rows row tied here = record {
  numbers =
      let here_made : (at has_row h n && shown n) ≡ true =
      and_from _ _ (ap (at has_row h) (sym here.number) ∙ drawn h row.number row.shape here.is.shape) here.shown_here in
      map-append (λ row. row.number) rows (row ∷ []) ∙ ap (λ (ks : List ℕ). ks ++ row.number ∷ []) tied.numbers
      ∙ ap (λ (k : ℕ). filter (λ k. at has_row h k && shown k) (range_with_len 0 n) ++ k ∷ []) here.number
      ∙ sym (next_filter (λ k. at has_row h k && shown k) n
      ∙ ap (λ (x : Bool). filter (λ k. at has_row h k && shown k) (range_with_len 0 n) ++ cond x (n ∷ []) []) here_made);
  each = AllByRecursion-both (IsRowMade h) rows (row ∷ []) tied.each (here.is, tt);
}

pub rows_skip : (h : List Event) (shown : ℕ → Bool) (n : ℕ) (rows : List Row)
    → RowsUpTo h shown n rows → (at has_row h n && shown n) ≡ false → RowsUpTo h shown (n + 1) rows
rows_skip h shown n rows tied none = record {
  numbers =
      tied.numbers ∙ sym (next_filter (λ k. at has_row h k && shown k) n
      ∙ ap (λ (x : Bool). filter (λ k. at has_row h k && shown k) (range_with_len 0 n) ++ cond x (n ∷ []) []) none
      ∙ append-nil (filter (λ k. at has_row h k && shown k) (range_with_len 0 n)));
  each = tied.each;
}
