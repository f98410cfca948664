-- How many items a list of values is.
use Rattle.rx_dump.proofs.Common.{◌≡◌, suc, List, [], ◌∷◌, length, refl, ap, items_view, Value, count}

pub count-items_view : (values : List Value) → count (items_view values) ≡ length values
count-items_view [] = refl
count-items_view (v ∷ vs) = ap suc (count-items_view vs)
