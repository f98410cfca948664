-- Where a drawing shows a resource as held: by the full bar of its own row, and by the rows of its leases.
use Rattle.std.specs.Prelude.{◌≡◌, ◌<◌, ◌≤◌, ◌&&◌, ◌==◌}
use Rattle.rx_picture.specs.Imports.{ℕ, Bool, true, false, nat_lt, List, length, take, not, list_any, Event, makes_resource, at, is_held, Shape}
use Rattle.rx_picture.specs.Imports.{Resource, Loan, Row, Drawing}
use Rattle.rx_picture.specs.Drawn.{is_shown, IsDrawing}

-- what has number n and this shape is a full bar of resource r over the prefix of length k
abbrev pub bars : ℕ → ℕ → ℕ → Shape → Bool
bars r k n (Resource after until taken) = n == r && (nat_lt after k && not (nat_lt until k))
bars r k n (Loan resource until) = resource == r && (nat_lt n k && not (nat_lt until k))
bars r k n _ = false

abbrev pub bars_row : ℕ → ℕ → Row → Bool
bars_row r k row = bars r k row.number row.shape

-- from its acceptance on, a resource that is shown is held in just the prefixes over which it has a full bar
abbrev pub HeldIsBarred : Type 0
HeldIsBarred = (h : List Event) (d : Drawing) → IsDrawing h d → (r : ℕ) → at makes_resource h r ≡ true → is_shown h r ≡ true →
    (k : ℕ) → r < k → k ≤ length h → is_held (take k h) r ≡ list_any (bars_row r k) d.rows.items
