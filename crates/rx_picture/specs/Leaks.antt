-- Which rows are drawn as leaks, and what leaks of a lawful history.
use Rattle.std.specs.Prelude.{◌≡◌, ◌||◌, ◌==◌}
use Rattle.rx_picture.specs.Imports.{ℕ, Bool, false, List, length, AllByRecursion, Event, is_out, is_held, is_waiting, Shape, Resource, Loan, Row}
use Rattle.rx_picture.specs.Imports.{Drawing}
use Rattle.rx_event.specs.Kept.{nothing_kept}
use Rattle.rx_event.specs.Lawful.{IsLawful}
use Rattle.rx_picture.specs.Rows.{leaks}
use Rattle.rx_picture.specs.Drawn.{IsDrawing}

-- none of so many events hands the resource out, or returns the lease
abbrev pub is_leaking : ℕ → Shape → Bool
is_leaking end (Resource after until taken) = taken == end
is_leaking end (Loan resource until) = until == end
is_leaking end _ = false

abbrev pub is_leaking_row : ℕ → Row → Bool
is_leaking_row end row = is_leaking end row.shape

-- of the rows of a drawing just those of resources that leak, and of leases that are out
abbrev pub LeaksAreDrawn : Type 0
LeaksAreDrawn = (h : List Event) (d : Drawing) → IsDrawing h d
    → AllByRecursion (λ row. is_leaking_row (length h) row ≡ (leaks h row.number || is_out h row.number)) d.rows.items

-- of a lawful history just those resources leak that are held or wait
abbrev pub LeaksAreLeft : Type 0
LeaksAreLeft = (h : List Event) → IsLawful nothing_kept h → (r : ℕ) → leaks h r ≡ (is_held h r || is_waiting h r)
