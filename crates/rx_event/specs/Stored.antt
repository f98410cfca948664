-- What a stored history is.
use Rattle.rx_event.specs.Imports.{ℕ, List, Event}
use Rattle.rx_event.specs.Kept.{Kept}

-- what it begins with; all events as one list, which begins with what that shows; how many there may be since; and how many more
-- can be added without new memory
pub record Stored : Type 0 where
  pub base : Kept
  pub events : List Event
  pub limit : ℕ
  pub room : ℕ
