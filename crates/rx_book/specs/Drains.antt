-- Taking what waits, one resource after another.
use Rattle.std.specs.Prelude.{◌≡◌, ℕ, List, []}
use Rattle.rx_event.specs.Kept.{Kept}
use Rattle.rx_event.specs.declared.event.Event.{Event}
use Rattle.rx_event.specs.Resources.{waiting_resources}
use Rattle.rx_event.specs.Calls.{Taking, IsStepOf}

-- from h one resource after another is taken
pub data Takes (base : Kept) (h : List Event) : List Event → Type 0 where
  none_taken : Takes base h h
  next_taken : {m k : List Event} {r : ℕ} → Takes base h m → IsStepOf base m (Taking r) k → Takes base h k

-- until nothing waits
pub record Drains (base : Kept) (h k : List Event) : Type 0 where
  pub takes : Takes base h k
  pub none_waits : waiting_resources k ≡ []
