-- Serving a lane: taking of it and giving it up. Nothing but lanes changes.
use Rattle.std.specs.Prelude.{◌≡◌, ℕ, Bool, Option, Some, None}
use Rattle.rx_lanes.specs.declared.names.LaneName.{LaneName}
use Rattle.rx_lanes.specs.Lane.{Lane, taken, kept, left_by, given_up}
use Rattle.rx_lanes.specs.State.{lane, Turns}
use Rattle.rx_roles.specs.declared.effect.Effect.{Effect}
use Rattle.rx_engine.specs.States.{State, IsLanesOnly}

-- the first effect that this word may take; an old name takes nothing
pub record IsTake (name : LaneName) (inside : Bool) (by : ℕ) (s t : State) (answer : Option Effect) : Type 0 where
  pub result : (l : Lane Effect) → lane s.parts.lanes name ≡ Some l → answer ≡ (taken by inside l).effect
  pub takes : (l : Lane Effect) → lane s.parts.lanes name ≡ Some l →
      Turns s.parts.lanes t.parts.lanes name (kept (taken by inside l).lane)
  pub absent : lane s.parts.lanes name ≡ None → answer ≡ None
  pub gone : lane s.parts.lanes name ≡ None → t ≡ s
  pub same : IsLanesOnly s t

-- others may serve it from now on, and find first what was taken and not done; and whether something is left in it,
-- where this word served it
pub record IsGiveUp (name : LaneName) (by : ℕ) (undone : Option Effect) (s t : State) (answer : Option Bool) : Type
    0 where
  pub result : (l : Lane Effect) → lane s.parts.lanes name ≡ Some l → answer ≡ left_by by undone l
  pub gives_up : (l : Lane Effect) → lane s.parts.lanes name ≡ Some l →
      Turns s.parts.lanes t.parts.lanes name (kept (given_up by undone l))
  pub absent : lane s.parts.lanes name ≡ None → answer ≡ None
  pub gone : lane s.parts.lanes name ≡ None → t ≡ s
  pub same : IsLanesOnly s t
