-- An effect that the face puts itself.
use Rattle.std.specs.Prelude.{◌≡◌, ℕ, true, false, [], ◌∷◌, Some, Result, IfErr, OnOk, OnErr, ◌⊎◌}
use Rattle.rx_event.specs.declared.refusal.Refusal.{Refusal}
use Rattle.rx_event.specs.declared.refusal.Refusal.TheVariants.{Gone, NoMemory}
use Rattle.rx_lanes.specs.declared.names.LaneName.{LaneName}
use Rattle.rx_lanes.specs.State.{State as LanesState}
use Rattle.rx_roles.specs.declared.effect.Effect.{Effect}
use Rattle.rx_roles.specs.declared.effect.What.TheVariants.{Put}
use Rattle.rx_engine.specs.declared.parts.Parts.{Parts}
use Rattle.rx_engine.specs.declared.homes.LaneOf.{LaneOf}
use Rattle.rx_engine.specs.Deliveries.{Delivers, settled}
use Rattle.rx_engine.specs.Homes.{lane_of, is_there}
use Rattle.rx_engine.specs.States.{State, IsSeenAs}

-- what is put
abbrev pub own : LaneName → (user value by : ℕ) → Effect
own name user value by = record { lane = name; user = user; value = value; by = by; what = Put }

-- it stands in this lane, which is due, it alone carries the value, and nothing else changed but room
pub record PutsOwn (name : LaneName) (user value by : ℕ) (p q : Parts) : Type 0 where
  pub put : LanesState Effect
  pub delivers : Delivers by p.lanes (own name user value by ∷ []) put
  pub lanes : q.lanes ≡ settled by put
  pub copies : q.copies ≡ 1
  pub homes : q.homes.list ≡ p.homes.list
  pub hears : q.hears.list ≡ p.hears.list
  pub merges : q.merges.list ≡ p.merges.list
  pub holds : q.holds.list ≡ p.holds.list
  pub shares : q.shares.list ≡ p.shares.list
  pub hubs : q.shares.hubs ≡ p.shares.hubs

-- and no node was closed
pub record IsPutDone (to : LaneOf) (user value by : ℕ) (s t : State) : Type 0 where
  pub name : LaneName
  pub lane_is : lane_of s to ≡ Some name
  pub puts : PutsOwn name user value by s.parts t.parts
  pub book : t.book ≡ s.book
  pub wishes : t.wishes.roles.list ≡ s.wishes.roles.list
  pub closings : t.wishes.closings ≡ []

-- done; or refused, where the node is not open, or projects nothing, or else for want of memory, and nothing changed
-- but room
pub record IsPutMade {A : Type 0} (to : LaneOf) (user value by : ℕ) (s t : State) (answer : Result A Refusal) : Type
    0 where
  pub done : OnOk answer (IsPutDone to user value by s t)
  pub refused : IfErr answer (λ why. ((is_there s.book to ≡ false) × (why ≡ Gone)) ⊎
      ((is_there s.book to ≡ true) × (why ≡ NoMemory)))
  pub kept : OnErr answer (IsSeenAs s t)
