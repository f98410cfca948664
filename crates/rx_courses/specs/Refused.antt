-- A refused command leaves what may happen next as it was.
use Rattle.std.specs.Prelude.{◌≡◌, ℕ, Bool, Option}
use Rattle.rx_resource.specs.declared.Resource.{Ghosts}
use Rattle.rx_resource.specs.declared.token.Token.{Token}
use Rattle.rx_lanes.specs.declared.names.LaneName.{LaneName}
use Rattle.rx_lanes.specs.State.{KeepsLanes}
use Rattle.rx_roles.specs.declared.effect.Effect.{Effect}
use Rattle.rx_engine.specs.declared.parts.Parts.{Parts}
use Rattle.rx_engine.specs.States.{State, IsSeenAs}
use Rattle.rx_engine.specs.Servings.{IsTake, IsGiveUp}
use Rattle.rx_courses.specs.Courses.{IsCommand, effects_of}

-- the same but for room
pub record ArePartsAlike (p q : Parts) : Type 0 where
  pub homes : q.homes.list ≡ p.homes.list
  pub hears : q.hears.list ≡ p.hears.list
  pub merges : q.merges.list ≡ p.merges.list
  pub holds : q.holds.list ≡ p.holds.list
  pub effects : q.effects.list ≡ p.effects.list
  pub shares : q.shares.list ≡ p.shares.list
  pub hubs : q.shares.hubs ≡ p.shares.hubs
  pub lanes : KeepsLanes p.lanes q.lanes
  pub copies : q.copies ≡ p.copies

pub record AreStatesAlike (s t : State) : Type 0 where
  pub book : t.book ≡ s.book
  pub parts : ArePartsAlike s.parts t.parts
  pub wishes : t.wishes.roles.list ≡ s.wishes.roles.list
  pub closings : t.wishes.closings ≡ s.wishes.closings

-- whatever may follow t may follow s: a command with the same effects, and what those do who serve lanes, with the same
-- answer; and what comes of it differs in room alone
pub record FollowsAlike (g : Ghosts Token) (s t : State) : Type 0 where
  pub commands : (u : State) (c : IsCommand g t u) →
      (v : State) × (d : IsCommand g s v) × AreStatesAlike v u × (effects_of d ≡ effects_of c)
  pub takes : (name : LaneName) (inside : Bool) (by : ℕ) (u : State) (answer : Option Effect) →
      IsTake name inside by t u answer → (v : State) × IsTake name inside by s v answer × AreStatesAlike v u
  pub gives_up : (name : LaneName) (by : ℕ) (undone : Option Effect) (u : State) (answer : Option Bool) →
      IsGiveUp name by undone t u answer → (v : State) × IsGiveUp name by undone s v answer × AreStatesAlike v u

-- refused is unchanged: a command that is refused leaves a state that is seen as the one before it, and whatever may follow one of these may
-- follow the other
abbrev pub RefusedIsUnchanged : Ghosts Token → Type 0
RefusedIsUnchanged g = (s t : State) → IsSeenAs s t → FollowsAlike g s t × FollowsAlike g t s
