-- An effect that is handed out: of a lane that is claimed for it, or by a take.
use Rattle.std.specs.Prelude.{◌≡◌, ℕ, Bool, true, false, [], ◌∷◌, Option, Some, None}
use Rattle.rx_lanes.specs.declared.names.LaneName.{LaneName}
use Rattle.rx_lanes.specs.Lane.{Lane, is_idle, claimed, taken, kept}
use Rattle.rx_lanes.specs.State.{State, lane, Turns}

module _ {E : Type 0} where
  -- a lane with nothing in it, that nobody served, is served, and alone is due; no lane got something before
  pub record ClaimsAlone (name : LaneName) (by : ℕ) (s t : State E) : Type 0 where
    pub before : Lane E
    pub was : lane s name ≡ Some before
    pub idle : is_idle before ≡ true
    pub none_fresh : s.fresh ≡ []
    pub claims : Turns s (record t { due = s.due }) name (Some (claimed by before))
    pub due : t.due ≡ record { lane = name; inside = false } ∷ []

  -- the first effect that this word may take of a lane; an old name takes nothing
  pub record IsGiven (name : LaneName) (inside : Bool) (by : ℕ) (s t : State E) (answer : Option E) : Type 0 where
    pub result : (l : Lane E) → lane s name ≡ Some l → answer ≡ (taken by inside l).effect
    pub takes : (l : Lane E) → lane s name ≡ Some l → Turns s t name (kept (taken by inside l).lane)
    pub absent : lane s name ≡ None → answer ≡ None
    pub gone : lane s name ≡ None → t ≡ s
