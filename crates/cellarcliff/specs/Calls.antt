-- A call on what a handle keeps.
use Rattle.std.specs.Prelude.{◌≡◌, ℕ, ◌==◌, true, false, List, Option, Some, None, if◌then◌else◌}
use Rattle.rx_engine.specs.States.{IsPromised}
use Rattle.rx_engine.specs.LettingGo.{is_over}
use Rattle.rx_cellar.specs.declared.cellar.Cellar.{Cellar}
use Rattle.rx_cellar.specs.declared.reading.Totals.{Totals}
use Rattle.rx_cellar.specs.declared.reading.Event.{Event}
use Rattle.rx_cellar.specs.Beginnings.{IsFresh, limit_of, first_until}
use Rattle.rx_cellar.specs.Readings.{totals_of, IsEventTold}
use Rattle.rx_turns.specs.declared.agenda.Turn.{Turn}
use Rattle.rx_turns.specs.declared.turns.Turns.{Turns}
use Rattle.rx_turns.specs.Agendas.{HasNothing}
use Rattle.rx_turns.specs.States.{turn_state}

-- a call that changes nothing of what the handle keeps; where it keeps none nothing is told
pub data IsLooked (Says : Cellar → ℕ → Type 0) (IsBlank : Type 0) (old new : Option Turns) (status : ℕ) : Type 0 where
  looks : {s : Turns} → old ≡ Some s → new ≡ Some s → Says s.cellar status → IsLooked Says IsBlank old new status
  looks_at_none : old ≡ None → new ≡ None → IsBlank → status ≡ 1 → IsLooked Says IsBlank old new status

-- the size of a struct of the header
abbrev pub size_of : ℕ → ℕ
size_of which = if which == 0 then 8 else if which == 1 then 64 else if which == 3 then 32 else if which == 4 then 64 else if which == 5 then 32
    else if which == 6 then 24 else if which == 7 then 192 else 0

-- a new engine, in which nothing is: nothing is due to anybody, and no ticket was given
pub record IsNew (max_events : ℕ) (s : Turns) : Type 0 where
  pub engine : IsFresh (limit_of max_events) s.cellar.engine
  pub released : s.cellar.released ≡ 0
  pub at : s.cellar.at ≡ 0
  pub until : s.cellar.until ≡ first_until max_events
  pub nothing : (turn : Turn) → HasNothing (turn_state s).agenda turn
  pub tickets : s.tickets ≡ 0
  pub astray : s.astray ≡ None

pub data IsMade (max_events : ℕ) (old new : Option Turns) (status : ℕ) : Type 0 where
  makes : {s : Turns} → old ≡ None → new ≡ Some s → IsNew max_events s → IsPromised s.cellar.engine → status ≡ 0 → IsMade max_events old new status
  is_starved : old ≡ None → new ≡ None → status ≡ 4 → IsMade max_events old new status
  is_held : {s : Turns} → old ≡ Some s → new ≡ old → status ≡ 3 → IsMade max_events old new status

-- freed where nothing is left; else nothing was done
pub data IsFinished (old new : Option Turns) (status : ℕ) : Type 0 where
  finishes : {s : Turns} → old ≡ Some s → new ≡ None → is_over s.cellar.engine ≡ true → status ≡ 0 → IsFinished old new status
  is_untaken : {s : Turns} → old ≡ Some s → new ≡ old → is_over s.cellar.engine ≡ false → status ≡ 6 → IsFinished old new status
  is_absent : old ≡ None → new ≡ None → status ≡ 1 → IsFinished old new status

pub record IsNoRest (words words' : List ℕ) (count : ℕ) : Type 0 where
  pub kept : words' ≡ words
  pub none : count ≡ 0

pub record IsTotalled (s : Cellar) (totals : Totals) (status : ℕ) : Type 0 where
  pub told : totals ≡ totals_of s
  pub done : status ≡ 0

abbrev pub IsEventAnswered : (place : ℕ) → Cellar → Event → (status : ℕ) → Type 0
IsEventAnswered place s event status = IsEventTold place s event status
