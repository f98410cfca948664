-- How an engine begins.
use Rattle.std.specs.Prelude.{◌≡◌, ℕ, ◌==◌, [], Option, Some, None, if◌then◌else◌}
use Rattle.rx_event.specs.Kept.{nothing_kept}
use Rattle.rx_register.specs.State.{greatest_limit}
use Rattle.rx_engine.specs.States.{State}
use Rattle.rx_engine.specs.Rooms.{name_count}
use Rattle.rx_cellar.specs.Cellars.{few_events}

-- the limit on the events of its book, and where it makes a checkpoint first: 0 lets it choose
abbrev pub limit_of : ℕ → ℕ
limit_of max_events = if max_events == 0 then greatest_limit else max_events

abbrev pub first_until : ℕ → Option ℕ
first_until max_events = if max_events == 0 then Some few_events else None

-- nothing is in it
pub record IsFresh (limit : ℕ) (s : State) : Type 0 where
  pub book : s.book ≡ record {
    base = nothing_kept;
    history = [];
    limit = limit;
    keys = [];
    res_keys = [];
    lease_keys = [];
    held = [];
    waiting = [];
    given = 0;
    closed = [];
  }
  pub lanes : s.parts.lanes.places ≡ []
  pub names : name_count s.parts ≡ 0
  pub shares : s.parts.shares.list ≡ []
  pub hubs : s.parts.shares.hubs ≡ []
  pub copies : s.parts.copies ≡ 0
  pub wishes : s.wishes.roles.list ≡ []
  pub closings : s.wishes.closings ≡ []
