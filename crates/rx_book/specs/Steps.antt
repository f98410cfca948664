-- When a call is let in, and what it writes before what that forces. No public clause cites this module.
use Rattle.std.specs.Prelude.{◌≡◌, ◌+◌, ◌≤◌, Option, None, length, IfSome, []}
use Rattle.rx_resource.specs.declared.Resource.{Ghosts}
use Rattle.rx_event.specs.declared.refusal.Refusal.{Refusal}
use Rattle.rx_event.specs.Calls.{Call, outside_of}
use Rattle.rx_event.specs.Refusals.{first_cause}
use Rattle.rx_event.specs.Totals.{debt}
use Rattle.rx_register.specs.State.{IsPromised}
use Rattle.rx_register.specs.Paid.{HasRoomFor}
use Rattle.rx_register.specs.Claims.{MayCall}
use Rattle.rx_ground.specs.declared.base.Wanted.{Wanted}
use Rattle.rx_ground.specs.Costs.{cost_of, most_notes}
use Rattle.rx_ground.specs.Shown.{Ground}
use Rattle.rx_ground.specs.Ties.{IsStanding, IsRoomier, HasRoomBeside}
use Rattle.rx_ground.specs.Wrote.{Wrote}
use Rattle.rx_book.specs.Requests.{Request, stands}
use Rattle.rx_book.specs.Shown.{state_of}

module _ {T : Type 0} where
  -- what a call costs is within the limit on the events, and its notes are few
  pub record IsWithin (b : Ground T) (cost : Wanted) : Type 0 where
    pub events : length b.register.history + debt b.register.base b.register.history + cost.events ≤ b.register.base.at_length + b.register.limit
    pub notes : cost.notes ≤ most_notes

  -- nothing stood against a call, the room that it costs was gotten, the list of what is closed was begun, and nothing else changed
  pub record Admits (g : Ghosts T) (old : Ground T) (cause : Option Refusal) (cost : Option Wanted) (new : Ground T) : Type 0 where
    pub none : cause ≡ None
    pub standing : IsStanding g new
    pub promised : IsPromised new.register
    pub roomier : IsRoomier (record old { closed = [] }) new
    pub has : IfSome cost (HasRoomBeside new)

  -- nothing stands against what is asked, there is room for it, and the list of what is closed was begun
  pub record IsLetIn (g : Ghosts T) (b : Ground T) (asked : Request) : Type 0 where
    pub standing : IsStanding g b
    pub none : first_cause (stands (state_of g b) asked) ≡ None
    pub may : MayCall b.register.base b.register.history b.register.limit asked.is_fresh asked.call
    pub has : HasRoomFor b.register asked.call
    pub begun : b.closed ≡ []

  -- it is let in, and the room that it costs was gotten
  pub record IsAdmitted (g : Ghosts T) (b : Ground T) (asked : Request) : Type 0 where
    pub let_in : IsLetIn g b asked
    pub room : HasRoomBeside b (cost_of b.register.history asked.call)

  -- the call's events are written
  abbrev pub IsWritten : Ghosts T → Ground T → Call → Ground T → Type 0
  IsWritten g old call new = Wrote g old (outside_of old.register.history call) new
