-- Room that is kept, so that what a call forces, and closing everything, need no new memory.
use Rattle.std.specs.Prelude.{◌≡◌, ℕ, ◌+◌, ◌*◌, ◌≤◌, List, [], length}
use Rattle.rx_event.specs.Kept.{Kept}
use Rattle.rx_event.specs.Notes.{notes, mail_of}
use Rattle.rx_event.specs.Totals.{debt, open_count}
use Rattle.rx_event.specs.Forced.{MayWait}
use Rattle.rx_event.specs.Calls.{Call, Opening}
use Rattle.rx_event.specs.Calls.{OpeningUsing, Emitting, Connecting}
use Rattle.rx_event.specs.Causes.{nodes_opened, added_by}
use Rattle.rx_event.specs.declared.event.Event.{Event}
use Rattle.rx_event.specs.declared.event.Event.TheVariants.{Item}
use Rattle.rx_register.specs.State.{State}

-- there is room for the connection that may be forced (its event, and one for its end), for the events that closing everything
-- may need, and for a note of each node that ends with it
pub record IsPaid (s : State) : Type 0 where
  pub waits : ℕ
  pub may_wait : MayWait s.history waits
  pub events : debt s.base s.history + 2 * waits ≤ s.room
  pub notes : open_count s.history + waits ≤ s.mail_room
  pub pending : s.pending ≡ []

-- the notes that a call adds, and with them the room for one of each node that it makes
abbrev pub notes_added : List Event → Call → ℕ
notes_added h (Opening place kind) = nodes_opened h kind
notes_added h (OpeningUsing place tag) = 1
notes_added h (Emitting leaf value) = length (mail_of h (Item leaf value))
notes_added h (Connecting hub) = 1
notes_added h _ = 0

-- there is room for the call, and for closing everything after it
pub record HasRoomFor (s : State) (call : Call) : Type 0 where
  pub events : debt s.base s.history + added_by s.history call ≤ s.room
  pub notes : open_count s.history + notes_added s.history call ≤ s.mail_room

-- what was added from h to k, with what closing everything may need, is no more than so many events and so many notes
pub record Fits (base : Kept) (h k : List Event) (events_added notes_more : ℕ) : Type 0 where
  pub waits : ℕ
  pub may_wait : MayWait k waits
  pub events : length k + debt base k + 2 * waits ≤ length h + debt base h + events_added
  pub told : length (notes k) + open_count k + waits ≤ length (notes h) + open_count h + notes_more
