-- The events that a call of the book adds before those that they force.
use Rattle.std.specs.Prelude.{◌∷◌}
use Rattle.rx_event.specs.Imports.{ℕ, ℤ, List, [], length, map, Terminal, Error, Place, Kind, Pass, Mode, Event, Open, Hub, Connect, Accept, Use, Remove}
use Rattle.rx_event.specs.Imports.{Lease, Return, Item, Decline, End, Close, Take}
use Rattle.rx_event.specs.Kept.{Kept}
use Rattle.rx_event.specs.Tree.{open_connections}
use Rattle.rx_event.specs.Lawful.{IsStep}

-- what a caller asks for, with numbers in place of keys
pub data Call : Type 0 where
  Opening : Place → Kind → Call
  OpeningUsing : Place → (tag : ℕ) → Call
  Holding : (node tag : ℕ) → Call
  Applying : (resource : ℕ) → Call
  Removing : (resource : ℕ) → Call
  Leasing : (resource : ℕ) → Call
  GivingBack : (lease : ℕ) → Call
  Emitting : (leaf : ℕ) → (value : ℤ) → Call
  Ending : (leaf : ℕ) → Terminal → Call
  Aborting : (node code : ℕ) → Call
  Declining : (merging : ℕ) → Call
  Failing : (merging code : ℕ) → Call
  Disposing : (root : ℕ) → Call
  Publishing : Mode → Call
  Connecting : (hub : ℕ) → Call
  Disconnecting : (hub : ℕ) → Call
  Taking : (resource : ℕ) → Call

abbrev pub outside_of : List Event → Call → List Event
outside_of h (Opening place kind) = Open place kind ∷ []
outside_of h (OpeningUsing place tag) = Open place Pass ∷ Accept (length h) tag ∷ []
outside_of h (Holding node tag) = Accept node tag ∷ []
outside_of h (Applying r) = Use r ∷ []
outside_of h (Removing r) = Remove r ∷ []
outside_of h (Leasing r) = Lease r ∷ []
outside_of h (GivingBack l) = Return l ∷ []
outside_of h (Emitting leaf value) = Item leaf value ∷ []
outside_of h (Ending leaf t) = End leaf t ∷ []
outside_of h (Aborting n code) = End n (Error code) ∷ []
outside_of h (Declining f) = Decline f ∷ []
outside_of h (Failing f code) = End f (Error code) ∷ []
outside_of h (Disposing root) = Close root ∷ []
outside_of h (Publishing mode) = Hub mode ∷ []
outside_of h (Connecting g) = Connect g ∷ []
-- a hub has one open connection at most
outside_of h (Disconnecting g) = map (λ c. Close c) (open_connections h g)
outside_of h (Taking r) = Take r ∷ []

-- the call took h to k
abbrev pub IsStepOf : Kept → List Event → Call → List Event → Type 0
IsStepOf b h call k = IsStep b h (outside_of h call) k
