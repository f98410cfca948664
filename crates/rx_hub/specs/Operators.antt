-- What the operators have to do, by the marks of the records.
use Rattle.std.specs.Prelude.{◌≡◌, false, is_some, if◌then◌else◌, Option, Some, None, List, [], ◌∷◌}
use Rattle.std.specs.Option.{option_and_then}
use Rattle.rx_event.specs.declared.event.Event.{Event}
use Rattle.rx_event.specs.Marks.{due_at, terminal_due}
use Rattle.rx_slots.specs.declared.Key.{Key}
use Rattle.rx_slots.specs.Slots.{Slots, find}
use Rattle.rx_tree.specs.declared.node.Node.{Node}
use Rattle.rx_tree.specs.Tree.{is_on}
use Rattle.rx_hub.specs.declared.operators.Due.{Due}

-- this node has to end so, by the marks of its record
pub record IsDueAt (nodes : Slots Node) (due : Due) : Type 0 where
  pub node : Node
  pub found : find nodes due.node ≡ Some node
  pub gives : terminal_due node.made node.marks ≡ Some due.terminal

-- what the marks of the key's record give
abbrev pub due_of : Slots Node → Key → Option Event
due_of nodes key = option_and_then (λ node. due_at node.made node.marks key.number) (find nodes key)

-- the marks of some record give the event
pub record IsDueIn (nodes : Slots Node) (event : Event) : Type 0 where
  pub key : Key
  pub gives : due_of nodes key ≡ Some event

-- nothing is due at any record
abbrev pub IsQuiet : Slots Node → Type 0
IsQuiet nodes = (key : Key) → due_of nodes key ≡ None

-- nothing is due off the chain
abbrev pub IsChained : Slots Node → List Key → Type 0
IsChained nodes chain = (key : Key) → is_on key chain ≡ false → due_of nodes key ≡ None

-- a chain from the first key on at which something is due
abbrev pub from_due : Slots Node → List Key → List Key
from_due nodes [] = []
from_due nodes (key ∷ keys) = if is_some (due_of nodes key) then key ∷ keys else from_due nodes keys
