-- A tree's records as those of a history.
use Rattle.std.specs.Prelude.{◌≡◌, ℕ, Some, List, IsTrue, slice_get}
use Rattle.rx_event.specs.Kept.{Kept}
use Rattle.rx_event.specs.declared.event.Event.{Event}
use Rattle.rx_event.specs.Tree.{is_open}
use Rattle.rx_event.specs.Marks.{marks_of}
use Rattle.rx_slots.specs.declared.Key.{Key}
use Rattle.rx_slots.specs.Slots.{Slots, find}
use Rattle.rx_tree.specs.declared.node.Node.{Node}

-- the record of an open node: the event that made it, and its marks
pub record IsRecordOf (base : Kept) (h : List Event) (n : ℕ) (node : Node) : Type 0 where
  pub alive : IsTrue (is_open h n)
  pub made : slice_get h n ≡ Some node.made
  pub marks : node.marks ≡ marks_of base h n

-- some key finds the record of the node
pub record HasRecord (nodes : Slots Node) (n : ℕ) : Type 0 where
  pub key : Key
  pub node : Node
  pub numbered : key.number ≡ n
  pub found : find nodes key ≡ Some node

-- there is a record of each open node, and none else
pub record AreRecordsOf (base : Kept) (h : List Event) (nodes : Slots Node) : Type 0 where
  pub each : (key : Key) (node : Node) → find nodes key ≡ Some node → IsRecordOf base h key.number node
  pub every : (n : ℕ) → IsTrue (is_open h n) → HasRecord nodes n
