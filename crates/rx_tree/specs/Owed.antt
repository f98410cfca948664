-- What the marks of all open nodes owe together: the projected items that have neither got an inner observable nor
-- been declined (the FlatMap and Switch pages: each item of the source becomes an observable).
use Rattle.std.specs.Prelude.{ℕ, Option}
use Rattle.std.specs.List.{sum_by}
use Rattle.std.specs.Option.{option_map_or}
use Rattle.rx_slots.specs.declared.Entry.{Entry}
use Rattle.rx_slots.specs.Slots.{Slots}
use Rattle.rx_tree.specs.declared.node.Node.{Node}

-- what the node at a slot owes, if one stands there
abbrev pub owed_by : Option (Entry Node) → ℕ
owed_by entry = option_map_or (λ e. e.value.marks.owed) entry 0

-- and what all of them owe
abbrev pub owed_in : Slots Node → ℕ
owed_in nodes = sum_by owed_by nodes.entries
