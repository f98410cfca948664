-- What a call wants room for, beside what is kept for closing everything: the table of costs, a column each.
use Rattle.std.specs.Prelude.{ℕ, List}
use Rattle.rx_event.specs.declared.event.Event.{Event}
use Rattle.rx_event.specs.Calls.{Call, Opening, OpeningUsing, Holding, Leasing, Publishing, Connecting}
use Rattle.rx_event.specs.Causes.{nodes_opened, added_by}
use Rattle.rx_register.specs.Paid.{notes_added}
use Rattle.rx_ground.specs.declared.base.Wanted.{Wanted}

-- the most notes that a call may want room for: with the open nodes they are counted in 64 bits
abbrev pub most_notes : ℕ
most_notes = 4294967295

-- the nodes that a call makes
abbrev pub nodes_added : List Event → Call → ℕ
nodes_added h (Opening place kind) = nodes_opened h kind
nodes_added h (OpeningUsing place tag) = 1
nodes_added h (Connecting hub) = 1
nodes_added h _ = 0

-- the resources that it accepts
abbrev pub resources_added : Call → ℕ
resources_added (OpeningUsing place tag) = 1
resources_added (Holding node tag) = 1
resources_added _ = 0

-- the hubs that it makes
abbrev pub hubs_added : Call → ℕ
hubs_added (Publishing mode) = 1
hubs_added _ = 0

-- the leases that it gives out
abbrev pub leases_added : Call → ℕ
leases_added (Leasing resource) = 1
leases_added _ = 0

-- its events and notes are counted with what closing everything needs of them then
abbrev pub cost_of : List Event → Call → Wanted
cost_of h call = record {
  events = added_by h call;
  notes = notes_added h call;
  nodes = nodes_added h call;
  resources = resources_added call;
  hubs = hubs_added call;
  leases = leases_added call;
}
