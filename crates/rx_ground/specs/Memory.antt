-- What a call that takes no memory leaves of the room.
use Rattle.std.specs.Prelude.{◌≡◌, ◌+◌, ◌≤◌, length}
use Rattle.rx_event.specs.Notes.{notes}
use Rattle.rx_ground.specs.Shown.{Ground}

-- the room for events, notes, nodes, resources, hubs and closings fell by just what came, and rose by just what went; the slots at
-- which subscribers may stand are those before
pub record TakesNoMemory {T : Type 0} (old new : Ground T) : Type 0 where
  pub events : length new.register.history + new.register.room ≡ length old.register.history + old.register.room
  pub notes : length (notes new.register.history) + new.register.mail_room ≡ length (notes old.register.history) + old.register.mail_room
  pub nodes : new.tree.nodes.count + new.tree.nodes.room ≡ old.tree.nodes.count + old.tree.nodes.room
  pub resources : new.tree.resources.count + new.tree.resources.room ≡ old.tree.resources.count + old.tree.resources.room
  pub hubs : length new.hubs.hubs + new.hubs.room ≡ length old.hubs.hubs + old.hubs.room
  pub slots : new.hubs.slots ≡ old.hubs.slots
  pub closing : new.tree.nodes.count + new.space ≡ old.tree.nodes.count + old.space

-- an opening took one place of the nodes at most, and one of the list of what is closed and the nodes together
pub record TakesOneNode {T : Type 0} (old new : Ground T) : Type 0 where
  pub room : old.tree.nodes.room ≤ new.tree.nodes.room + 1
  pub listed : length new.closed + new.tree.nodes.count ≡ length old.closed + old.tree.nodes.count + 1

-- there is no room for events, nodes, resources, leases, hubs and closings
pub record HasNoRoom {T : Type 0} (b : Ground T) : Type 0 where
  pub events : b.register.room ≡ 0
  pub nodes : b.tree.nodes.room ≡ 0
  pub resources : b.tree.resources.room ≡ 0
  pub leases : b.leases.room ≡ 0
  pub hubs : b.hubs.room ≡ 0
  pub closing : b.space ≡ 0
