-- What holds before and after each write, and what a write does: one predicate for each.
use Rattle.std.specs.Prelude.{◌≡◌, ℕ, ◌+◌, ◌<◌, ◌≤◌, List, Option, length, IsSome}
use Rattle.rx_resource.specs.declared.Resource.{Ghosts}
use Rattle.rx_event.specs.declared.event.Event.{Event}
use Rattle.rx_slots.specs.declared.Key.{Key}
use Rattle.rx_slots.specs.Slots.{find}
use Rattle.rx_tree.specs.Owed.{owed_in}
use Rattle.rx_hub.specs.declared.hub.LastEnd.{LastEnd}
use Rattle.rx_register.specs.State.{Writes}
use Rattle.rx_ground.specs.Gone.{Closes}
use Rattle.rx_ground.specs.Memory.{TakesNoMemory}
use Rattle.rx_ground.specs.Shown.{Ground}
use Rattle.rx_hub.specs.After.{hubs_after}
use Rattle.rx_ground.specs.Ties.{AreTied, AreLeased, Cuts, IsNewNode, KeepsHeld, KeepsLeases, KeepsNodes, KeepsOlder, Moves, left_inside}

module _ {T : Type 0} where
  -- register, tree, hubs and leases are of one history, in which something may still be due
  pub record IsBetween (g : Ghosts T) (b : Ground T) : Type 0 where
    pub tied : AreTied b.register.base g b.register.history b.tree b.hubs
    pub leased : AreLeased b.register.history b.tree.resources b.leases

  -- these events were written, all is of one history again, of what is older only what was there is there, the list went on with
  -- what was closed, and no memory was taken
  pub record Wrote (g : Ghosts T) (old : Ground T) (es : List Event) (new : Ground T) : Type 0 where
    pub written : Writes old.register es new.register
    pub between : IsBetween g new
    pub nodes : (key : Key) → IsSome (find new.tree.nodes key) → key.number < length old.register.history → IsSome (find old.tree.nodes key)
    pub held : KeepsHeld old.tree new.tree (length old.register.history)
    pub leases : KeepsLeases old.leases new.leases (length old.register.history)
    pub closed : Closes old new
    pub memory : TakesNoMemory old new

  -- frames: beside the register only these changed -----------------------------------------------------

  -- the resources
  abbrev pub ChangesResources : (old new : Ground T) → Type 0
  ChangesResources old new = new ≡ record old { register = new.register; tree = record old.tree { resources = new.tree.resources } }

  -- the resources and the leases
  abbrev pub ChangesLeases : (old new : Ground T) → Type 0
  ChangesLeases old new = new ≡ record old { register = new.register; tree = record old.tree { resources = new.tree.resources }; leases = new.leases }

  -- the marks of nodes
  pub record ChangesMarks (old new : Ground T) : Type 0 where
    pub kept : KeepsNodes new.register.history old.tree.nodes new.tree.nodes
    pub resources : new.tree.resources ≡ old.tree.resources
    pub hubs : new.hubs ≡ old.hubs
    pub leases : new.leases ≡ old.leases
    pub closed : new.closed ≡ old.closed

  -- the node of this number and all below it were closed, and left the hubs
  pub record ClosesNodes (old new : Ground T) (top : ℕ) (ended : Option LastEnd) : Type 0 where
    pub kept : KeepsNodes new.register.history old.tree.nodes new.tree.nodes
    pub resources : new.tree.resources ≡ old.tree.resources
    pub hubs : new.hubs ≡ left_inside old.register.history top ended old.hubs
    pub leases : new.leases ≡ old.leases

  -- this event opened the node of this key, and the hubs are those after it
  pub record OpensNode (old new : Ground T) (e : Event) (key : Key) : Type 0 where
    pub is_new : IsNewNode old.tree.nodes new.tree.nodes (length old.register.history) key
    pub resources : new.tree.resources ≡ old.tree.resources
    pub hubs : new.hubs ≡ record old.hubs { hubs = hubs_after old.register.history e key.slot old.hubs.hubs }
    pub leases : new.leases ≡ old.leases

  -- nodes ended or closed, or a connection came, as was forced
  pub record ChangesForced (old new : Ground T) : Type 0 where
    pub nodes : KeepsOlder new.register.history (length old.register.history) old.tree.nodes new.tree.nodes
    pub resources : new.tree.resources ≡ old.tree.resources
    pub hubs : length new.hubs.hubs ≡ length old.hubs.hubs
    pub leases : new.leases ≡ old.leases

  -- steps of a write, before its event is on the register -----------------------------------------------

  -- the node of this number and all below it are out and on the list, and have left the hubs
  pub record IsCut (old new : Ground T) (top : ℕ) (ended : Option LastEnd) : Type 0 where
    pub cuts : Cuts old.tree new.tree top
    pub owed : owed_in new.tree.nodes ≤ owed_in old.tree.nodes
    pub register : new.register ≡ old.register
    pub room : old.tree.nodes.room ≤ new.tree.nodes.room
    pub hubs : new.hubs ≡ left_inside old.register.history top ended old.hubs
    pub leases : new.leases ≡ old.leases
    pub moves : Moves old.tree.nodes top old.closed new.closed
    pub listed : length new.closed + new.tree.nodes.count ≡ length old.closed + old.tree.nodes.count
    pub memory : TakesNoMemory old new
