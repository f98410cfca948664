-- What is left once all that was forced was written.
use Rattle.std.specs.Prelude.{◌≡◌, length}
use Rattle.rx_resource.specs.declared.Resource.{Ghosts}
use Rattle.rx_event.specs.Lawful.{IsForcedOn}
use Rattle.rx_ground.specs.Gone.{Closes}
use Rattle.rx_ground.specs.Memory.{TakesNoMemory}
use Rattle.rx_ground.specs.Shown.{Ground}
use Rattle.rx_ground.specs.Ties.{IsStanding, KeepsOlder}

module _ {T : Type 0} where
  -- new is old with what was forced, and nothing is due there
  pub record Settles (g : Ghosts T) (old new : Ground T) : Type 0 where
    pub standing : IsStanding g new
    pub base : new.register.base ≡ old.register.base
    pub forced : IsForcedOn old.register.base old.register.history new.register.history
    pub nodes : KeepsOlder new.register.history (length old.register.history) old.tree.nodes new.tree.nodes
    pub resources : new.tree.resources ≡ old.tree.resources
    pub limit : new.register.limit ≡ old.register.limit
    pub given : new.register.given ≡ old.register.given
    pub hubs : length new.hubs.hubs ≡ length old.hubs.hubs
    pub leases : new.leases ≡ old.leases
    pub closed : Closes old new
    pub memory : TakesNoMemory old new
