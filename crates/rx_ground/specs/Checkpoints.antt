-- A checkpoint: what the history leaves stands in its place, and all that is open, held, waiting or out is as before.
use Rattle.std.specs.Prelude.{◌≡◌, map}
use Rattle.rx_event.specs.Totals.{debt}
use Rattle.rx_register.specs.State.{Rebases}
use Rattle.rx_hub.specs.Hubs.{without_end}
use Rattle.rx_ground.specs.Shown.{Ground}

-- there is room for what closing everything may need, and for no event more
pub record IsCheckpoint {T : Type 0} (old new : Ground T) : Type 0 where
  pub register : Rebases old.register new.register (debt old.register.base old.register.history)
  pub tree : new.tree ≡ old.tree
  pub hubs : new.hubs ≡ record old.hubs { hubs = map without_end old.hubs.hubs }
  pub leases : new.leases ≡ old.leases
  pub closed : new.closed ≡ old.closed
  pub space : new.space ≡ old.space
