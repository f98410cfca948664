-- So far hubs were made, and nothing else changed but room.
use Rattle.std.proofs.Common.{◌-◌, length}
use Rattle.rx_resource.specs.contracts.token.TokenResource.TheImpl.{ghosts}
use Rattle.rx_pool.specs.Pool.{pool_size}
use Rattle.rx_engine.specs.Hubs.{MakesHubs}
use Rattle.rx_engine.proofs.engine.Engine.make_hubs.Given as goal

abbrev pub invariant-loop-self : goal.invariant-loop-self
invariant-loop-self l = record { makes : MakesHubs ghosts l.by l.initial.self l.self }

abbrev pub decreases-loop-self : goal.decreases-loop-self
decreases-loop-self l = pool_size - length l.self.parts.shares.hubs
