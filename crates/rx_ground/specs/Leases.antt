-- What a contract says of the leases that are out: slots in which the key of each finds the key of its resource.
use Rattle.std.specs.Prelude.{Bool, is_some, IsSome}
use Rattle.rx_event.specs.declared.base.BaseLease.{BaseLease}
use Rattle.rx_slots.specs.declared.Entry.{Entry}
use Rattle.rx_slots.specs.declared.Key.{Key}
use Rattle.rx_slots.specs.Slots.{Slots, find}
use Rattle.rx_tree.specs.declared.node.ResKey.{ResKey}
use Rattle.rx_ground.specs.declared.leases.LeaseKey.{LeaseKey}

-- a lease's key as a key of the store
abbrev pub lease_key : LeaseKey → Key
lease_key lease = record { slot = lease.slot; number = lease.number }

-- a lease is out under this key
abbrev pub IsOut : Slots ResKey → Key → Type 0
IsOut leases key = IsSome (find leases key)

abbrev pub is_out_at : Slots ResKey → LeaseKey → Bool
is_out_at leases lease = is_some (find leases (lease_key lease))

-- what a checkpoint keeps of a lease: its number, and that of its resource
abbrev pub lease_as_kept : Entry ResKey → BaseLease
lease_as_kept e = record { number = e.number; resource = e.value.number }
