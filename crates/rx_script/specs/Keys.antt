-- What a report knows of the keys that names stand for.
use Rattle.std.specs.Prelude.{◌<◌, length, IsTrue}
use Rattle.std.specs.List.{Contains}
use Rattle.rx_event.specs.Tree.{is_open}
use Rattle.rx_event.specs.Resources.{is_held, is_out}
use Rattle.rx_slots.specs.declared.Key.{Key}
use Rattle.rx_tree.specs.declared.node.ResKey.{ResKey}
use Rattle.rx_ground.specs.declared.leases.LeaseKey.{LeaseKey}
use Rattle.rx_book.specs.State.{State}
use Rattle.rx_agenda.specs.declared.names.Named.{Named}
use Rattle.rx_agenda.specs.Names.{name_bytes}
use Rattle.rx_agenda.specs.Bindings.{Binding}

abbrev pub node_binding : Named Key → Binding
node_binding n = record { name = name_bytes n; number = n.key.number }

abbrev pub res_binding : Named ResKey → Binding
res_binding n = record { name = name_bytes n; number = n.key.number }

abbrev pub lease_binding : Named LeaseKey → Binding
lease_binding n = record { name = name_bytes n; number = n.key.number }

-- a key that a book gave: it is the key of its node as long as that is open
pub record IsNodeKey (s : State) (k : Key) : Type 0 where
  pub within : k.number < length s.history
  pub found : IsTrue (is_open s.history k.number) → Contains s.keys k

pub record IsHeldKey (s : State) (k : ResKey) : Type 0 where
  pub within : k.number < length s.history
  pub found : IsTrue (is_held s.history k.number) → Contains s.res_keys k

pub record IsLeaseKey (s : State) (k : LeaseKey) : Type 0 where
  pub within : k.number < length s.history
  pub found : IsTrue (is_out s.history k.number) → Contains s.lease_keys k
