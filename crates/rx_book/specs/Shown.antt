-- What callers of a book see of its register, its tree and its leases.
use Rattle.std.specs.Prelude.{List, map}
use Rattle.rx_resource.specs.declared.Resource.{Ghosts}
use Rattle.rx_slots.specs.declared.Key.{Key}
use Rattle.rx_slots.specs.Slots.{Slots}
use Rattle.rx_tree.specs.declared.node.ResKey.{ResKey}
use Rattle.rx_tree.specs.Tree.{Tree}
use Rattle.rx_ground.specs.declared.leases.LeaseKey.{LeaseKey}
use Rattle.rx_ground.specs.Shown.{Ground as Base, kept_in, held_in, waiting_in, label_in}
use Rattle.rx_book.specs.State.{State}

abbrev pub lease_keys_of : Slots ResKey → List LeaseKey
lease_keys_of leases = map (λ k. record { slot = k.key.slot; number = k.key.number }) (kept_in leases)

module _ {T : Type 0} where
  abbrev pub keys_of : Tree T → List Key
  keys_of tree = map (λ k. k.key) (kept_in tree.nodes)

  abbrev pub res_keys_of : Tree T → List ResKey
  res_keys_of tree = map (λ k. record { slot = k.key.slot; number = k.key.number }) (held_in tree)

  -- the state of a book
  abbrev pub state_of : Ghosts T → Base T → State
  state_of g b = record {
    base = b.register.base;
    history = b.register.history;
    limit = b.register.limit;
    keys = keys_of b.tree;
    res_keys = res_keys_of b.tree;
    lease_keys = lease_keys_of b.leases;
    held = map (label_in g) (held_in b.tree);
    waiting = map (label_in g) (waiting_in b.tree);
    given = b.register.given;
    closed = b.closed;
  }
