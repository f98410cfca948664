-- The plain commands: each is one event of its caller, which makes no node and accepts or takes no resource.
use Rattle.std.specs.Prelude.{ℕ, ℤ}
use Rattle.rx_note.specs.declared.note.Terminal.{Terminal}
use Rattle.rx_event.specs.declared.event.Mode.{Mode}
use Rattle.rx_slots.specs.declared.Key.{Key}
use Rattle.rx_tree.specs.declared.node.ResKey.{ResKey}
use Rattle.rx_ground.specs.declared.leases.LeaseKey.{LeaseKey}
use Rattle.rx_book.specs.State.{State as BookState}
use Rattle.rx_book.specs.Requests.{Request, next_request, end_request, abort_request, decline_request, fail_request, dispose_request}
use Rattle.rx_book.specs.Requests.{apply_request, remove_request, lease_request, give_back_request, hub_request, disconnect_request}

-- what is asked
pub data IsPlain (s : BookState) : Request → Type 0 where
  emits : (leaf : Key) (value : ℤ) → IsPlain s (next_request s leaf value)
  ends : (leaf : Key) (terminal : Terminal) → IsPlain s (end_request s leaf terminal)
  aborts : (node : Key) (code : ℕ) → IsPlain s (abort_request s node code)
  declines : (merging : Key) → IsPlain s (decline_request s merging)
  fails : (merging : Key) (code : ℕ) → IsPlain s (fail_request s merging code)
  disposes : (root : Key) → IsPlain s (dispose_request s root)
  applies : (res : ResKey) → IsPlain s (apply_request s res)
  removes : (res : ResKey) → IsPlain s (remove_request s res)
  leases : (res : ResKey) → IsPlain s (lease_request s res)
  gives_back : (lease : LeaseKey) → IsPlain s (give_back_request s lease)
  publishes : (mode : Mode) → IsPlain s (hub_request mode)
  disconnects : (hub : ℕ) → IsPlain s (disconnect_request hub)
