-- What is asked of a book, and which causes stand against it.
use Rattle.std.specs.Prelude.{ℕ, ℤ, Bool, true, false, ◌&&◌, ◌==◌, List}
use Rattle.rx_resource.specs.declared.Resource.{Ghosts}
use Rattle.rx_resource.specs.declared.Life.{Life}
use Rattle.rx_resource.specs.declared.Life.TheVariants.{Live, Released}
use Rattle.rx_note.specs.declared.note.Terminal.{Terminal}
use Rattle.rx_event.specs.declared.event.Place.{Place}
use Rattle.rx_event.specs.declared.event.Place.TheVariants.{Root, Source, Inner, Notifier}
use Rattle.rx_event.specs.declared.event.Kind.{Kind}
use Rattle.rx_event.specs.declared.event.Mode.{Mode}
use Rattle.rx_event.specs.declared.refusal.Refusal.{Refusal}
use Rattle.rx_event.specs.Calls.{Call, Opening, OpeningUsing, Holding, Applying, Removing, Leasing, GivingBack, Emitting, Ending, Aborting, Declining}
use Rattle.rx_event.specs.Calls.{Failing, Disposing, Publishing, Connecting, Disconnecting, Taking}
use Rattle.rx_event.specs.Causes.{causes, by_key_of}
use Rattle.rx_slots.specs.declared.Key.{Key}
use Rattle.rx_tree.specs.declared.node.ResKey.{ResKey}
use Rattle.rx_ground.specs.declared.leases.LeaseKey.{LeaseKey}
use Rattle.rx_book.specs.declared.answer.At.{At}
use Rattle.rx_book.specs.declared.answer.At.TheVariants.{Root as AtRoot, Source as AtSource, Inner as AtInner, Notifier as AtNotifier}
use Rattle.rx_book.specs.State.{State, has_key, has_res_key, has_lease_key}

-- a call with numbers in place of keys, whether its key is that of an open node, a held resource or a lease that is out (true where it
-- has none), and whether the resource that is handed in is live and was never used (true where there is none)
pub record Request : Type 0 where
  pub call : Call
  pub is_known : Bool
  pub is_fresh : Bool

-- causes ------------------------------------------------------------------------------------------

-- the causes that stand in this state against what is asked
abbrev pub stands : State → Request → Refusal → Bool
stands s asked = by_key_of asked.call asked.is_known (causes s.base s.history s.limit asked.is_fresh asked.call)

-- requests ----------------------------------------------------------------------------------------

-- the place that a caller names by keys
abbrev pub place_of : At → Place
place_of AtRoot = Root
place_of (AtSource k) = Source k.number
place_of (AtInner k) = Inner k.number
place_of (AtNotifier k) = Notifier k.number

-- its key, if it has one, is an open node's
abbrev pub is_known_place : List Key → At → Bool
is_known_place keys AtRoot = true
is_known_place keys (AtSource k) = has_key keys k
is_known_place keys (AtInner k) = has_key keys k
is_known_place keys (AtNotifier k) = has_key keys k

abbrev pub is_live : Life → Bool
is_live Live = true
is_live Released = false

abbrev pub node_request : State → Key → Call → Request
node_request s k call = record { call = call; is_known = has_key s.keys k; is_fresh = true }

abbrev pub res_request : State → ResKey → Call → Request
res_request s k call = record { call = call; is_known = has_res_key s.res_keys k; is_fresh = true }

abbrev pub open_request : State → At → Kind → Request
open_request s at kind = record { call = Opening (place_of at) kind; is_known = is_known_place s.keys at; is_fresh = true }

abbrev pub apply_request : State → ResKey → Request
apply_request s res = res_request s res (Applying res.number)

abbrev pub remove_request : State → ResKey → Request
remove_request s res = res_request s res (Removing res.number)

abbrev pub lease_request : State → ResKey → Request
lease_request s res = res_request s res (Leasing res.number)

abbrev pub give_back_request : State → LeaseKey → Request
give_back_request s lease = record { call = GivingBack lease.number; is_known = has_lease_key s.lease_keys lease; is_fresh = true }

abbrev pub next_request : State → Key → ℤ → Request
next_request s leaf value = node_request s leaf (Emitting leaf.number value)

abbrev pub end_request : State → Key → Terminal → Request
end_request s leaf terminal = node_request s leaf (Ending leaf.number terminal)

abbrev pub abort_request : State → Key → ℕ → Request
abort_request s node code = node_request s node (Aborting node.number code)

abbrev pub decline_request : State → Key → Request
decline_request s merging = node_request s merging (Declining merging.number)

abbrev pub fail_request : State → Key → ℕ → Request
fail_request s merging code = node_request s merging (Failing merging.number code)

abbrev pub dispose_request : State → Key → Request
dispose_request s root = node_request s root (Disposing root.number)

abbrev pub hub_request : Mode → Request
hub_request mode = record { call = Publishing mode; is_known = true; is_fresh = true }

abbrev pub connect_request : (hub : ℕ) → Request
connect_request hub = record { call = Connecting hub; is_known = true; is_fresh = true }

abbrev pub disconnect_request : (hub : ℕ) → Request
disconnect_request hub = record { call = Disconnecting hub; is_known = true; is_fresh = true }

-- the taking of the resource of this number
abbrev pub take_request : ℕ → Request
take_request number = record { call = Taking number; is_known = true; is_fresh = true }

module _ {T : Type 0} where
  -- neither released nor used
  abbrev pub is_fresh_in : Ghosts T → T → Bool
  is_fresh_in g x = is_live (g.life_of x) && g.uses_of x == 0

  abbrev pub using_request : Ghosts T → State → At → T → Request
  using_request g s at x = record { call = OpeningUsing (place_of at) (g.tag_of x); is_known = is_known_place s.keys at; is_fresh = is_fresh_in g x }

  abbrev pub hold_request : Ghosts T → State → Key → T → Request
  hold_request g s node x = record { call = Holding node.number (g.tag_of x); is_known = has_key s.keys node; is_fresh = is_fresh_in g x }
