-- Where each resource is (Using: it is disposed of when the observer unsubscribes or the observable terminates; Finally).
use Rattle.std.specs.Prelude.{◌+◌, ◌&&◌, ◌||◌}
use Rattle.rx_event.specs.Imports.{ℕ, Bool, false, nat_lt, Option, Some, List, slice_get, filter, count_by, not, list_any, option_and_then}
use Rattle.rx_event.specs.Imports.{option_map_or, Event, Accept}
use Rattle.rx_event.specs.Kept.{Kept, resource_kept}
use Rattle.rx_event.specs.Events.{makes_resource, makes_lease, node_of_accept, is_remove_of, is_lease_of, is_return_of, is_take_of, is_use_of}
use Rattle.rx_event.specs.Tree.{at, is_open, places}

-- owned by its node: that is open, and it was not removed
unfoldable pub is_owned : List Event → ℕ → Bool
is_owned h r = option_map_or (is_open h) (option_and_then node_of_accept (slice_get h r)) false && not (list_any (is_remove_of r) h)

-- a lease that was not returned
unfoldable pub is_out : List Event → ℕ → Bool
is_out h l = at makes_lease h l && not (list_any (is_return_of l) h)

-- the lease is one of r, and out
abbrev pub is_out_of : List Event → ℕ → ℕ → Bool
is_out_of h r l = at (is_lease_of r) h l && is_out h l

-- how many leases of it are out
unfoldable pub leases_of : List Event → ℕ → ℕ
leases_of h r = count_by (is_out_of h r) (places h)

-- a resource of which some lease is out (System.Reactive, RefCountDisposable: dependents keep it)
abbrev pub is_leased : List Event → ℕ → Bool
is_leased h r = at makes_resource h r && nat_lt 0 (leases_of h r)

-- left open: owned, or leased
unfoldable pub is_held : List Event → ℕ → Bool
is_held h r = is_owned h r || is_leased h r

-- handed out for its release
unfoldable pub is_taken : List Event → ℕ → Bool
is_taken h r = at makes_resource h r && list_any (is_take_of r) h

-- neither held nor taken
unfoldable pub is_waiting : List Event → ℕ → Bool
is_waiting h r = at makes_resource h r && not (is_held h r) && not (is_taken h r)

-- by rising number
abbrev pub leases_out : List Event → List ℕ
leases_out h = filter (is_out h) (places h)

abbrev pub held_resources : List Event → List ℕ
held_resources h = filter (is_held h) (places h)

abbrev pub waiting_resources : List Event → List ℕ
waiting_resources h = filter (is_waiting h) (places h)

-- how often it was used
unfoldable pub uses : Kept → List Event → ℕ → ℕ
uses b h r = option_map_or (λ k. k.uses + count_by (is_use_of r) h) (resource_kept b r) (count_by (is_use_of r) h)

-- the event that accepted it
abbrev pub accepted_by : Kept → List Event → ℕ → Option Event
accepted_by b h r = option_map_or (λ k. Some (Accept k.node k.tag)) (resource_kept b r) (slice_get h r)
