-- The definitions at worked examples: a lease that is given back after its subscription was disposed of.
use Rattle.rx_event.proofs.Laws.Common.{◌≡◌, true, false, Some, List, [], ◌∷◌, ◌++◌, refl, Root, Pass, Event, Open, Accept, Use, Remove, Lease, Return, Close}
use Rattle.rx_event.proofs.Laws.Common.{Take, parent, ancestors, is_shut, is_open, is_owned, is_out, leases_of, is_held, is_taken, is_waiting}
use Rattle.rx_event.proofs.Laws.Common.{waiting_resources, uses, accepted_by, most_visits, climb, stops, moments, projections, is_fired, owed, child_terminal}
use Rattle.rx_event.proofs.Laws.Common.{source_completed, open_children, IsSettled, IsAllowed, Kept, nothing_kept, shown, base_of, held_resources, debt}
use Rattle.rx_event.proofs.Laws.Common.{first_forced}
use Rattle.rx_event.specs.declared.base.BaseState.TheVariants.{Leased}
use Rattle.rx_event.specs.Resources.{leases_out}
use Rattle.rx_event.specs.Allowed.{used, leased, returned, taken}
use Rattle.rx_event.specs.Canonical.{source_end}
use Rattle.rx_event.specs.Kept.{stored}
use Rattle.rx_event.proofs.Laws.InOrder.{settled_by_order}

-- a Using subscription whose resource is leased, and which is then disposed of
abbrev using : List Event
using = Open Root Pass ∷ Accept 0 7 ∷ []

abbrev lent : List Event
lent = using ++ Lease 1 ∷ []

abbrev disposed : List Event
disposed = lent ++ Close 0 ∷ []

may_lease_it : (IsAllowed nothing_kept using (Lease 1)) × (leases_out lent ≡ 2 ∷ [])
unfolding is_owned is_open is_shut ancestors parent is_out
may_lease_it = (leased refl, refl)

-- nothing waits: the lease keeps it held
disposed_is : (waiting_resources disposed ≡ []) × (held_resources disposed ≡ 1 ∷ []) × (leases_of disposed 1 ≡ 1) × (IsSettled nothing_kept disposed)
unfolding is_waiting is_taken is_held is_owned is_out leases_of is_open is_shut ancestors parent first_forced source_end child_terminal source_completed
    open_children is_fired owed projections moments stops climb most_visits shown
disposed_is = (refl, refl, refl, settled_by_order nothing_kept disposed refl)

-- it may be used still, but neither leased nor removed
may_use_it : IsAllowed nothing_kept disposed (Use 1)
unfolding is_held is_owned is_out leases_of is_open is_shut ancestors parent
may_use_it = used refl

abbrev applied : List Event
applied = disposed ++ Use 1 ∷ []

applied_owned : (is_owned applied 1 ≡ false) × (IsAllowed nothing_kept applied (Return 2))
unfolding is_owned is_open is_shut ancestors parent is_out
applied_owned = (refl, returned refl)

-- at its last return it waits, is taken with its uses, and the lease is out no more
abbrev given_back : List Event
given_back = applied ++ Return 2 ∷ []

given_back_waiting : (waiting_resources given_back ≡ 1 ∷ []) × (is_out given_back 2 ≡ false) × (IsAllowed nothing_kept given_back (Take 1))
unfolding is_waiting is_taken is_held is_owned is_out leases_of is_open is_shut ancestors parent
given_back_waiting = (refl, refl, taken refl)

abbrev released : List Event
released = given_back ++ Take 1 ∷ []

released_is : (uses nothing_kept released 1 ≡ 1) × (is_held released 1 ≡ false)
unfolding uses is_held is_owned is_out leases_of is_open is_shut ancestors parent
released_is = (refl, refl)

-- what closing everything may still add, from call to call
debts : (debt nothing_kept using ≡ 3) × (debt nothing_kept lent ≡ 4) × (debt nothing_kept disposed ≡ 2) × (debt nothing_kept given_back ≡ 1) ×
    (debt nothing_kept released ≡ 0)
unfolding debt owed projections moments stops climb most_visits is_held is_owned is_out leases_of is_taken is_waiting is_open is_shut ancestors parent shown
debts = (refl, refl, refl, refl, refl)

-- what is removed while a lease of it is out is held by that alone, and waits at its return
abbrev removed_early : List Event
removed_early = lent ++ Remove 1 ∷ []

removed_early_is : (held_resources removed_early ≡ 1 ∷ []) × (waiting_resources (removed_early ++ Return 2 ∷ []) ≡ 1 ∷ [])
unfolding is_held is_owned is_out leases_of is_open is_shut ancestors parent is_waiting is_taken
removed_early_is = (refl, refl)

-- the base of the disposed one keeps the lease, and the resource as held by leases alone
abbrev disposed_base : Kept
disposed_base =
    record {
      at_length = 4;
      items = 0;
      accepted = 1;
      taken = 0;
      hubs = [];
      nodes = [];
      resources = (record { number = 1; node = 0; tag = 7; uses = 0; state = Leased }) ∷ [];
      leases = (record { number = 2; resource = 1 }) ∷ [];
    }

disposed_kept : (base_of nothing_kept disposed ≡ disposed_base) × (shown disposed_base ≡ Close 0 ∷ Accept 1 7 ∷ Lease 1 ∷ Close 3 ∷ [])
unfolding base_of shown owed projections moments stops climb most_visits is_open is_shut ancestors parent source_completed is_held is_owned is_out leases_of
    is_waiting is_taken uses
disposed_kept = (refl, refl)

-- after it the resource is held, and waits at the return, at its own node and with its own tag
kept_is : (is_held (stored disposed_base []) 1 ≡ true) × (waiting_resources (stored disposed_base (Return 2 ∷ [])) ≡ 1 ∷ []) ×
    (accepted_by disposed_base (stored disposed_base (Return 2 ∷ [])) 1 ≡ Some (Accept 0 7))
unfolding shown is_held is_owned is_out leases_of is_open is_shut ancestors parent is_waiting is_taken
kept_is = (refl, refl, refl)
