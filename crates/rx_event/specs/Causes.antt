-- Which causes stand against a call: the table of refusals, a row for each call. In each row the causes stand in the order of refusal.
use Rattle.std.specs.Prelude.{◌+◌, ◌*◌, ◌&&◌, ◌==◌, if◌then◌else◌}
use Rattle.rx_event.specs.Imports.{ℕ, ℤ, Bool, true, false, nat_lt, List, length, count_by, not, list_any, option_map_or}
use Rattle.rx_event.specs.Imports.{Place, Root, Source, Inner, Notifier, Kind, Sub, Mode, Event, Connect, Refusal, Full, Gone, WrongKind, PlaceTaken}
use Rattle.rx_event.specs.Imports.{NothingOwed, NotRoot, NoHub, HubOrder, Connected, NotConnected, NotFresh, NoLease, NotHeld, Leased, HasChild, MailLeft}
use Rattle.rx_event.specs.Imports.{TooMany}
use Rattle.rx_event.specs.Events.{makes_hub, named_by, has_source, is_leaf, is_merging, is_until, is_root, is_auto_hub, is_manual_hub}
use Rattle.rx_event.specs.Kept.{Kept}
use Rattle.rx_event.specs.Opened.{source_opened, notifier_opened}
use Rattle.rx_event.specs.Tree.{at, ancestors, hubs, is_open, has_open_child, open_connections}
use Rattle.rx_event.specs.Resources.{is_owned, is_out, is_held}
use Rattle.rx_event.specs.Climb.{stops, visits, most_visits}
use Rattle.rx_event.specs.Moments.{is_projection, owed}
use Rattle.rx_event.specs.Notes.{notes}
use Rattle.rx_event.specs.Allowed.{most_hubs, most_nodes, may_abort}
use Rattle.rx_event.specs.Totals.{debt, open_count}
use Rattle.rx_event.specs.Calls.{Call, Opening, OpeningUsing, Holding, Applying, Removing, Leasing, GivingBack, Emitting, Ending, Aborting, Declining}
use Rattle.rx_event.specs.Calls.{Failing, Disposing, Publishing, Connecting, Disconnecting, Taking}

-- hubs ------------------------------------------------------------------------------------------------------------------------

-- the hub has an open connection
abbrev pub has_connection : List Event → ℕ → Bool
has_connection h g = nat_lt 0 (length (open_connections h g))

-- the kind is that of a subscriber of a hub that is not there
abbrev pub is_without_hub : List Event → Kind → Bool
is_without_hub h (Sub g) = not (at makes_hub h g)
is_without_hub h _ = false

-- opening such a node forces a connection: it subscribes to a RefCount hub that has none
abbrev pub forces_connect : List Event → Kind → Bool
forces_connect h (Sub g) = at is_auto_hub h g && not (has_connection h g)
forces_connect h _ = false

-- it connects the hub of this number or of a lesser one
abbrev pub connects_up_to : ℕ → Event → Bool
connects_up_to g (Connect k) = not (nat_lt g k)
connects_up_to g _ = false

-- a subscriber at this place would stand inside a connection of its own hub or of an earlier one
abbrev pub is_out_of_order : List Event → Place → Kind → Bool
is_out_of_order h place (Sub g) = option_map_or (λ p. list_any (at (connects_up_to g) h) (ancestors h p)) (named_by place) false
is_out_of_order h place _ = false

-- places ----------------------------------------------------------------------------------------------------------------------

-- the node that the place names, if it names one, is not open
abbrev pub is_gone : List Event → Place → Bool
is_gone h place = option_map_or (λ p. not (is_open h p)) (named_by place) false

-- that node has no such place
abbrev pub is_wrong_place : List Event → Place → Bool
is_wrong_place h Root = false
is_wrong_place h (Source p) = not (at has_source h p)
is_wrong_place h (Inner p) = not (at is_merging h p)
is_wrong_place h (Notifier p) = not (at is_until h p)

-- a source or a notifier was opened there before
abbrev pub is_taken_place : Kept → List Event → Place → Bool
is_taken_place base h Root = false
is_taken_place base h (Source p) = source_opened base h p
is_taken_place base h (Inner p) = false
is_taken_place base h (Notifier p) = notifier_opened base h p

-- no projected item waits for an inner there
abbrev pub is_unowed_place : Kept → List Event → Place → Bool
is_unowed_place base h (Inner p) = owed base h p == 0
is_unowed_place base h _ = false

-- limits ----------------------------------------------------------------------------------------------------------------------

-- so many open nodes more would be too many
abbrev pub is_crowded : List Event → ℕ → Bool
is_crowded h more = nat_lt most_nodes (open_count h + more)

-- so many events and reservations more would pass the limit on the events since the base, with what closing everything needs
-- counted in
abbrev pub is_over : Kept → List Event → ℕ → ℕ → Bool
is_over base h limit more = nat_lt (base.at_length + limit) (length h + debt base h + more)

-- the nodes that an opening makes: its own, and a connection where it forces one
abbrev pub nodes_opened : List Event → Kind → ℕ
nodes_opened h kind = 1 + (if forces_connect h kind then 1 else 0)

-- the reservation for the end of a node at this place: the item that was projected there made an inner's
abbrev pub end_at : Place → ℕ
end_at (Inner f) = 0
end_at _ = 1

-- the events that a call adds, and with them the reservations: one for the end of each node, two for each resource (its removal
-- and its taking), one for each lease (its return), one for each item that is projected
abbrev pub added_by : List Event → Call → ℕ
added_by h (Opening place kind) = 1 + end_at place + 2 * (if forces_connect h kind then 1 else 0)
added_by h (OpeningUsing place tag) = 2 + end_at place + 2
added_by h (Holding node tag) = 1 + 2
added_by h (Applying resource) = 1
added_by h (Leasing resource) = 1 + 1
added_by h (Emitting leaf value) = 1 + count_by is_projection (stops h leaf)
added_by h (Publishing mode) = 1
added_by h (Connecting hub) = 1 + 1
added_by h _ = 0

-- the greatest place at which a checkpoint may be made, so that no place after it passes 64 bits
abbrev pub most_places : ℕ
most_places = 9223372036854775807

-- the rows --------------------------------------------------------------------------------------------------------------------

abbrev pub opening_causes : Kept → List Event → ℕ → Place → Kind → Refusal → Bool
opening_causes base h limit place kind NoHub = is_without_hub h kind
opening_causes base h limit place kind Gone = is_gone h place
opening_causes base h limit place kind WrongKind = is_wrong_place h place
opening_causes base h limit place kind PlaceTaken = is_taken_place base h place
opening_causes base h limit place kind NothingOwed = is_unowed_place base h place
opening_causes base h limit place kind HubOrder = is_out_of_order h place kind
opening_causes base h limit place kind TooMany = is_crowded h (nodes_opened h kind)
opening_causes base h limit place kind Full = is_over base h limit (added_by h (Opening place kind))
opening_causes base h limit place kind _ = false

abbrev pub using_causes : Kept → List Event → ℕ → Bool → Place → (tag : ℕ) → Refusal → Bool
using_causes base h limit is_fresh place tag Gone = is_gone h place
using_causes base h limit is_fresh place tag WrongKind = is_wrong_place h place
using_causes base h limit is_fresh place tag PlaceTaken = is_taken_place base h place
using_causes base h limit is_fresh place tag NothingOwed = is_unowed_place base h place
using_causes base h limit is_fresh place tag NotFresh = not is_fresh
using_causes base h limit is_fresh place tag TooMany = is_crowded h 1
using_causes base h limit is_fresh place tag Full = is_over base h limit (added_by h (OpeningUsing place tag))
using_causes base h limit is_fresh place tag _ = false

abbrev pub holding_causes : Kept → List Event → ℕ → Bool → (node tag : ℕ) → Refusal → Bool
holding_causes base h limit is_fresh node tag Gone = not (is_open h node)
holding_causes base h limit is_fresh node tag NotFresh = not is_fresh
holding_causes base h limit is_fresh node tag Full = is_over base h limit (added_by h (Holding node tag))
holding_causes base h limit is_fresh node tag _ = false

abbrev pub applying_causes : Kept → List Event → ℕ → (resource : ℕ) → Refusal → Bool
applying_causes base h limit resource NotHeld = not (is_held h resource)
applying_causes base h limit resource Full = is_over base h limit (added_by h (Applying resource))
applying_causes base h limit resource _ = false

abbrev pub removing_causes : List Event → (resource : ℕ) → Refusal → Bool
removing_causes h resource NotHeld = not (is_held h resource)
removing_causes h resource Leased = not (is_owned h resource)
removing_causes h resource _ = false

-- leases are given out of what its node owns; what leases alone hold is leased to nobody else
abbrev pub leasing_causes : Kept → List Event → ℕ → (resource : ℕ) → Refusal → Bool
leasing_causes base h limit resource NotHeld = not (is_held h resource)
leasing_causes base h limit resource Leased = not (is_owned h resource)
leasing_causes base h limit resource Full = is_over base h limit (added_by h (Leasing resource))
leasing_causes base h limit resource _ = false

abbrev pub returning_causes : List Event → (lease : ℕ) → Refusal → Bool
returning_causes h lease NoLease = not (is_out h lease)
returning_causes h lease _ = false

abbrev pub emitting_causes : Kept → List Event → ℕ → (leaf : ℕ) → ℤ → Refusal → Bool
emitting_causes base h limit leaf value Gone = not (is_open h leaf)
emitting_causes base h limit leaf value WrongKind = not (at is_leaf h leaf)
emitting_causes base h limit leaf value TooMany = nat_lt most_visits (visits h leaf)
emitting_causes base h limit leaf value Full = is_over base h limit (added_by h (Emitting leaf value))
emitting_causes base h limit leaf value _ = false

abbrev pub ending_causes : List Event → (leaf : ℕ) → Refusal → Bool
ending_causes h leaf Gone = not (is_open h leaf)
ending_causes h leaf WrongKind = not (at is_leaf h leaf)
ending_causes h leaf _ = false

-- a leaf is ended and not aborted; and what is open below would be cut off
abbrev pub aborting_causes : List Event → (node : ℕ) → Refusal → Bool
aborting_causes h node Gone = not (is_open h node)
aborting_causes h node WrongKind = not (at may_abort h node)
aborting_causes h node HasChild = has_open_child h node
aborting_causes h node _ = false

-- declining a projected item, and failing at one
abbrev pub projecting_causes : Kept → List Event → (merging : ℕ) → Refusal → Bool
projecting_causes base h merging Gone = not (is_open h merging)
projecting_causes base h merging WrongKind = not (at is_merging h merging)
projecting_causes base h merging NothingOwed = owed base h merging == 0
projecting_causes base h merging _ = false

abbrev pub disposing_causes : List Event → (root : ℕ) → Refusal → Bool
disposing_causes h root Gone = not (is_open h root)
disposing_causes h root NotRoot = not (at is_root h root)
disposing_causes h root _ = false

abbrev pub publishing_causes : Kept → List Event → ℕ → Mode → Refusal → Bool
publishing_causes base h limit mode TooMany = nat_lt most_hubs (length (hubs h) + 1)
publishing_causes base h limit mode Full = is_over base h limit (added_by h (Publishing mode))
publishing_causes base h limit mode _ = false

abbrev pub connecting_causes : Kept → List Event → ℕ → (hub : ℕ) → Refusal → Bool
connecting_causes base h limit hub NoHub = not (at makes_hub h hub)
connecting_causes base h limit hub WrongKind = not (at is_manual_hub h hub)
connecting_causes base h limit hub Connected = has_connection h hub
connecting_causes base h limit hub TooMany = is_crowded h 1
connecting_causes base h limit hub Full = is_over base h limit (added_by h (Connecting hub))
connecting_causes base h limit hub _ = false

abbrev pub disconnecting_causes : List Event → (hub : ℕ) → Refusal → Bool
disconnecting_causes h hub NoHub = not (at makes_hub h hub)
disconnecting_causes h hub WrongKind = not (at is_manual_hub h hub)
disconnecting_causes h hub NotConnected = not (has_connection h hub)
disconnecting_causes h hub _ = false

-- the causes against a call, where a resource that is handed in with it is fresh (Live, and never used) or not
abbrev pub causes : Kept → List Event → ℕ → Bool → Call → Refusal → Bool
causes base h limit is_fresh (Opening place kind) why = opening_causes base h limit place kind why
causes base h limit is_fresh (OpeningUsing place tag) why = using_causes base h limit is_fresh place tag why
causes base h limit is_fresh (Holding node tag) why = holding_causes base h limit is_fresh node tag why
causes base h limit is_fresh (Applying resource) why = applying_causes base h limit resource why
causes base h limit is_fresh (Removing resource) why = removing_causes h resource why
causes base h limit is_fresh (Leasing resource) why = leasing_causes base h limit resource why
causes base h limit is_fresh (GivingBack lease) why = returning_causes h lease why
causes base h limit is_fresh (Emitting leaf value) why = emitting_causes base h limit leaf value why
causes base h limit is_fresh (Ending leaf t) why = ending_causes h leaf why
causes base h limit is_fresh (Aborting node code) why = aborting_causes h node why
causes base h limit is_fresh (Declining merging) why = projecting_causes base h merging why
causes base h limit is_fresh (Failing merging code) why = projecting_causes base h merging why
causes base h limit is_fresh (Disposing root) why = disposing_causes h root why
causes base h limit is_fresh (Publishing mode) why = publishing_causes base h limit mode why
causes base h limit is_fresh (Connecting hub) why = connecting_causes base h limit hub why
causes base h limit is_fresh (Disconnecting hub) why = disconnecting_causes h hub why
-- one that waits is taken: none is refused
causes base h limit is_fresh (Taking resource) why = false

-- a checkpoint adds no event, and so is no call: it is refused while notes were not handed out, and past the last place for one
abbrev pub checkpoint_causes : List Event → (given : ℕ) → Refusal → Bool
checkpoint_causes h given MailLeft = nat_lt given (length (notes h))
checkpoint_causes h given TooMany = nat_lt most_places (length h)
checkpoint_causes h given _ = false

-- the causes where a history is never full
abbrev pub unlimited : (Refusal → Bool) → Refusal → Bool
unlimited stands Full = false
unlimited stands why = stands why

-- where a key is unknown --------------------------------------------------------------------------------------------------------

-- where a node's key is no open node's: that the node is gone, and of the rest an unknown hub alone
abbrev pub by_key : Bool → (Refusal → Bool) → Refusal → Bool
by_key true stand why = stand why
by_key false stand NoHub = stand NoHub
by_key false stand Gone = true
by_key false stand _ = false

-- where a resource's key is no held resource's: that the resource is not held
abbrev pub by_res_key : Bool → (Refusal → Bool) → Refusal → Bool
by_res_key true stand why = stand why
by_res_key false stand NotHeld = true
by_res_key false stand _ = false

-- where a lease's key is no lease's that is out: that there is no such lease
abbrev pub by_lease_key : Bool → (Refusal → Bool) → Refusal → Bool
by_lease_key true stand why = stand why
by_lease_key false stand NoLease = true
by_lease_key false stand _ = false

-- the same, by the kind of key that the call has
abbrev pub by_key_of : Call → Bool → (Refusal → Bool) → Refusal → Bool
by_key_of (Applying r) = by_res_key
by_key_of (Removing r) = by_res_key
by_key_of (Leasing r) = by_res_key
by_key_of (GivingBack l) = by_lease_key
by_key_of _ = by_key
