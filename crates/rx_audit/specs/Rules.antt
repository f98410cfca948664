-- The rules of histories as tests that compute.
use Rattle.std.specs.Prelude.{◌+◌, ◌==◌, ◌&&◌, drop, if◌then◌else◌}
use Rattle.rx_audit.specs.Imports.{ℕ, Bool, true, false, Option, Some, None, List, length, slice_get, suc, not, list_all, list_any}
use Rattle.rx_audit.specs.Imports.{option_and_then, option_map_or, nothing_kept, Event, Open, Accept, Item, End, Stop, Projection, Firing, at, places, is_open, shuts}
use Rattle.rx_audit.specs.Imports.{ancestors, if_less, makes_node, parent_named, removed_of, leased_of, returned_of, taken_of, hub_connected}
use Rattle.rx_audit.specs.Imports.{hub_subscribed, is_auto_hub}
use Rattle.rx_event.specs.declared.event.Kind.TheVariants.{Pass}
use Rattle.rx_event.specs.declared.refusal.Refusal.{Refusal}
use Rattle.rx_register.specs.CallBehind.{refusal_of}

-- the number is the one that was named, if one was
abbrev pub names_number : Option ℕ → ℕ → Bool
names_number None n = false
names_number (Some r) n = r == n

abbrev pub fired_by : Stop → Option ℕ
fired_by (Firing u) = Some u
fired_by _ = None

abbrev pub projecting_node : Stop → Option ℕ
projecting_node (Projection f) = Some f
projecting_node _ = None

abbrev pub was_removed : List Event → ℕ → Bool
was_removed h r = list_any (λ e. names_number (removed_of e) r) h

abbrev pub was_taken : List Event → ℕ → Bool
was_taken h r = list_any (λ e. names_number (taken_of e) r) h

abbrev pub was_returned : List Event → ℕ → Bool
was_returned h l = list_any (λ e. names_number (returned_of e) l) h

-- the resource of a lease
abbrev pub resource_of : List Event → ℕ → Option ℕ
resource_of h l = option_and_then leased_of (slice_get h l)

-- node n is open, and the event takes neither it nor a node above it away
unfoldable pub stays_open : List Event → Event → ℕ → Bool
stays_open h e n = is_open h n && list_all (λ a. not (shuts h a e)) (ancestors h n)

-- the event makes a node, and the node above it is still open
abbrev pub opens : List Event → Event → Bool
opens h e = makes_node e && option_map_or (stays_open h e) (option_and_then (if_less (length h)) (parent_named e)) true

-- what open nodes stand for --------------------------------------------------------------------------

abbrev pub hub_subscribed_at : List Event → ℕ → Option ℕ
hub_subscribed_at h k = option_and_then hub_subscribed (slice_get h k)

abbrev pub hub_connected_at : List Event → ℕ → Option ℕ
hub_connected_at h k = option_and_then hub_connected (slice_get h k)

-- the hub of node k, where k is an open subscriber
abbrev pub open_subscribed : List Event → ℕ → Option ℕ
open_subscribed h k = if is_open h k then hub_subscribed_at h k else None

-- the hub of node k, where k is an open connection
abbrev pub open_connected : List Event → ℕ → Option ℕ
open_connected h k = if is_open h k then hub_connected_at h k else None

-- some number has the key
abbrev pub any_has_key : (ℕ → Option ℕ) → List Event → ℕ → Bool
any_has_key key h n = list_any (λ k. names_number (key k) n) (places h)

-- both are there, and the same
abbrev pub joins : Option ℕ → Option ℕ → Bool
joins None o = false
joins (Some g) o = names_number o g

-- the hub whose connection the event ends
abbrev pub hub_ended : List Event → Event → Option ℕ
hub_ended h (End c t) = hub_connected_at h c
hub_ended h _ = None

abbrev pub hub_ended_at : List Event → ℕ → Option ℕ
hub_ended_at h k = option_and_then (hub_ended h) (slice_get h k)

-- the event ends a connection of the hub that s subscribes to
abbrev pub ends_source : List Event → ℕ → Event → Bool
ends_source h s e = joins (hub_subscribed_at h s) (hub_ended h e)

-- a connection of the hub of s ended after s was opened
unfoldable pub is_disconnected : List Event → ℕ → Bool
is_disconnected h s = list_any (ends_source h s) (drop (suc s) h)

-- the hub of node k, where k is an open subscriber that waits for a connection
abbrev pub open_waiting : List Event → ℕ → Option ℕ
open_waiting h k = if is_disconnected h k then None else open_subscribed h k

-- what is due ----------------------------------------------------------------------------------------

unfoldable pub connect_due : List Event → ℕ → Bool
connect_due h g = at is_auto_hub h g && any_has_key (open_waiting h) h g && not (any_has_key (open_connected h) h g)

-- some hub waits for its connection
unfoldable pub any_connect_due : List Event → Bool
any_connect_due h = list_any (connect_due h) (places h)

-- hub g has lost its subscribers
abbrev pub has_lost_subscribers : List Event → ℕ → Bool
has_lost_subscribers h g = at is_auto_hub h g && not (any_has_key (open_subscribed h) h g)

-- connection c is open, and its hub has lost its subscribers
unfoldable pub close_due : List Event → ℕ → Bool
close_due h c = is_open h c && option_map_or (has_lost_subscribers h) (hub_connected_at h c) false

-- Using --------------------------------------------------------------------------------------------

-- the event opens a mirroring node of one source (Using)
abbrev pub opens_pass : Event → Bool
opens_pass (Open place Pass) = true
opens_pass _ = false

-- the event accepts a resource at the node that was opened last, which is a mirroring one
abbrev pub opened_with : List Event → Event → Bool
opened_with h (Accept n tag) = at opens_pass h n && (length h == n + 1) && is_open h n
opened_with h _ = false

-- callers --------------------------------------------------------------------------------------------

-- what refuses an event that is no item
abbrev pub refused_simply : List Event → Event → Option Refusal
refused_simply h (Item leaf value) = None
refused_simply h e = refusal_of nothing_kept h e
