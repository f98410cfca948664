-- The subscription tree that a history leaves: which nodes there are, where they stand and which are open.
-- Observable Contract: an end and an unsubscription stop the observable, and with it all that it subscribed to.
use Rattle.rx_event.specs.Imports.{ℕ, zero, suc, Bool, false, nat_lt, Option, Some, None, List, [], length, slice_get, filter}
use Rattle.rx_event.specs.Imports.{not, list_any, list_all, range_with_len, option_and_then, option_map_or, Inner, Event, Open, End, Close}
use Rattle.std.specs.Prelude.{drop, ◌&&◌, ◌==◌, if◌then◌else◌, ◌∷◌}
use Rattle.rx_event.specs.Events.{makes_node, makes_hub, makes_resource, parent_named, is_switch, is_inner_of, is_subscriber_of, is_connect_of}

-- places in a history -----------------------------------------------------------------------------

-- there is an event at this place, and the test holds of it
abbrev pub at : (Event → Bool) → List Event → ℕ → Bool
at p h n = option_map_or p (slice_get h n) false

-- the places of a history, in order
abbrev pub places : List Event → List ℕ
places h = range_with_len 0 (length h)

abbrev pub nodes : List Event → List ℕ
nodes h = filter (at makes_node h) (places h)

abbrev pub hubs : List Event → List ℕ
hubs h = filter (at makes_hub h) (places h)

abbrev pub resources : List Event → List ℕ
resources h = filter (at makes_resource h) (places h)

-- parents -----------------------------------------------------------------------------------------

-- the number, if it is less than n
abbrev pub if_less : ℕ → ℕ → Option ℕ
if_less n p = if nat_lt p n then Some p else None

-- the node that the place of n names. It is followed only where its number is less, so that every climb ends
unfoldable pub parent : List Event → ℕ → Option ℕ
parent h n = option_and_then (if_less n) (option_and_then parent_named (slice_get h n))

-- n and the nodes above it, as far as so many steps lead
abbrev pub ancestors_within : ℕ → List Event → ℕ → List ℕ
ancestors_within zero h n = n ∷ []
ancestors_within (suc steps) h n = n ∷ option_map_or (ancestors_within steps h) (parent h n) []

-- n, its parent, and so on. Parents have smaller numbers, so n steps are enough
unfoldable pub ancestors : List Event → ℕ → List ℕ
ancestors h n = ancestors_within n h n

-- n is c, or stands below it
abbrev pub is_within : List Event → ℕ → ℕ → Bool
is_within h c n = list_any (λ a. c == a) (ancestors h n)

-- open --------------------------------------------------------------------------------------------

-- n is an inner of f, which is a Switch
abbrev pub is_switched_inner : List Event → ℕ → ℕ → Bool
is_switched_inner h f n = nat_lt f n && at is_switch h f && at (is_inner_of f) h n

-- the event takes node n away: its end, its closing, or the opening of another inner of its Switch
-- (Switch: it unsubscribes from the previous inner)
abbrev pub shuts : List Event → ℕ → Event → Bool
shuts h n (End m t) = m == n
shuts h n (Close m) = m == n
shuts h n (Open (Inner f) kind) = is_switched_inner h f n
shuts h n _ = false

-- an event after the node's own takes it away
unfoldable pub is_shut : List Event → ℕ → Bool
is_shut h n = list_any (shuts h n) (drop (suc n) h)

-- it is a node, and nothing has taken it away
abbrev pub is_standing : List Event → ℕ → Bool
is_standing h n = at makes_node h n && not (is_shut h n)

-- a node is open where nothing has taken it or a node above it away
unfoldable pub is_open : List Event → ℕ → Bool
is_open h n = list_all (is_standing h) (ancestors h n)

abbrev pub open_nodes : List Event → List ℕ
open_nodes h = filter (is_open h) (places h)

-- an open node stands directly below p
abbrev pub is_open_child_of : List Event → ℕ → ℕ → Bool
is_open_child_of h p n = is_open h n && option_map_or (λ q. q == p) (parent h n) false

abbrev pub has_open_child : List Event → ℕ → Bool
has_open_child h p = list_any (is_open_child_of h p) (places h)

-- hubs --------------------------------------------------------------------------------------------

-- the open subscribers of a hub, by rising number
abbrev pub open_subscribers : List Event → ℕ → List ℕ
open_subscribers h g = filter (λ n. at (is_subscriber_of g) h n && is_open h n) (places h)

-- the open connections of a hub
abbrev pub open_connections : List Event → ℕ → List ℕ
open_connections h g = filter (λ n. at (is_connect_of g) h n && is_open h n) (places h)
