-- Tests of one event. Numbers are places in a history: each names what the event at that place made.
use Rattle.std.specs.Prelude.{◌==◌}
use Rattle.rx_event.specs.Imports.{ℕ, Bool, true, false, Option, Some, None, Completed, Error, Place, Root, Source, Inner, Notifier, Leaf, Pass, Flat}
use Rattle.rx_event.specs.Imports.{Switch, Until, Sub, Auto, Manual, Event, Open, Hub, Connect, Accept, Use, Remove, Lease, Return, Item, Decline, End, Close}
use Rattle.rx_event.specs.Imports.{Take}

-- what an event makes -----------------------------------------------------------------------------

-- a node: what is opened, or a connection
abbrev pub makes_node : Event → Bool
makes_node (Open place kind) = true
makes_node (Connect hub) = true
makes_node _ = false

abbrev pub makes_hub : Event → Bool
makes_hub (Hub mode) = true
makes_hub _ = false

abbrev pub makes_resource : Event → Bool
makes_resource (Accept node tag) = true
makes_resource _ = false

abbrev pub makes_lease : Event → Bool
makes_lease (Lease r) = true
makes_lease _ = false

-- the node that a resource is held at
abbrev pub node_of_accept : Event → Option ℕ
node_of_accept (Accept node tag) = Some node
node_of_accept _ = None

-- where a node stands -----------------------------------------------------------------------------

-- the node that a place names
abbrev pub named_by : Place → Option ℕ
named_by Root = None
named_by (Source n) = Some n
named_by (Inner n) = Some n
named_by (Notifier n) = Some n

-- a root and a connection name none
abbrev pub parent_named : Event → Option ℕ
parent_named (Open place kind) = named_by place
parent_named _ = None

abbrev pub is_root : Event → Bool
is_root (Open Root kind) = true
is_root _ = false

-- the node whose source, inner or notifier is opened
abbrev pub source_named : Event → Option ℕ
source_named (Open (Source f) kind) = Some f
source_named _ = None

abbrev pub inner_named : Event → Option ℕ
inner_named (Open (Inner f) kind) = Some f
inner_named _ = None

abbrev pub notifier_named : Event → Option ℕ
notifier_named (Open (Notifier u) kind) = Some u
notifier_named _ = None

abbrev pub is_source_of : ℕ → Event → Bool
is_source_of f (Open (Source g) kind) = g == f
is_source_of f _ = false

abbrev pub is_inner_of : ℕ → Event → Bool
is_inner_of f (Open (Inner g) kind) = g == f
is_inner_of f _ = false

abbrev pub is_notifier_of : ℕ → Event → Bool
is_notifier_of f (Open (Notifier g) kind) = g == f
is_notifier_of f _ = false

-- what a node does --------------------------------------------------------------------------------

abbrev pub is_leaf : Event → Bool
is_leaf (Open place Leaf) = true
is_leaf _ = false

abbrev pub is_switch : Event → Bool
is_switch (Open place Switch) = true
is_switch _ = false

abbrev pub is_until : Event → Bool
is_until (Open place Until) = true
is_until _ = false

-- a FlatMap or a Switch, whose source's items are projected to inner observables
abbrev pub is_merging : Event → Bool
is_merging (Open place Flat) = true
is_merging (Open place Switch) = true
is_merging _ = false

-- a node that passes on how its child ends
abbrev pub is_mirroring : Event → Bool
is_mirroring (Open place Pass) = true
is_mirroring (Open place Until) = true
is_mirroring (Connect hub) = true
is_mirroring _ = false

-- a node that has a place for a source below it: neither a leaf nor a subscriber
abbrev pub has_source : Event → Bool
has_source (Open place Pass) = true
has_source (Open place Flat) = true
has_source (Open place Switch) = true
has_source (Open place Until) = true
has_source (Connect hub) = true
has_source _ = false

-- hubs --------------------------------------------------------------------------------------------

-- a hub with RefCount
abbrev pub is_auto_hub : Event → Bool
is_auto_hub (Hub Auto) = true
is_auto_hub _ = false

-- a hub that a caller connects
abbrev pub is_manual_hub : Event → Bool
is_manual_hub (Hub Manual) = true
is_manual_hub _ = false

-- the hub that is connected, or subscribed to
abbrev pub hub_connected : Event → Option ℕ
hub_connected (Connect g) = Some g
hub_connected _ = None

abbrev pub hub_subscribed : Event → Option ℕ
hub_subscribed (Open place (Sub g)) = Some g
hub_subscribed _ = None

abbrev pub is_connect_of : ℕ → Event → Bool
is_connect_of g (Connect k) = k == g
is_connect_of g _ = false

abbrev pub is_subscriber_of : ℕ → Event → Bool
is_subscriber_of g (Open place (Sub k)) = k == g
is_subscriber_of g _ = false

-- what befalls a resource -------------------------------------------------------------------------

-- the resource that is used, removed or handed out
abbrev pub used_of : Event → Option ℕ
used_of (Use r) = Some r
used_of _ = None

abbrev pub removed_of : Event → Option ℕ
removed_of (Remove r) = Some r
removed_of _ = None

abbrev pub taken_of : Event → Option ℕ
taken_of (Take r) = Some r
taken_of _ = None

abbrev pub is_use_of : ℕ → Event → Bool
is_use_of r (Use q) = q == r
is_use_of r _ = false

abbrev pub is_remove_of : ℕ → Event → Bool
is_remove_of r (Remove q) = q == r
is_remove_of r _ = false

abbrev pub is_take_of : ℕ → Event → Bool
is_take_of r (Take q) = q == r
is_take_of r _ = false

-- the resource that is leased, and the lease that is returned
abbrev pub leased_of : Event → Option ℕ
leased_of (Lease r) = Some r
leased_of _ = None

abbrev pub returned_of : Event → Option ℕ
returned_of (Return l) = Some l
returned_of _ = None

abbrev pub is_lease_of : ℕ → Event → Bool
is_lease_of r (Lease q) = q == r
is_lease_of r _ = false

abbrev pub is_return_of : ℕ → Event → Bool
is_return_of l (Return m) = m == l
is_return_of l _ = false

-- what is counted ---------------------------------------------------------------------------------

-- an inner observable of f is opened, or declined: so one projected item of f is paid
abbrev pub paid_of : Event → Option ℕ
paid_of (Open (Inner f) kind) = Some f
paid_of (Decline f) = Some f
paid_of _ = None

abbrev pub pays : ℕ → Event → Bool
pays f (Open (Inner g) kind) = g == f
pays f (Decline g) = g == f
pays f _ = false

abbrev pub is_item : Event → Bool
is_item (Item leaf value) = true
is_item _ = false

abbrev pub is_take : Event → Bool
is_take (Take r) = true
is_take _ = false

abbrev pub is_return : Event → Bool
is_return (Return l) = true
is_return _ = false

abbrev pub is_end : Event → Bool
is_end (End n t) = true
is_end _ = false

-- the node that ends by itself, and how
abbrev pub ended_of : Event → Option ℕ
ended_of (End n t) = Some n
ended_of _ = None

abbrev pub completed_of : Event → Option ℕ
completed_of (End n Completed) = Some n
completed_of _ = None

abbrev pub failed_of : Event → Option ℕ
failed_of (End n (Error code)) = Some n
failed_of _ = None

abbrev pub is_connect : Event → Bool
is_connect (Connect g) = true
is_connect _ = false

-- an event that makes or shows something: nothing else happens in what a base shows
abbrev pub is_making : Event → Bool
is_making (Open place kind) = true
is_making (Connect g) = true
is_making (Hub mode) = true
is_making (Accept n tag) = true
is_making (Lease r) = true
is_making (Close n) = true
is_making _ = false
