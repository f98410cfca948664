-- How a tree and hubs are tied to the history beside them, and what each write asks for and changes.
use Rattle.std.specs.Prelude.{◌≡◌, ℕ, ◌+◌, ◌<◌, ◌≤◌, cond, map, length, Bool, true, false, ◌&&◌, Option, Some, None, is_some, IsSome, IfSome, List, []}
use Rattle.std.specs.Prelude.{◌≢◌, ◌++◌, IsTrue, slice_get}
use Rattle.std.proofs.Math.Bool.{not}
use Rattle.std.specs.List.{AllByRecursion, AllPairs, list_any, Contains}
use Rattle.std.specs.Option.{option_map_or}
use Rattle.rx_resource.specs.declared.Resource.{Ghosts}
use Rattle.rx_resource.specs.declared.Life.TheVariants.{Live}
use Rattle.rx_event.specs.Marks.{Marks}
use Rattle.rx_event.specs.declared.event.Place.{Place}
use Rattle.rx_event.specs.declared.event.Place.TheVariants.{Root, Source, Inner, Notifier}
use Rattle.rx_event.specs.declared.event.Event.{Event}
use Rattle.rx_event.specs.declared.event.Event.TheVariants.{Accept, Lease}
use Rattle.rx_event.specs.Events.{makes_resource, is_take_of}
use Rattle.rx_event.specs.Kept.{Kept}
use Rattle.rx_event.specs.Tree.{at, is_open}
use Rattle.rx_event.specs.Resources.{accepted_by, is_owned, is_out, leases_of, uses}
use Rattle.rx_event.specs.Marks.{due_at, terminal_due, after_source, after_notifier, after_inner}
use Rattle.rx_event.specs.Notes.{mail_of}
use Rattle.rx_event.specs.Totals.{debt, open_count}
use Rattle.rx_event.specs.Lawful.{MayFollow}
use Rattle.rx_event.specs.Forced.{IsConnectDue, IsForced, IsSettled}
use Rattle.rx_slots.specs.declared.Key.{Key}
use Rattle.rx_slots.specs.Slots.{Slots, find}
use Rattle.rx_tree.specs.declared.node.Node.{Node}
use Rattle.rx_tree.specs.declared.node.Stowed.{Stowed}
use Rattle.rx_tree.specs.declared.node.ResKey.{ResKey}
use Rattle.rx_tree.specs.Below.{is_below}
use Rattle.rx_tree.specs.Closing.{outside}
use Rattle.rx_tree.specs.Resources.{is_held_at, store_key}
use Rattle.rx_tree.specs.Tree.{Tree, Rewrites, is_on, with_due, with_marks}
use Rattle.rx_hub.specs.TreeRecords.{IsRecordOf}
use Rattle.rx_hub.specs.declared.hub.HubDue.{HubDue}
use Rattle.rx_hub.specs.declared.hub.HubDue.TheVariants.{Connect as ConnectDue, End as EndDue, Close as CloseDue}
use Rattle.rx_hub.specs.declared.hub.LastEnd.{LastEnd}
use Rattle.rx_hub.specs.After.{is_inside}
use Rattle.rx_hub.specs.Closing.{without_gone}
use Rattle.rx_hub.specs.Due.{event_of}
use Rattle.rx_hub.specs.Hubs.{Hub, Hubs}
use Rattle.rx_hub.specs.Records.{AreHubsOf}
use Rattle.rx_register.specs.State.{State as Register}
use Rattle.rx_register.specs.Paid.{IsPaid}
use Rattle.rx_ground.specs.declared.base.Wanted.{Wanted}
use Rattle.rx_ground.specs.Shown.{Ground, label_of, label_in, waiting_in}

-- nodes -------------------------------------------------------------------------------------------

-- how an opening at this place marks the node above, where an inner takes the place of an open one or not
abbrev pub opened_marks : Bool → Place → Marks → Marks
opened_marks replaces (Source p) m = after_source m
opened_marks replaces (Inner f) m = after_inner replaces m
opened_marks replaces (Notifier u) m = after_notifier m
opened_marks replaces Root m = m

-- the node that a key finds has not to end, by its marks
abbrev pub IsUndue : Slots Node → Key → Type 0
IsUndue nodes key = IfSome (find nodes key) (λ node. terminal_due node.made node.marks ≡ None)

-- some slot has a value under this number
pub record HasKey {X : Type 0} (slots : Slots X) (number : ℕ) : Type 0 where
  pub key : Key
  pub value : X
  pub found : find slots key ≡ Some value
  pub numbered : key.number ≡ number

-- there is a record for each open node and no other, and off the chain nothing is due
pub record AreRecords (base : Kept) (h : List Event) (nodes : Slots Node) (chain : List Key) : Type 0 where
  pub each : (key : Key) (node : Node) → find nodes key ≡ Some node → IsRecordOf base h key.number node
  pub every : (n : ℕ) → is_open h n ≡ true → HasKey nodes n
  pub quiet : (key : Key) (node : Node) → find nodes key ≡ Some node → is_on key chain ≡ false → due_at node.made node.marks key.number ≡ None

-- hubs --------------------------------------------------------------------------------------------

-- the subscribers and the connection of each hub have records
pub record AreJoined (nodes : Slots Node) (hubs : List Hub) : Type 0 where
  pub subscribers : (i : ℕ) (hub : Hub) → slice_get hubs i ≡ Some hub → AllByRecursion (λ key. IsSome (find nodes key)) hub.subscribers
  pub connection : (i : ℕ) (hub : Hub) → slice_get hubs i ≡ Some hub → IfSome hub.connection (λ key. IsSome (find nodes key))

-- the hubs once what stands inside this node left them, and a connection among it ended so if it ended by itself
abbrev pub left_inside : List Event → (top : ℕ) → (ended : Option LastEnd) → Hubs → Hubs
left_inside h top ended hubs = record hubs { hubs = map (without_gone (is_inside h top) ended) hubs.hubs }

-- resources ---------------------------------------------------------------------------------------

module _ {T : Type 0} where
  -- an accepted resource that is not taken: live, at its node, owned and leased as the history says, with its tag and its uses
  pub record IsStored (base : Kept) (g : Ghosts T) (h : List Event) (nodes : Slots Node) (r : ℕ) (s : Stowed T) : Type 0 where
    pub made : at makes_resource h r ≡ true
    pub accepted : accepted_by base h r ≡ Some (Accept s.node.number (g.tag_of s.resource))
    pub older : s.node.number < r
    pub owned : is_owned h r ≡ (is_open h s.node.number && not s.removed)
    pub lent : s.leases ≡ leases_of h r
    pub untaken : list_any (is_take_of r) h ≡ false
    pub home : is_open h s.node.number ≡ true → IsSome (find nodes s.node)
    pub live : g.life_of s.resource ≡ Live
    pub few : uses base h r ≤ length h
    pub uses : g.uses_of s.resource ≡ uses base h r

  -- each stored resource is one that was accepted and not taken, and each such one is stored
  pub record AreStored (base : Kept) (g : Ghosts T) (h : List Event) (tree : Tree T) : Type 0 where
    pub each : (key : Key) (s : Stowed T) → find tree.resources key ≡ Some s → IsStored base g h tree.nodes key.number s
    pub every : (r : ℕ) → at makes_resource h r ≡ true → list_any (is_take_of r) h ≡ false → HasKey tree.resources r

  -- leases ----------------------------------------------------------------------------------------

  -- a lease that is out, of a resource that is stored under this key
  pub record IsLeaseOf (h : List Event) (resources : Slots (Stowed T)) (l : ℕ) (res : ResKey) : Type 0 where
    pub out : is_out h l ≡ true
    pub made : slice_get h l ≡ Some (Lease res.number)
    pub stored : IsSome (find resources (store_key res))

  -- the leases kept are just those that are out
  pub record AreLeased (h : List Event) (resources : Slots (Stowed T)) (leases : Slots ResKey) : Type 0 where
    pub each : (key : Key) (res : ResKey) → find leases key ≡ Some res → IsLeaseOf h resources key.number res
    pub every : (l : ℕ) → is_out h l ≡ true → HasKey leases l

  -- ties ------------------------------------------------------------------------------------------

  -- the tree is that of this history, settled or not
  pub record IsTied (base : Kept) (g : Ghosts T) (h : List Event) (tree : Tree T) : Type 0 where
    pub records : AreRecords base h tree.nodes tree.chain
    pub stored : AreStored base g h tree

  -- and so are the hubs beside it, each key of which is an open node's
  pub record AreTied (base : Kept) (g : Ghosts T) (h : List Event) (tree : Tree T) (hubs : Hubs) : Type 0 where
    pub of_tree : IsTied base g h tree
    pub published : AreHubsOf h hubs.hubs
    pub joined : AreJoined tree.nodes hubs.hubs

  -- and no rule is left undone, and what closing everything needs is reserved
  pub record IsStanding (g : Ghosts T) (b : Ground T) : Type 0 where
    pub tied : AreTied b.register.base g b.register.history b.tree b.hubs
    pub leased : AreLeased b.register.history b.tree.resources b.leases
    pub settled : IsSettled b.register.base b.register.history
    pub paid : IsPaid b.register

  -- there may be more room, and more or less of it set aside for events, and nothing else changed
  pub record IsRoomier (old new : Ground T) : Type 0 where
    pub register : new.register ≡ record old.register { room = new.register.room; mail_room = new.register.mail_room }
    pub mail_room : old.register.mail_room ≤ new.register.mail_room
    pub nodes : new.tree.nodes ≡ record old.tree.nodes { room = new.tree.nodes.room }
    pub resources : new.tree.resources ≡ record old.tree.resources { room = new.tree.resources.room }
    pub chain : new.tree.chain ≡ old.tree.chain
    pub hubs : new.hubs ≡ record old.hubs { room = new.hubs.room; slots = new.hubs.slots }
    pub leases : new.leases ≡ record old.leases { room = new.leases.room }
    pub closed : new.closed ≡ old.closed

  -- other room is set aside for events, no less than closing everything needs, and nothing else changed
  pub record SetsAside (old new : Ground T) : Type 0 where
    pub kept : new ≡ record old { register = record old.register { room = new.register.room } }
    pub enough : debt old.register.base old.register.history ≤ new.register.room

  -- there is room for what a call wants; where there are hubs, a subscriber may stand at each slot of the tree
  pub record HasRoom (b : Ground T) (wanted : Wanted) : Type 0 where
    pub events : wanted.events ≤ b.register.room
    pub notes : wanted.notes ≤ b.register.mail_room
    pub nodes : wanted.nodes ≤ b.tree.nodes.room
    pub space : wanted.nodes ≤ b.space
    pub resources : wanted.resources ≤ b.tree.resources.room
    pub hubs : wanted.hubs ≤ b.hubs.room
    pub slots : 0 < length b.hubs.hubs → b.tree.nodes.count + b.tree.nodes.room ≤ b.hubs.slots
    pub leases : wanted.leases ≤ b.leases.room

  -- there is room for so many events and notes beside what closing everything needs
  pub record HasRoomToTell (b : Ground T) (written told : ℕ) : Type 0 where
    pub events : debt b.register.base b.register.history + written ≤ b.register.room
    pub notes : open_count b.register.history + told ≤ b.register.mail_room

  -- there is room for what a call wants beside what closing everything needs
  pub record HasRoomBeside (b : Ground T) (wanted : Wanted) : Type 0 where
    pub events : debt b.register.base b.register.history + wanted.events ≤ b.register.room
    pub notes : open_count b.register.history + wanted.notes ≤ b.register.mail_room
    pub nodes : wanted.nodes ≤ b.tree.nodes.room
    pub space : wanted.nodes ≤ b.space
    pub resources : wanted.resources ≤ b.tree.resources.room
    pub hubs : wanted.hubs ≤ b.hubs.room
    pub slots : 0 < length b.hubs.hubs → b.tree.nodes.count + b.tree.nodes.room ≤ b.hubs.slots
    pub leases : wanted.leases ≤ b.leases.room

  -- of its resources, those held now that are older than this were held
  pub record KeepsHeld (old new : Tree T) (number : ℕ) : Type 0 where
    pub from : (res : ResKey) → is_held_at new res ≡ true → res.number < number → is_held_at old res ≡ true

  -- a resource that waits, by its number
  pub record IsListed (g : Ghosts T) (tree : Tree T) (handed : ℕ × T) : Type 0 where
    pub listed : Contains (map (label_in g) (waiting_in tree)) (label_of g handed.0 handed.1)

  -- another chain, and nothing else changed
  pub record WithChain (old new : Ground T) : Type 0 where
    pub same : new ≡ record old { tree = record old.tree { chain = new.tree.chain } }

  -- the node of this number and all below it are out, and nothing else changed
  pub record Cuts (old new : Tree T) (top : ℕ) : Type 0 where
    pub nodes : (key : Key) → find new.nodes key ≡ cond (is_below old.nodes top key.number) None (find old.nodes key)
    pub chain : new.chain ≡ outside old.nodes top old.chain
    pub resources : new.resources ≡ old.resources

  -- the marks of this key's record change so, and its key goes on the chain where its node has to end by them
  pub record Remarks (old new : Tree T) (key : Key) (change : Marks → Marks) : Type 0 where
    pub nodes : Rewrites old.nodes new.nodes key (λ node. with_marks (change node.marks) node)
    pub chain : new.chain ≡ with_due new.nodes key old.chain
    pub resources : new.resources ≡ old.resources

-- the list goes on with the keys of the node of this number and of all below it, each once
pub record Moves (nodes : Slots Node) (top : ℕ) (list longer : List Key) : Type 0 where
  pub moved : List Key
  pub listed : longer ≡ list ++ moved
  pub each : (key : Key) → Contains moved key → IsSome (find nodes key) × IsTrue (is_below nodes top key.number)
  pub every : (key : Key) → IsSome (find nodes key) → IsTrue (is_below nodes top key.number) → Contains moved key
  pub once : AllPairs (λ a b. a ≢ b) moved

-- of its leases, those out now that are older than this were out
pub record KeepsLeases (old new : Slots ResKey) (number : ℕ) : Type 0 where
  pub from : (key : Key) → IsSome (find new key) → key.number < number → IsSome (find old key)

-- the key of the node that a place names finds a record, or the place names none
abbrev pub is_there : Slots Node → Option Key → Bool
is_there nodes above = option_map_or (λ key. is_some (find nodes key)) above true

-- no node came, and those that stay open keep their records' keys
pub record KeepsNodes (h : List Event) (old new : Slots Node) : Type 0 where
  pub from : (key : Key) → IsSome (find new key) → IsSome (find old key)
  pub still : (key : Key) → IsSome (find old key) → is_open h key.number ≡ true → IsSome (find new key)

-- no node came that is older than this, and those that stay open keep their records' keys
pub record KeepsOlder (h : List Event) (number : ℕ) (old new : Slots Node) : Type 0 where
  pub from : (key : Key) → IsSome (find new key) → key.number < number → IsSome (find old key)
  pub still : (key : Key) → IsSome (find old key) → is_open h key.number ≡ true → IsSome (find new key)

-- a node came under this number, and no other
pub record IsNewNode (old new : Slots Node) (number : ℕ) (key : Key) : Type 0 where
  pub numbered : key.number ≡ number
  pub found : IsSome (find new key)
  pub from : (other : Key) → IsSome (find new other) → other.number < number → IsSome (find old other)

-- the key of the node that ends or closes by what is due, if one does
abbrev pub key_due : HubDue → Option Key
key_due (ConnectDue g) = None
key_due (EndDue key terminal) = Some key
key_due (CloseDue key) = Some key

-- where a hub waits for its connection there is room for its node
abbrev pub HasRoomToConnect : List Event → (room space : ℕ) → Type 0
HasRoomToConnect h room space = (g : ℕ) → IsConnectDue h g → (0 < room) × (0 < space)

module _ {T : Type 0} where
  -- it is forced, and the node that ends or closes by it is there
  pub record IsNext (b : Ground T) (due : HubDue) : Type 0 where
    pub forced : IsForced b.register.base b.register.history (event_of due)
    pub there : is_there b.tree.nodes (key_due due) ≡ true

-- the event may be written, and there is room for it and its notes
pub record IsReady (s : Register) (e : Event) : Type 0 where
  pub next : MayFollow s.base s.history e
  pub room : 0 < s.room
  pub notes : length (mail_of s.history e) ≤ s.mail_room
  pub pending : s.pending ≡ []
