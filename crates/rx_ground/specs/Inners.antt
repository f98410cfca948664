-- The inner observables of a Switch: one at most is open, and one that is opened takes its place (Switch: it unsubscribes from
-- the previous inner). No public clause cites this module.
use Rattle.std.specs.Prelude.{◌≡◌, ℕ, ◌+◌, ◌≤◌, Bool, true, false, List, None, IsSome, length}
use Rattle.rx_event.specs.declared.event.Place.{Place}
use Rattle.rx_event.specs.declared.event.Place.TheVariants.{Inner}
use Rattle.rx_event.specs.declared.event.Event.{Event}
use Rattle.rx_event.specs.Events.{is_switch, is_inner_of}
use Rattle.rx_event.specs.Tree.{at, is_open}
use Rattle.rx_slots.specs.declared.Key.{Key}
use Rattle.rx_slots.specs.Slots.{Slots, find}
use Rattle.rx_tree.specs.declared.node.Node.{Node}
use Rattle.rx_tree.specs.Owed.{owed_in}
use Rattle.rx_tree.specs.Tree.{Tree}
use Rattle.rx_hub.specs.Hubs.{Hubs}
use Rattle.rx_ground.specs.Memory.{TakesNoMemory}
use Rattle.rx_ground.specs.Shown.{Ground}
use Rattle.rx_ground.specs.Ties.{Cuts, Moves, left_inside}

-- the key of an open inner
pub record IsInner (h : List Event) (nodes : Slots Node) (merging : ℕ) (inner : Key) : Type 0 where
  pub stands : at (is_inner_of merging) h inner.number ≡ true
  pub found : IsSome (find nodes inner)

-- no inner is open
abbrev pub HasNoInner : List Event → ℕ → Type 0
HasNoInner h merging = (n : ℕ) → at (is_inner_of merging) h n ≡ true → is_open h n ≡ false

-- what is opened at this place takes the place of this node, the open inner of a Switch
pub record IsReplaced (h : List Event) (nodes : Slots Node) (place : Place) (key : Key) : Type 0 where
  pub switch : ℕ
  pub named : place ≡ Inner switch
  pub switches : at is_switch h switch ≡ true
  pub inner : IsInner h nodes switch key

-- and here it takes the place of none
abbrev pub ReplacesNone : List Event → Place → Type 0
ReplacesNone h place = (f : ℕ) → place ≡ Inner f → at is_switch h f ≡ true → HasNoInner h f

module _ {T : Type 0} where
  -- such a node and all below it are out, and nothing else changed
  pub record Exchanges (h : List Event) (place : Place) (old new : Tree T) : Type 0 where
    pub inner : Key
    pub replaced : IsReplaced h old.nodes place inner
    pub cuts : Cuts old new inner.number

  -- the tree is ready for what is opened at this place, in the place of an open inner or not
  pub record MakesWay (h : List Event) (place : Place) (old new : Tree T) (replaces : Bool) : Type 0 where
    pub exchanged : replaces ≡ true → Exchanges h place old new
    pub none : replaces ≡ false → ReplacesNone h place
    pub same : replaces ≡ false → new ≡ old

  -- what stands inside such a node left the hubs too
  pub record LeavesHubs (h : List Event) (place : Place) (old new : Tree T) (hubs left : Hubs) : Type 0 where
    pub inner : Key
    pub replaced : IsReplaced h old.nodes place inner
    pub cuts : Cuts old new inner.number
    pub leave : left ≡ left_inside h inner.number None hubs

  -- the hubs are ready for what is opened at this place, in the place of an open inner or not
  pub record ClearsHubs (h : List Event) (place : Place) (old new : Tree T) (hubs left : Hubs) (replaces : Bool) : Type 0 where
    pub exchanged : replaces ≡ true → LeavesHubs h place old new hubs left
    pub same : replaces ≡ false → left ≡ hubs

  -- the list goes on with such a node and all below it
  pub record ListsReplaced (h : List Event) (place : Place) (old new : Tree T) (list longer : List Key) : Type 0 where
    pub inner : Key
    pub replaced : IsReplaced h old.nodes place inner
    pub cuts : Cuts old new inner.number
    pub moves : Moves old.nodes inner.number list longer

  -- the list is that of what is closed for what is opened at this place, in the place of an open inner or not
  pub record ListsWay (h : List Event) (place : Place) (old new : Tree T) (list longer : List Key) (replaces : Bool) : Type 0 where
    pub exchanged : replaces ≡ true → ListsReplaced h place old new list longer
    pub same : replaces ≡ false → longer ≡ list
    pub counted : length longer + new.nodes.count ≡ length list + old.nodes.count

  -- what making way for a node leaves of a ground: it is ready for what is opened at this place, and no memory was taken
  pub record IsLeft (place : Place) (replaces : Bool) (old left : Ground T) : Type 0 where
    pub way : MakesWay old.register.history place old.tree left.tree replaces
    pub hubs : ClearsHubs old.register.history place old.tree left.tree old.hubs left.hubs replaces
    pub register : left.register ≡ old.register
    pub leases : left.leases ≡ old.leases
    pub owed : owed_in left.tree.nodes ≤ owed_in old.tree.nodes
    pub room : old.tree.nodes.room ≤ left.tree.nodes.room
    pub memory : TakesNoMemory old left
    pub lists : ListsWay old.register.history place old.tree left.tree old.closed left.closed replaces
