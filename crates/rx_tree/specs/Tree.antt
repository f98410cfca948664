-- What a contract sees of a tree: the records of its open nodes and the resources that came to it, each at a slot
-- and under its number, and the chain of what may be due. Slots are finite maps: a key, which is a slot and a
-- number, finds its own value alone.
use Rattle.std.specs.Prelude.{◌≡◌, ℕ, ◌<◌, ◌≤◌, Bool, ◌&&◌, ◌==◌, false, List, [], ◌∷◌, ◌++◌, Option}
use Rattle.std.specs.Prelude.{Some, None, is_some, IsSome, IfSome, IsTrue, option_map, cond}
use Rattle.std.specs.List.{list_any}
use Rattle.std.specs.Option.{option_and_then, option_map_or}
use Rattle.rx_event.specs.declared.event.Event.{Event}
use Rattle.rx_event.specs.Marks.{Marks}
use Rattle.rx_event.specs.Events.{makes_node, parent_named, is_root}
use Rattle.rx_event.specs.Marks.{blank_marks, terminal_due}
use Rattle.rx_event.specs.Tree.{if_less}
use Rattle.rx_slots.specs.declared.Key.{Key}
use Rattle.rx_slots.specs.Slots.{Slots, find, KeepsOthers}
use Rattle.rx_tree.specs.declared.node.Node.{Node}
use Rattle.rx_tree.specs.declared.node.Stowed.{Stowed}

-- the open nodes, the resources, and the keys of the nodes that may be due, in order
pub record Tree (T : Type 0) : Type 0 where
  pub nodes : Slots Node
  pub resources : Slots (Stowed T)
  pub chain : List Key

-- a record with blank marks
abbrev pub blank_node : Event → Option Key → Node
blank_node made above = record { made = made; above = above; marks = blank_marks }

-- the number of the node that this one's place names. It is followed only where it is less
abbrev pub named_above : ℕ → Node → Option ℕ
named_above number node = option_and_then (if_less number) (parent_named node.made)

-- the number of the parent of a key's node
abbrev pub parent_number : Slots Node → Key → Option ℕ
parent_number nodes key = option_and_then (named_above key.number) (find nodes key)

-- a key's node stands directly below another's
pub record IsChild (nodes : Slots Node) (parent child : Key) : Type 0 where
  pub there : IsSome (find nodes parent)
  pub named : parent_number nodes child ≡ Some parent.number

-- a key's node is a root, which is not said of a connection
abbrev pub IsRoot : Slots Node → Key → Type 0
IsRoot nodes key = IfSome (option_map (λ node. is_root node.made) (find nodes key)) IsTrue × IsSome (find nodes key)

-- of the keys that are so, one of the least number from this one on
pub record IsFirst (IsSo : Key → Type 0) (from : ℕ) (key : Key) : Type 0 where
  pub one : IsSo key
  pub at_least : from ≤ key.number
  pub least : (other : Key) → IsSo other → from ≤ other.number → key.number ≤ other.number

-- and none that is so has this number or a greater one
abbrev pub HasNone : (Key → Type 0) → ℕ → Type 0
HasNone IsSo from = (key : Key) → IsSo key → key.number < from

-- what changes a record's marks
abbrev pub with_marks : Marks → Node → Node
with_marks marks node = record node { marks = marks }

module _ {X : Type 0} where
  -- the value of this key changes so, and nothing else does
  pub record Rewrites (old new : Slots X) (key : Key) (change : X → X) : Type 0 where
    pub changed : find new key ≡ option_map change (find old key)
    pub others : KeepsOthers old new key
    pub rest : new ≡ record old { entries = new.entries }

  -- every number of a value is less
  abbrev pub IsPast : Slots X → ℕ → Type 0
  IsPast slots number = (key : Key) → IsSome (find slots key) → key.number < number

  -- no two values have one number
  abbrev pub AreApart : Slots X → Type 0
  AreApart slots = (a b : Key) → IsSome (find slots a) → IsSome (find slots b) → a.number ≡ b.number → a ≡ b

-- the event makes a node, and the key is that of the node which its place names, an open one with a lower number
pub record IsPlaced (nodes : Slots Node) (number : ℕ) (made : Event) (above : Option Key) : Type 0 where
  pub makes : IsTrue (makes_node made)
  pub named : parent_named made ≡ option_map (λ key. key.number) above
  pub lower : IfSome above (λ key. key.number < number)
  pub there : IfSome above (λ key. IsSome (find nodes key))

abbrev pub is_key : Key → Key → Bool
is_key a b = (a.slot == b.slot) && (a.number == b.number)

abbrev pub is_on : Key → List Key → Bool
is_on key chain = list_any (is_key key) chain

-- with a key last, where it is not there
abbrev pub with_last : Key → List Key → List Key
with_last key chain = cond (is_on key chain) chain (chain ++ key ∷ [])

-- the node that a key finds has to end, by its marks
abbrev pub is_due : Slots Node → Key → Bool
is_due nodes key = option_map_or (λ node. is_some (terminal_due node.made node.marks)) (find nodes key) false

-- with a key last, where its node has to end and it is not there
abbrev pub with_due : Slots Node → Key → List Key → List Key
with_due nodes key chain = cond (is_due nodes key) (with_last key chain) chain

-- the first of a list
abbrev pub first_of : List Key → Option Key
first_of [] = None
first_of (key ∷ keys) = Some key

-- no key stands twice
abbrev pub AreDistinct : List Key → Type 0
AreDistinct [] = Unit {0}
AreDistinct (key ∷ keys) = (is_on key keys ≡ false) × AreDistinct keys

-- no two nodes have one number, and each stands where its event says
pub record IsSound (nodes : Slots Node) : Type 0 where
  pub apart : AreApart nodes
  pub placed : (key : Key) (node : Node) → find nodes key ≡ Some node → IsPlaced nodes key.number node.made node.above

module _ {T : Type 0} where
  -- a node of this number is the newest: no node has it or a greater one, and none of those that resources were held at
  pub record IsNewest (tree : Tree T) (number : ℕ) : Type 0 where
    pub past : IsPast tree.nodes number
    pub homes : (key : Key) (stowed : Stowed T) → find tree.resources key ≡ Some stowed → stowed.node.number < number

  -- what holds of each tree: the nodes are sound, no two resources have one number, and what may be due is open and
  -- stands once on the chain
  pub record IsPromised (tree : Tree T) : Type 0 where
    pub sound : IsSound tree.nodes
    pub resources_apart : AreApart tree.resources
    pub distinct : AreDistinct tree.chain
    pub linked : (key : Key) → IsTrue (is_on key tree.chain) → IsSome (find tree.nodes key)
