-- What a checkpoint keeps of a tree: a record of each node and of each resource that came to it.
use Rattle.std.specs.Prelude.{ℕ, List, cond, option_map}
use Rattle.std.specs.List.{range_with_len, filter_map}
use Rattle.std.specs.List.Sorted.{IsPermutation, IsNonDecreasingBy}
use Rattle.rx_resource.specs.declared.Resource.{Ghosts}
use Rattle.rx_event.specs.declared.base.BaseNode.{BaseNode}
use Rattle.rx_event.specs.declared.base.BaseResource.{BaseResource}
use Rattle.rx_event.specs.declared.base.BaseState.{BaseState}
use Rattle.rx_event.specs.declared.base.BaseState.TheVariants.{Owned, Leased, Waiting}
use Rattle.rx_slots.specs.declared.Entry.{Entry}
use Rattle.rx_slots.specs.Slots.{Slots, entry_at, slot_count}
use Rattle.rx_tree.specs.declared.node.Node.{Node}
use Rattle.rx_tree.specs.declared.node.Stowed.{Stowed}
use Rattle.rx_tree.specs.Resources.{is_owned, is_lent}

-- what is kept of each value, by rising slot
abbrev pub kept_by : {X Y : Type 0} → (Entry X → Y) → Slots X → List Y
kept_by keep slots = filter_map (λ slot. option_map keep (entry_at slots slot)) (range_with_len 0 (slot_count slots))

-- the second list is the first by rising number
pub record IsByNumber {Y : Type 0} (number : Y → ℕ) (xs ys : List Y) : Type 0 where
  pub same : IsPermutation xs ys
  pub rising : IsNonDecreasingBy number ys

-- of a node: what made it, and what it has to remember while nothing is due there
abbrev pub node_as_kept : Entry Node → BaseNode
node_as_kept e =
    record {
      number = e.number;
      made = e.value.made;
      source_opened = e.value.marks.source_opened;
      notifier_opened = e.value.marks.notifier_opened;
      source_completed = e.value.marks.source_completed;
      owed = e.value.marks.owed;
    }

module _ {T : Type 0} where
  -- what holds a resource
  abbrev pub state_in : Slots Node → Stowed T → BaseState
  state_in nodes stowed = cond (is_owned nodes stowed) Owned (cond (is_lent stowed) Leased Waiting)

  -- of a resource: where it was accepted, its tag and uses, and what holds it
  abbrev pub resource_as_kept : Ghosts T → Slots Node → Entry (Stowed T) → BaseResource
  resource_as_kept g nodes e =
      record {
        number = e.number;
        node = e.value.node.number;
        tag = g.tag_of e.value.resource;
        uses = g.uses_of e.value.resource;
        state = state_in nodes e.value;
      }
