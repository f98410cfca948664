-- What contracts see of a register, a tree, hubs and leases of one history, and of the resources that wait there.
use Rattle.std.specs.Prelude.{ℕ, suc, ◌-◌, List, [], ◌∷◌, Option, Some, None, map, length}
use Rattle.std.proofs.Math.Bool.{not}
use Rattle.std.specs.List.{filter}
use Rattle.rx_resource.specs.declared.Resource.{Ghosts}
use Rattle.rx_resource.specs.declared.Life.{Life}
use Rattle.rx_slots.specs.declared.Entry.{Entry}
use Rattle.rx_slots.specs.declared.Key.{Key as SlotKey}
use Rattle.rx_slots.specs.Slots.{Slots}
use Rattle.rx_tree.specs.Closing.{Closed}
use Rattle.rx_tree.specs.declared.node.ResKey.{ResKey}
use Rattle.rx_tree.specs.declared.node.Stowed.{Stowed}
use Rattle.rx_tree.specs.Tree.{Tree}
use Rattle.rx_tree.specs.Resources.{is_held}
use Rattle.rx_hub.specs.Hubs.{Hubs}
use Rattle.rx_register.specs.State.{State as Register}

-- a resource that is kept: the number of its acceptance, its tag, its life, and how often it was used
pub record Label : Type 0 where
  pub number : ℕ
  pub tag : ℕ
  pub life : Life
  pub uses : ℕ

abbrev pub label_of : {T : Type 0} → Ghosts T → ℕ → T → Label
label_of g number x = record { number = number; tag = g.tag_of x; life = g.life_of x; uses = g.uses_of x }

-- a value of some slots, with its key
pub record Kept (X : Type 0) : Type 0 where
  pub key : SlotKey
  pub value : X

module _ {X : Type 0} where
  -- the values at these slots, the first of which is the one given
  abbrev pub kept_from : ℕ → List (Option (Entry X)) → List (Kept X)
  kept_from slot [] = []
  kept_from slot (None ∷ entries) = kept_from (suc slot) entries
  kept_from slot (Some e ∷ entries) = record { key = record { slot = slot; number = e.number }; value = e.value } ∷ kept_from (suc slot) entries

  abbrev pub kept_in : Slots X → List (Kept X)
  kept_in slots = kept_from 0 slots.entries

-- the keys that closed nodes had
abbrev pub closed_key : Closed → SlotKey
closed_key c = c.key

abbrev pub closed_keys : List Closed → List SlotKey
closed_keys closed = map closed_key closed

-- a register, the tree, the hubs and the leases beside it, the keys of the nodes that were closed since it was last begun, and for how
-- many nodes beside those of the tree that list has room
pub record Ground (T : Type 0) : Type 0 where
  pub register : Register
  pub tree : Tree T
  pub hubs : Hubs
  pub leases : Slots ResKey
  pub closed : List SlotKey
  pub space : ℕ

module _ {T : Type 0} where
  -- for how many more nodes the list has room, beside those of the tree and those that it lists
  abbrev pub list_room : Ground T → ℕ
  list_room b = b.space - length b.closed

  -- the resources that a tree holds
  abbrev pub held_in : Tree T → List (Kept (Stowed T))
  held_in tree = filter (λ k. is_held tree.nodes k.value) (kept_in tree.resources)

  -- the resources that wait in a tree: those that it does not hold
  abbrev pub waiting_in : Tree T → List (Kept (Stowed T))
  waiting_in tree = filter (λ k. not (is_held tree.nodes k.value)) (kept_in tree.resources)

  abbrev pub label_in : Ghosts T → Kept (Stowed T) → Label
  label_in g k = label_of g k.key.number k.value.resource
