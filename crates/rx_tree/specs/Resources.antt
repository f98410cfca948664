-- Which resources are held and which wait. A resource in the store is owned where its node is open and it was not
-- removed, and held where it is owned or a lease of it is out; else it waits. So a closing lets the resources wait of what
-- it closes, but those that are lent, and changes none of them.
use Rattle.std.specs.Prelude.{◌≡◌, ℕ, ◌+◌, ◌-◌, Bool, true, false, ◌&&◌, ◌||◌, ◌==◌, Some, Option, None, is_some, count_by}
use Rattle.std.specs.Option.{option_map_or}
use Rattle.std.proofs.Math.Bool.{not}
use Rattle.rx_resource.specs.declared.Resource.{Ghosts}
use Rattle.rx_slots.specs.declared.Entry.{Entry}
use Rattle.rx_slots.specs.declared.Key.{Key}
use Rattle.rx_slots.specs.Slots.{Slots, find, KeepsOthers}
use Rattle.rx_tree.specs.declared.node.Node.{Node}
use Rattle.rx_tree.specs.declared.node.ResKey.{ResKey}
use Rattle.rx_tree.specs.declared.node.Stowed.{Stowed}
use Rattle.rx_tree.specs.Tree.{Tree, Rewrites}

-- a resource's key as a key of the store
abbrev pub store_key : ResKey → Key
store_key res = record { slot = res.slot; number = res.number }

module _ {T : Type 0} where
  -- a resource as it comes to be held
  abbrev pub stowed_at : Key → T → Stowed T
  stowed_at key resource = record { node = key; removed = false; leases = 0; resource = resource }

  -- its node is open and it was not removed
  abbrev pub is_owned : Slots Node → Stowed T → Bool
  is_owned nodes stowed = is_some (find nodes stowed.node) && not stowed.removed

  -- a lease of it is out
  abbrev pub is_lent : Stowed T → Bool
  is_lent stowed = not (stowed.leases == 0)

  abbrev pub is_held : Slots Node → Stowed T → Bool
  is_held nodes stowed = is_owned nodes stowed || is_lent stowed

  -- what a resource's key finds
  abbrev pub stowed_of : Tree T → ResKey → Option (Stowed T)
  stowed_of tree res = find tree.resources (store_key res)

  -- a resource is owned under this key
  abbrev pub is_owned_at : Tree T → ResKey → Bool
  is_owned_at tree res = option_map_or (is_owned tree.nodes) (stowed_of tree res) false

  -- a lease is out of the resource under this key
  abbrev pub is_lent_at : Tree T → ResKey → Bool
  is_lent_at tree res = option_map_or is_lent (stowed_of tree res) false

  -- a resource is held under this key
  abbrev pub is_held_at : Tree T → ResKey → Bool
  is_held_at tree res = option_map_or (is_held tree.nodes) (stowed_of tree res) false

  -- what changes a resource that is removed
  abbrev pub removed : Stowed T → Stowed T
  removed stowed = record stowed { removed = true }

  -- what changes a resource that is leased, and one of which a lease is given back
  abbrev pub one_lease_more : Stowed T → Stowed T
  one_lease_more stowed = record stowed { leases = stowed.leases + 1 }

  abbrev pub one_lease_less : Stowed T → Stowed T
  one_lease_less stowed = record stowed { leases = stowed.leases - 1 }

  -- what changes a resource that is used
  abbrev pub with_resource : T → Stowed T → Stowed T
  with_resource resource stowed = record stowed { resource = resource }

  -- a value stands at a slot and is one that waits
  abbrev pub waits_in : Slots Node → Option (Entry (Stowed T)) → Bool
  waits_in nodes entry = option_map_or (λ e. not (is_held nodes e.value)) entry false

  -- how many wait
  abbrev pub waiting_count : Tree T → ℕ
  waiting_count tree = count_by (waits_in tree.nodes) tree.resources.entries

  -- a value stands at a slot and is one that leases alone hold
  abbrev pub lent_alone_in : Slots Node → Option (Entry (Stowed T)) → Bool
  lent_alone_in nodes entry = option_map_or (λ e. is_lent e.value && not (is_owned nodes e.value)) entry false

  -- how many leases alone hold
  abbrev pub lent_alone_count : Tree T → ℕ
  lent_alone_count tree = count_by (lent_alone_in tree.nodes) tree.resources.entries

  -- a resource that waited under this number is taken out, and the others stay
  pub record Takes (old new : Tree T) (number : ℕ) (resource : T) : Type 0 where
    pub key : Key
    pub stowed : Stowed T
    pub found : find old.resources key ≡ Some stowed
    pub numbered : key.number ≡ number
    pub handed : stowed.resource ≡ resource
    pub waited : is_held old.nodes stowed ≡ false
    pub gone : find new.resources key ≡ None
    pub others : KeepsOthers old.resources new.resources key
    pub count : new.resources.count + 1 ≡ old.resources.count
    pub room : new.resources.room ≡ old.resources.room + 1

  -- the resource of the key was used once more, and nothing else changes
  pub record Uses (g : Ghosts T) (old new : Tree T) (res : ResKey) (before : Stowed T) : Type 0 where
    pub after : T
    pub uses : g.uses_of after ≡ g.uses_of before.resource + 1
    pub tag : g.tag_of after ≡ g.tag_of before.resource
    pub life : g.life_of after ≡ g.life_of before.resource
    pub written : Rewrites old.resources new.resources (store_key res) (with_resource after)
    pub nodes : new.nodes ≡ old.nodes
    pub chain : new.chain ≡ old.chain
