-- How the links of a tree, and its counts, stand to its records. No public clause cites this module.
use Rattle.std.specs.Prelude.{◌≡◌, ℕ, ◌<◌, ◌==◌, Bool, true, false, ◌&&◌, cond, List, [], ◌∷◌, Option, Some, None, is_some, count_by}
use Rattle.std.specs.Option.{option_map_or, option_and_then}
use Rattle.std.proofs.Math.Bool.{not}
use Rattle.rx_event.specs.Events.{is_root}
use Rattle.rx_slots.specs.declared.Entry.{Entry}
use Rattle.rx_event.specs.Marks.{Marks}
use Rattle.rx_slots.specs.declared.Key.{Key}
use Rattle.rx_slots.specs.Slots.{Slots, entry_of, entry_at, Changes}
use Rattle.rx_tree.specs.declared.links.Place.{Place}
use Rattle.rx_tree.specs.declared.links.Place.TheVariants.{Roots, Due, Waiting, Children, Held, Sibling, Noted, Stored}
use Rattle.rx_tree.specs.declared.node.Node.{Node}
use Rattle.rx_tree.specs.declared.node.Stowed.{Stowed}
use Rattle.rx_tree.specs.declared.store.Store.{Store}
use Rattle.rx_tree.specs.Owed.{owed_in}
use Rattle.rx_slots.specs.Rings.{is_among, Steps, AreRings}
use Rattle.rx_tree.specs.Places.{places}
use Rattle.rx_tree.specs.Resources.{is_owned, is_lent}
use Rattle.rx_tree.specs.Store.{key_on, next_of, previous_of, nodes_of, resources_of, held_count_at, KeepsLinks}
use Rattle.rx_tree.specs.Tree.{IsSound, AreApart, Rewrites, with_marks}

-- the ring that a node stands on among its siblings; a connection stands on none
abbrev pub sibling_ring : Node → Option Place
sibling_ring node = option_map_or (λ key. Some (Children key.slot)) node.above
    (cond (is_root node.made) (Some Roots) None)

-- nodes of rising numbers
abbrev pub Rises : Slots Node → List Place → Type 0
Rises nodes [] = Unit {0}
Rises nodes (p ∷ ps) = ((q : Place) → is_among places q ps ≡ true → (key_on nodes p).number < (key_on nodes q).number) ×
    Rises nodes ps

-- a ring of nodes by age
abbrev pub is_by_age : Place → Bool
is_by_age Roots = true
is_by_age (Children s) = true
is_by_age _ = false

module _ {T : Type 0} where
  -- the ring that a resource stands on: one of which a lease is out on none
  abbrev pub resource_ring : Slots Node → Stowed T → Option Place
  resource_ring nodes stowed = cond (is_lent stowed) None (Some (cond (is_owned nodes stowed) (Held stowed.node.slot) Waiting))

  -- the ring that a place stands on
  abbrev pub home_of : Slots Node → Slots (Stowed T) → (ℕ → Bool) → Place → Option Place
  home_of nodes resources noted (Sibling i) = option_and_then (λ e. sibling_ring e.value) (entry_at nodes i)
  home_of nodes resources noted (Noted i) = cond (noted i && is_some (entry_at nodes i)) (Some Due) None
  home_of nodes resources noted (Stored r) = option_and_then (λ e. resource_ring nodes e.value) (entry_at resources r)
  home_of nodes resources noted _ = None

  -- the rings go over what they should: children and roots by age, those that may be due, the resources at each
  -- node and those that wait
  pub record IsTiedAt (next previous : Steps Place) (nodes : Slots Node) (resources : Slots (Stowed T)) : Type 0 where
    pub rings : Place → List Place
    pub noted : ℕ → Bool
    pub ringed : AreRings places next previous (home_of nodes resources noted) rings
    pub rises : (e : Place) → is_by_age e ≡ true → Rises nodes (rings e)
    pub sound : IsSound nodes
    pub resources_apart : AreApart resources

  abbrev pub IsTied : Store T → Type 0
  IsTied s = IsTiedAt (next_of s) (previous_of s) (nodes_of s) (resources_of s)

  -- a resource that passes a test stands at a slot and no node owns it
  abbrev pub unowned_in : (Stowed T → Bool) → Slots Node → Option (Entry (Stowed T)) → Bool
  unowned_in test nodes entry = option_map_or (λ e. test e.value && not (is_owned nodes e.value)) entry false

  -- or the node of this slot does
  abbrev pub owned_at : (Stowed T → Bool) → Slots Node → ℕ → Option (Entry (Stowed T)) → Bool
  owned_at test nodes home entry = option_map_or (λ e. test e.value && (is_owned nodes e.value && (e.value.node.slot == home))) entry false

  -- of those that pass a test so many are owned by no node, and so many by each
  pub record AreCounted (test : Stowed T → Bool) (nodes : Slots Node) (resources : Slots (Stowed T)) (unowned : ℕ) (owned : ℕ → ℕ) : Type 0 where
    pub by_none : unowned ≡ count_by (unowned_in test nodes) resources.entries
    pub by_each : (slot : ℕ) → owned slot ≡ count_by (owned_at test nodes slot) resources.entries

  abbrev pub is_free : Stowed T → Bool
  is_free stowed = not (is_lent stowed)

  -- the counts are those of the resources without a lease out and with one, and of what the nodes owe
  pub record IsCounted (s : Store T) : Type 0 where
    pub free : AreCounted is_free (nodes_of s) (resources_of s) s.waiting_count.free (λ slot. (held_count_at s slot).free)
    pub lent : AreCounted is_lent (nodes_of s) (resources_of s) s.waiting_count.lent (λ slot. (held_count_at s slot).lent)
    pub owed : s.owed ≡ owed_in (nodes_of s)

  -- the record of this key, which was this one, has these marks now, and nothing else changes
  pub record IsRemarked (old new : Store T) (key : Key) (node : Node) (marks : Marks) : Type 0 where
    pub changes : Changes (nodes_of old) (nodes_of new) key.slot (Some (entry_of key.number (with_marks marks node)))
    pub rewrites : Rewrites (nodes_of old) (nodes_of new) key (with_marks marks)
    pub links : KeepsLinks old new
    pub resources : new.resources ≡ old.resources
    pub counted : IsCounted new

  -- what holds of each store between calls
  pub record IsKept (s : Store T) : Type 0 where
    pub tied : IsTied s
    pub counted : IsCounted s
