-- The records with their links, and what of them callers see. No public clause cites this module.
use Rattle.std.specs.Prelude.{◌≡◌, ℕ, ◌+◌, ◌-◌, Bool, true, false, cond, map, length, Some, None, option_map, is_some}
use Rattle.std.specs.Option.{option_map_or}
use Rattle.rx_slots.specs.declared.Entry.{Entry}
use Rattle.rx_slots.specs.declared.Key.{Key}
use Rattle.rx_slots.specs.Slots.{Slots, entry_of, entry_at, value_at, number_at, find, Changes, KeepsOthers}
use Rattle.rx_tree.specs.declared.links.Link.{Link}
use Rattle.rx_tree.specs.declared.links.Place.{Place}
use Rattle.rx_tree.specs.declared.links.Place.TheVariants.{Roots, Due, Waiting, Children, Held, Sibling, Noted, Stored}
use Rattle.rx_tree.specs.declared.node.Node.{Node}
use Rattle.rx_tree.specs.declared.node.Stowed.{Stowed}
use Rattle.rx_tree.specs.declared.store.Store.{Store}
use Rattle.rx_tree.specs.declared.counts.Counts.{Counts}
use Rattle.rx_slots.specs.Rings.{walk, Steps}
use Rattle.rx_tree.specs.Places.{is_place, slot_of, places}
use Rattle.rx_tree.specs.Tree.{Tree}

-- slots whose values are seen through a function
abbrev pub on_entry : {X Y : Type 0} → (X → Y) → Entry X → Entry Y
on_entry f e = record { number = e.number; value = f e.value }

abbrev pub project : {X Y : Type 0} → (X → Y) → Slots X → Slots Y
project f s = record {
  entries = map (option_map (on_entry f)) s.entries;
  next_slot = s.next_slot;
  count = s.count;
  room = s.room;
}

module _ {X : Type 0} where
  -- a value comes to a slot that was free, under its number
  pub record Inserts (old new : Slots X) (key : Key) (number : ℕ) (value : X) : Type 0 where
    pub numbered : key.number ≡ number
    pub was_free : entry_at old key.slot ≡ None
    pub changes : Changes old new key.slot (Some (entry_of number value))
    pub found : find new key ≡ Some value
    pub kept : KeepsOthers old new key
    pub count : new.count ≡ old.count + 1

  -- the value of a key is taken out
  pub record Takes_out (old new : Slots X) (key : Key) : Type 0 where
    pub changes : Changes old new key.slot None
    pub gone : find new key ≡ None
    pub kept : KeepsOthers old new key
    pub count : new.count + 1 ≡ old.count
    pub room : new.room ≡ old.room + 1

-- counts of what has no lease out, and of what has one
abbrev pub no_counts : Counts
no_counts = record { free = 0; lent = 0 }

abbrev pub count_if : Bool → Counts → ℕ
count_if lent counts = cond lent counts.lent counts.free

abbrev pub one_more : Bool → Counts → Counts
one_more lent counts = cond lent (record counts { lent = counts.lent + 1 }) (record counts { free = counts.free + 1 })

abbrev pub one_less : Bool → Counts → Counts
one_less lent counts = cond lent (record counts { lent = counts.lent - 1 }) (record counts { free = counts.free - 1 })

-- one of those with a lease out is one of the others
abbrev pub freed : Counts → Counts
freed counts = one_more false (one_less true counts)

-- a place that leads to itself
abbrev pub alone : Place → Link
alone p = record { next = p; previous = p }

-- the key of a place's node
abbrev pub key_on : Slots Node → Place → Key
key_on nodes p = record { slot = slot_of p; number = option_map_or (λ n. n) (number_at nodes (slot_of p)) 0 }

module _ {T : Type 0} where
  abbrev pub nodes_of : Store T → Slots Node
  nodes_of s = project (λ l. l.node) s.nodes

  abbrev pub resources_of : Store T → Slots (Stowed T)
  resources_of s = project (λ r. r.stowed) s.resources

  -- the link of a place, which leads to itself where nothing stands there
  abbrev pub link_at : Store T → Place → Link
  link_at s Roots = s.roots
  link_at s Due = s.due
  link_at s Waiting = s.waiting
  link_at s (Children slot) = option_map_or (λ l. l.children) (value_at s.nodes slot) (alone (Children slot))
  link_at s (Held slot) = option_map_or (λ l. l.held) (value_at s.nodes slot) (alone (Held slot))
  link_at s (Sibling slot) = option_map_or (λ l. l.sibling) (value_at s.nodes slot) (alone (Sibling slot))
  link_at s (Noted slot) = option_map_or (λ l. l.noted) (value_at s.nodes slot) (alone (Noted slot))
  link_at s (Stored slot) = option_map_or (λ r. r.link) (value_at s.resources slot) (alone (Stored slot))

  abbrev pub set_link_at : Place → Link → Store T → Place → Link
  set_link_at p link s q = cond (is_place p q) link (link_at s q)

  abbrev pub next_of : Store T → Steps Place
  next_of s p = (link_at s p).next

  abbrev pub previous_of : Store T → Steps Place
  previous_of s p = (link_at s p).previous

  -- a place where something stands
  abbrev pub stands : Slots Node → Slots (Stowed T) → Place → Bool
  stands nodes resources Roots = true
  stands nodes resources Due = true
  stands nodes resources Waiting = true
  stands nodes resources (Children slot) = is_some (entry_at nodes slot)
  stands nodes resources (Held slot) = is_some (entry_at nodes slot)
  stands nodes resources (Sibling slot) = is_some (entry_at nodes slot)
  stands nodes resources (Noted slot) = is_some (entry_at nodes slot)
  stands nodes resources (Stored slot) = is_some (entry_at resources slot)

  abbrev pub is_there : Store T → Place → Bool
  is_there s p = stands (nodes_of s) (resources_of s) p

  -- how many resources a slot's node counts as its own
  abbrev pub held_count_at : Store T → ℕ → Counts
  held_count_at s slot = option_map_or (λ l. l.held_count) (value_at s.nodes slot) no_counts

  -- no link changes
  abbrev pub KeepsLinks : Store T → Store T → Type 0
  KeepsLinks old new = (p : Place) → link_at new p ≡ link_at old p

  -- nothing changes but links
  pub record Relinks (old new : Store T) : Type 0 where
    pub nodes : nodes_of new ≡ nodes_of old
    pub resources : resources_of new ≡ resources_of old
    pub waiting_count : new.waiting_count ≡ old.waiting_count
    pub owed : new.owed ≡ old.owed
    pub held_count : (slot : ℕ) → held_count_at new slot ≡ held_count_at old slot

  -- what callers see
  abbrev pub shown : Store T → Tree T
  shown s =
      record {
        nodes = nodes_of s;
        resources = resources_of s;
        chain = map (key_on (nodes_of s)) (walk places (length s.nodes.entries) (next_of s) Due);
      }
