-- What stands in slots, what a tree holds and what waits in it: the lists that contracts see, and what keys find.
use Rattle.rx_ground.proofs.Common.{◌≡◌, Bool, true, Some, Contains, Key, Slots, find, Stowed, Tree, is_held}
use Rattle.rx_ground.specs.Shown.{Kept, kept_in, held_in}
use Rattle.rx_ground.proofs.FoundIsListed.{filter_member, filter_has, kept_found, kept_listed}
use Rattle.std.proofs.Common.{rules}

module _ {X : Type 0} (slots : Slots X) where
  -- what is listed is found under its key, and what is found is listed
  pub kept_finds : (k : Kept X) → Contains (kept_in slots) k → find slots k.key ≡ Some k.value
  kept_finds k c = kept_found slots k c

  pub finds_kept : (key : Key) (x : X) → find slots key ≡ Some x → Contains (kept_in slots) (record { key = key; value = x })
  finds_kept key x found = kept_listed slots key x found

module _ {T : Type 0} (tree : Tree T) where
  abbrev holds : Kept (Stowed T) → Bool
  holds k = is_held tree.nodes k.value

  -- a resource that is listed as held is found under its key, and held
  pub held_finds : (k : Kept (Stowed T)) → Contains (held_in tree) k → (find tree.resources k.key ≡ Some k.value) × (is_held tree.nodes k.value ≡ true)
  held_finds k c = let m = filter_member holds (kept_in tree.resources) k c in (kept_found tree.resources k m.0, m.1)

  pub finds_held : (key : Key) (x : Stowed T) → find tree.resources key ≡ Some x → is_held tree.nodes x ≡ true →
      Contains (held_in tree) (record { key = key; value = x })
  finds_held key x found held = search (rules, filter_has, kept_listed)
