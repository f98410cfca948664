-- No key of an old node or resource comes back: not by one write, nor by more of them.
use Rattle.rx_ground.proofs.Common.{◌≡◌, ℕ, ◌<◌, ◌≤◌, Bool, true, false, List, length, Some, is_some, IsSome, arith, not}
use Rattle.rx_ground.proofs.Common.{◌||◌, option_map_or, and_parts, and_from, Kept, Ghosts, Event, IsLawful, Key, Slots, find, Stowed, ResKey}
use Rattle.rx_ground.proofs.Common.{Tree, store_key, is_lent, is_held_at, IsTied, KeepsNodes, KeepsOlder, KeepsHeld, KeepsLeases, IsNewNode}
use Rattle.rx_ground.proofs.ResourcesAfterEvent.{stored_within}
use Rattle.std.proofs.Common.{rules}

or_true : (b : Bool) → (b || true) ≡ true
or_true x0 = search rules

or_false : (b : Bool) → (b || false) ≡ b
or_false x0 = search rules

module _ {T : Type 0} where
  -- of what is older than this, only what was there is there
  pub record KeepsKeys (old new : Tree T) (number : ℕ) : Type 0 where
    pub nodes : (key : Key) → IsSome (find new.nodes key) → key.number < number → IsSome (find old.nodes key)
    pub held : (res : ResKey) → is_held_at new res ≡ true → res.number < number → is_held_at old res ≡ true

  -- one change after another
  pub keeps_on : (old mid new : Tree T) (number later : ℕ) → number ≤ later → KeepsKeys old mid number → KeepsKeys mid new later → KeepsKeys old new number
  keeps_on old mid new number later le first then = search rules

  -- where no resource changed, what is held was held, if its node was there
  pub held_before : (old new : Tree T) → new.resources ≡ old.resources → (res : ResKey) →
      ((s : Stowed T) → find old.resources (store_key res) ≡ Some s → IsSome (find new.nodes s.node) → IsSome (find old.nodes s.node)) →
      is_held_at new res ≡ true → is_held_at old res ≡ true
  held_before old new same res from held = search (rules, find, option_map_or, is_lent, is_some, not, or_true, and_parts, or_false, and_from)

  -- a closing
  pub keeps_closed : (h : List Event) (old new : Tree T) (number : ℕ) → KeepsNodes h old.nodes new.nodes → new.resources ≡ old.resources →
      KeepsKeys old new number
  keeps_closed h old new number kept same = search (rules, held_before)

  -- what changes no node
  pub keeps_held : (old new : Tree T) (number : ℕ) → new.nodes ≡ old.nodes → KeepsHeld old new number → KeepsKeys old new number
  keeps_held old new number same kept = search (rules, is_some, find)

  -- what changes no tree
  pub keeps_same : (old new : Tree T) (number : ℕ) → new ≡ old → KeepsKeys old new number
  keeps_same old new number same = search (rules, is_some, find, is_held_at)

  -- an opening, or more than one: each resource is held at an older node
  pub keeps_older : {base : Kept} → (g : Ghosts T) (h : List Event) (old new : Tree T) → IsLawful base h → IsTied base g h old →
      ((key : Key) → IsSome (find new.nodes key) → key.number < length h → IsSome (find old.nodes key)) → new.resources ≡ old.resources →
      KeepsKeys old new (length h)
  keeps_older {base} g h old new law tied from same = record {
    nodes = from;
    held = λ res held l. held_before old new same res (λ s found there. from s.node there (older (store_key res) s found)) held;
  }
    where
      older : (k : Key) (s : Stowed T) → find old.resources k ≡ Some s → s.node.number < length h
      older k s found = let w = stored_within base g h law old.nodes k.number s (tied.stored.each k s found) in let r = w.0 in let n = w.1 in omega arith

  pub keeps_opened : {base : Kept} → {g : Ghosts T} (h : List Event) (old new : Tree T) (key : Key) → IsLawful base h → IsTied base g h old →
      IsNewNode old.nodes new.nodes (length h) key → new.resources ≡ old.resources → KeepsKeys old new (length h)
  keeps_opened {g} h old new key law tied opened same = keeps_older g h old new law tied opened.from same

  -- and what was forced
  pub keeps_settled : {base : Kept} → {g : Ghosts T} (h k : List Event) (old new : Tree T) → IsLawful base h → IsTied base g h old →
      KeepsOlder k (length h) old.nodes new.nodes → new.resources ≡ old.resources → KeepsKeys old new (length h)
  keeps_settled {g} h k old new law tied kept same = keeps_older g h old new law tied kept.from same

-- leases that stay, all of them
pub leases_stay : (old new : Slots ResKey) (number : ℕ) → new ≡ old → KeepsLeases old new number
leases_stay old new number same = search (rules, is_some, find)
