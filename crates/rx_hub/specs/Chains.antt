-- What stands on the chains of hubs for which something may be due. No public clause cites this module.
use Rattle.std.specs.Prelude.{◌≡◌, ℕ, ◌+◌, ◌<◌, ◌≤◌, Bool, true, false, List, Option, Some, None, is_some, length, slice_get}
use Rattle.rx_hub.specs.declared.hub.HubDue.{HubDue}
use Rattle.rx_hub.specs.declared.hub.Published.{Published}
use Rattle.rx_hub.specs.Due.{connect_of, due_of}
use Rattle.rx_hub.specs.Hubs.{Hub, Hubs}
use Rattle.rx_slots.specs.Lists.{Lists, list_at, head_of, is_in}

-- nothing is due at a hub whose index is not on the chain
abbrev pub IsCalm : (Hub → Option HubDue) → List Hub → Lists → Type 0
IsCalm due hubs chain = (i : ℕ) (hub : Hub) → slice_get hubs i ≡ Some hub → is_in i (list_at chain 0) ≡ false → due hub ≡ None

-- a chain is one list, and there is one where something may stand on it
pub record IsChain (chain : Lists) : Type 0 where
  pub single : length chain.lists ≤ 1
  pub there : 0 < chain.members → 0 < length chain.lists

-- an index is put on a chain where it is not there
pub record Puts (old new : Lists) (index : ℕ) : Type 0 where
  pub kept : (i : ℕ) → is_in i (list_at new 0) ≡ false → (is_in i (list_at old 0) ≡ false) × (i ≡ index → ⊥)
  pub chain : IsChain new
  pub members : new.members ≡ old.members

-- the same, where something is due there
pub record Notes (gives : Option HubDue) (old new : Lists) (index : ℕ) : Type 0 where
  pub kept : (i : ℕ) → is_in i (list_at new 0) ≡ false → (is_in i (list_at old 0) ≡ false) × (i ≡ index → gives ≡ None)
  pub chain : IsChain new
  pub members : new.members ≡ old.members

-- nothing stands on the chains
abbrev pub AreEmpty : (waiting due : Lists) → Type 0
AreEmpty waiting due = (head_of (list_at waiting 0) ≡ None) × (head_of (list_at due 0) ≡ None)

-- nothing is due at a hub by a subscriber that comes: it has a connection, and keeps no end
abbrev pub IsSteady : Published → Type 0
IsSteady hub = (is_some hub.connection ≡ true) × (hub.last_end ≡ None)

-- the hubs and their chains, on which something stands at most where that is said
pub record IsLinked (store : Hubs) (waiting due : Lists) (noted : Bool) : Type 0 where
  pub waits : IsCalm connect_of store.hubs waiting
  pub acts : IsCalm due_of store.hubs due
  pub waiting_chain : IsChain waiting
  pub due_chain : IsChain due
  pub fit : length store.hubs ≤ waiting.members
  pub both : waiting.members ≤ due.members
  pub room : waiting.members ≤ length store.hubs + store.room
  pub empty : noted ≡ false → AreEmpty waiting due

-- this is due at some hub
pub record IsAt (due : Hub → Option HubDue) (hubs : List Hub) (d : HubDue) : Type 0 where
  pub index : ℕ
  pub hub : Hub
  pub there : slice_get hubs index ≡ Some hub
  pub gives : due hub ≡ Some d
