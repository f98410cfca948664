-- Writes that take no memory, alone and in turn.
use Rattle.rx_ground.proofs.Common.{◌≡◌, ◌+◌, List, length, refl, ap, length-append, Event, Slots, Node, Hubs, arith, Writes, Ground, TakesNoMemory}
use Rattle.std.proofs.Common.{rules}

-- slots whose entries alone changed
pub same_places : {X : Type 0} (old new : Slots X) → new ≡ record old { entries = new.entries } → new.count + new.room ≡ old.count + old.room
same_places {X = X} old new same = ap (λ (s : Slots X). s.count + s.room) same

module _ {T : Type 0} where
  -- what was written takes the register's room, and the tree beside it keeps its own
  pub written_memory : {old new : Ground T} (es : List Event) → Writes old.register es new.register →
      new.tree.nodes.count + new.tree.nodes.room ≡ old.tree.nodes.count + old.tree.nodes.room →
      new.tree.resources.count + new.tree.resources.room ≡ old.tree.resources.count + old.tree.resources.room →
      new.tree.nodes.count + new.space ≡ old.tree.nodes.count + old.space →
      length new.hubs.hubs + new.hubs.room ≡ length old.hubs.hubs + old.hubs.room → new.hubs.slots ≡ old.hubs.slots → TakesNoMemory old new
  written_memory {old = old} {new = new} es w nodes resources closing hubs slots = search (rules, length, length-append)

  pub no_memory : (b : Ground T) → TakesNoMemory b b
  no_memory b = record { events = refl; notes = refl; nodes = refl; resources = refl; hubs = refl; slots = refl; closing = refl }

  -- so it is where what was written follows on a change that took none
  pub memory_after : {old mid new : Ground T} → TakesNoMemory old mid → (es : List Event) → Writes old.register es new.register →
      new.tree.nodes.count + new.tree.nodes.room ≡ mid.tree.nodes.count + mid.tree.nodes.room → new.tree.resources ≡ mid.tree.resources →
      new.tree.nodes.count + new.space ≡ mid.tree.nodes.count + mid.space →
      length new.hubs.hubs + new.hubs.room ≡ length mid.hubs.hubs + mid.hubs.room → new.hubs.slots ≡ mid.hubs.slots → TakesNoMemory old new
  memory_after before es w nodes resources space hubs slots = search (rules, written_memory)

  -- as where of the nodes the entries alone changed, and no hub
  pub memory_beside : {old mid new : Ground T} → TakesNoMemory old mid → (es : List Event) → Writes old.register es new.register →
      new.tree.nodes ≡ record mid.tree.nodes { entries = new.tree.nodes.entries } → new.tree.resources ≡ mid.tree.resources → new.space ≡ mid.space →
      new.hubs ≡ mid.hubs → TakesNoMemory old new
  memory_beside {mid = mid} {new = new} before es w places resources space hubs =
      let count = ap (λ (s : Slots Node). s.count) places in
      memory_after before es w (same_places mid.tree.nodes new.tree.nodes places) resources (omega arith)
      (ap (λ (hs : Hubs). length hs.hubs + hs.room) hubs) (ap (λ (hs : Hubs). hs.slots) hubs)

  -- one after the other
  pub memory_on : (a b c : Ground T) → TakesNoMemory a b → TakesNoMemory b c → TakesNoMemory a c
  memory_on a b c x y = search rules
