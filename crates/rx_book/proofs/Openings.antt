-- An opening against which nothing stands: there is room for the connection that it forces, and the node above is open.
use Rattle.rx_book.proofs.Common.{◌≡◌, ◌+◌, ◌<◌, ◌≤◌, Bool, true, List, [], ◌∷◌, length, cond, IsSome, refl, ap, subst, arith, Kept, Ghosts, Place, Kind, At}
use Rattle.rx_book.proofs.Common.{Event, Open, IsConnectDue, IsSettled, IsLawful, MayFollow, is_open_within, may_subscribe, find, Tree, IsPlaced, some_of}
use Rattle.rx_book.proofs.Common.{nodes_opened, Writes, opening_connects, Ground, list_room, TakesNoMemory, IsTied, HasRoomToConnect, is_there, place_of}
use Rattle.rx_book.proofs.Common.{key_above}
use Rattle.rx_slots.specs.declared.Key.{Key}
use Rattle.rx_ground.specs.Memory.{TakesOneNode}
use Rattle.rx_book.specs.declared.answer.At.TheVariants.{Root as AtRoot, Source as AtSource, Inner as AtInner, Notifier as AtNotifier}
use Rattle.std.proofs.Common.{rules}

-- where a hub waits after the opening there is room for its connection
pub opening_room : {T : Type 0} {old new : Ground T} {place : Place} {kind : Kind} → IsLawful old.register.base old.register.history →
    IsSettled old.register.base old.register.history →
    MayFollow old.register.base old.register.history (Open place kind) → Writes old.register (Open place kind ∷ []) new.register →
    nodes_opened old.register.history kind ≤ old.tree.nodes.room → nodes_opened old.register.history kind ≤ old.space →
    TakesOneNode old new → TakesNoMemory old new → old.closed ≡ [] → HasRoomToConnect new.register.history new.tree.nodes.room (list_room new)
opening_room {old} {place} {kind} law settled next w room space one memory begun = λ g waits.
    let forces = opening_connects old.register.history place kind g law settled (may_subscribe old.register.base next)
    (subst (λ (k : List Event). IsConnectDue k g) w.history waits) in
    let two : nodes_opened old.register.history kind ≡ 2 = ap (λ (b : Bool). 1 + cond b 1 0) forces in
    let nodes = memory.nodes in
    let closing = memory.closing in
    let none = ap (λ (keys : List Key). length keys) begun in
    let left = one.room in
    let listed = one.listed in (omega arith, omega arith)

-- and for its node, where the list of what is closed was begun
pub opening_space : {T : Type 0} (b : Ground T) (kind : Kind) → nodes_opened b.register.history kind ≤ b.space → b.closed ≡ [] → 0 < list_room b
opening_space b kind space begun = let none = ap (λ (keys : List Key). length keys) begun in omega arith

pub node_space : {T : Type 0} (b : Ground T) → 1 ≤ b.space → b.closed ≡ [] → 0 < list_room b
node_space b space begun = let none = ap (λ (keys : List Key). length keys) begun in omega arith

-- the node above
module _ (base : Kept) {T : Type 0} (g : Ghosts T) (h : List Event) (tree : Tree T) (tied : IsTied base g h tree) (kind : Kind) where
  is_lower : (key : Key) → IsSome (find tree.nodes key) → key.number < length h
  is_lower key there = search (rules, some_of, find, is_open_within)

  pub placed_at : (at : At) → is_there tree.nodes (key_above at) ≡ true → IsPlaced tree.nodes (length h) (Open (place_of at) kind) (key_above at)
  placed_at AtRoot there = record { makes = refl; named = refl; lower = tt; there = tt }
  placed_at (AtSource k) there = record { makes = refl; named = refl; lower = is_lower k there; there = there }
  placed_at (AtInner k) there = record { makes = refl; named = refl; lower = is_lower k there; there = there }
  placed_at (AtNotifier k) there = record { makes = refl; named = refl; lower = is_lower k there; there = there }
