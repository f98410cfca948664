-- An item of a leaf that makes one stop makes no other however much room there is.
use Rattle.rx_ground.proofs.Common.{Option, Some, None, sym, ap, ◌∙◌, Key, Slots, Node, Stop, Hubs, stops_over, nodes_at, MakesOnly, Ground, IsRoomier}
use Rattle.rx_ground.proofs.Bare.{stops_bare}

pub MakesOnly-roomier : {T : Type 0} (old new : Ground T) (leaf : Key) (only : Option Stop) → IsRoomier old new →
    MakesOnly old.tree.nodes old.hubs.hubs leaf only → MakesOnly new.tree.nodes new.hubs.hubs leaf only
MakesOnly-roomier old new leaf None roomier one = tt
MakesOnly-roomier old new leaf (Some stop) roomier one =
    let nodes = ap (λ (s : Slots Node). s.entries) roomier.nodes in
    let hubs = ap (λ (s : Hubs). s.hubs) roomier.hubs in
    sym (stops_bare new.tree.nodes new.hubs.hubs leaf) ∙ (λ i. stops_over (nodes_at (nodes i)) (hubs i) leaf) ∙
    stops_bare old.tree.nodes old.hubs.hubs leaf ∙ one
