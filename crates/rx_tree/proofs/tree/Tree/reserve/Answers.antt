use Rattle.rx_tree.proofs.RecordSteps.{room_nodes}
use Rattle.rx_tree.proofs.CountSteps.{counted_room_nodes}
use Rattle.rx_tree.proofs.tree.Tree.reserve.Goals as goal

pub invariant_of-self : goal.invariant_of-self
invariant_of-self g c =
    record {
      tied = room_nodes c.self.inside.store c.reserve.new.self c.reserve.ensures.kept c.self.invariant.tied;
      counted = counted_room_nodes c.self.inside.store c.self.invariant.counted c.reserve.new.self c.reserve.ensures.kept;
    }
