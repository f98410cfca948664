use Rattle.rx_tree.proofs.Common.{arith}
use Rattle.rx_tree.proofs.MarksWritten.{slot_there}
use Rattle.rx_tree.proofs.store.Store.close_leaf.Goals as goal

pub at-leaf-requires : goal.at-leaf-requires
at-leaf-requires g c = record { there = slot_there c.args.self.now c.leaf_below-key.result c.leaf_below-key.ensures.there }

pub push_reserved-requires : goal.push_reserved-requires
push_reserved-requires g c = let some = c.at-leaf.ensures.some in let room = c.requires.room in omega (arith, some, room)

pub closed-requires : goal.closed-requires
closed-requires g c = record { fits = (let below = c.at-leaf.ensures.below in omega (arith, below)) }
