use Rattle.rx_tree.proofs.Common.{arith, after_projection}
use Rattle.rx_tree.proofs.InPlace.{seen_at}
use Rattle.rx_tree.proofs.MarksWritten.{slot_there, owed_within, owed_more, remarked}
use Rattle.rx_tree.proofs.store.Store.project.Goals as goal
use Rattle.std.proofs.Common.{rules}

pub at_mut-requires : goal.at_mut-requires
at_mut-requires g c = record { there = slot_there c.args.self.now c.args.key c.requires.«open» }

pub project-requires : goal.project-requires
project-requires g c = search (rules, owed_within)

pub overflow_add-self : goal.overflow_add-self
overflow_add-self g c = let was = c.requires.counted.owed in let few = c.requires.countable in omega (arith, was, few)

pub returns : goal.returns
returns g c = remarked _ _ c.requires.«open» _ (seen_at c.at_mut.ensures.value c.behind-self.view_is) c.requires.counted
    (λ node. after_projection node.marks) _ (owed_more _ _) _
    c.project.ensures
