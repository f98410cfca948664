use Rattle.rx_tree.proofs.InPlace.{seen_at}
use Rattle.rx_tree.proofs.MarksWritten.{slot_there, owed_alike, remarked}
use Rattle.rx_event.specs.Marks.{after_firing}
use Rattle.rx_tree.proofs.store.Store.fire.Goals as goal

pub at_mut-requires : goal.at_mut-requires
at_mut-requires g c = record { there = slot_there c.args.self.now c.args.key c.requires.«open» }

pub returns : goal.returns
returns g c = remarked _ _ c.requires.«open» _ (seen_at c.at_mut.ensures.value c.behind-self.view_is) c.requires.counted
    (λ node. after_firing node.marks) _ (owed_alike _ _) _ c.fire.ensures
