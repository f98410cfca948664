use Rattle.rx_tree.proofs.Common.{◌+◌, ◌<◌, ◌^◌, after_source}
use Rattle.rx_tree.proofs.InPlace.{seen_at}
use Rattle.rx_tree.proofs.MarksWritten.{slot_there, node_holds, owed_alike, remarked}
use Rattle.rx_tree.proofs.store.Store.open_source.Goals as goal

pub at_mut-requires : goal.at_mut-requires
at_mut-requires g c = record { there = slot_there c.args.self.now c.args.key c.requires.«open» }

pub open_source-requires : goal.open_source-requires
open_source-requires g c = node_holds c.args.self.now c.args.key c.requires.«open» _ (seen_at c.at_mut.ensures.value c.behind-self.view_is)
    (λ node. node.marks.open_children + 1 < 2 ^ 64) c.requires.room

pub returns : goal.returns
returns g c = remarked _ _ c.requires.«open» _ (seen_at c.at_mut.ensures.value c.behind-self.view_is) c.requires.counted
    (λ node. after_source node.marks) _ (owed_alike _ _) _
    c.open_source.ensures
