use Rattle.rx_tree.proofs.Common.{sym, ap, ◌∙◌, is_merging, after_child, ◌<◌}
use Rattle.rx_tree.proofs.InPlace.{seen_at}
use Rattle.rx_tree.proofs.MarksWritten.{slot_there, node_holds, owed_alike, remarked}
use Rattle.rx_tree.proofs.store.Store.end_child.Goals as goal

pub at_mut-record-requires : goal.at_mut-record-requires
at_mut-record-requires g c = record { there = slot_there c.args.self.now c.args.key c.requires.«open» }

pub end_child-requires : goal.end_child-requires
end_child-requires g c = node_holds c.args.self.now c.args.key c.requires.«open» _ (seen_at c.at_mut-record.ensures.value c.record.view_is)
    (λ node. 0 < node.marks.open_children) c.requires.child

pub returns : goal.returns
returns g c =
    let merging = c.is_merging-merging.ensures ∙ ap (λ l. is_merging l.node.made) (sym c.record.view_is) in
    remarked _ _ c.requires.«open» _ (seen_at c.at_mut-record.ensures.value c.record.view_is) c.requires.counted
    (λ node. after_child c.args.is_source (is_merging node.made) c.args.terminal node.marks) _ (owed_alike _ _) _
    (c.end_child.ensures ∙ ap (λ m. after_child c.args.is_source m c.args.terminal c.record.inside.marks) merging)
