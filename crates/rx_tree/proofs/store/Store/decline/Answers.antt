use Rattle.rx_tree.proofs.Common.{◌<◌, arith, after_decline}
use Rattle.rx_tree.proofs.InPlace.{seen_at}
use Rattle.rx_tree.proofs.MarksWritten.{slot_there, node_holds, owed_within, owed_less, remarked}
use Rattle.rx_tree.proofs.store.Store.decline.Goals as goal

pub at_mut-requires : goal.at_mut-requires
at_mut-requires g c = record { there = slot_there c.args.self.now c.args.key c.requires.«open» }

pub decline-requires : goal.decline-requires
decline-requires g c = node_holds c.args.self.now c.args.key c.requires.«open» _ (seen_at c.at_mut.ensures.value c.behind-self.view_is)
    (λ node. 0 < node.marks.owed)
    c.requires.owes

pub overflow_sub-self : goal.overflow_sub-self
overflow_sub-self g c =
    let part = owed_within c.args.self.now c.args.key c.requires.«open» _ (seen_at c.at_mut.ensures.value c.behind-self.view_is) c.requires.counted in
    let some = node_holds c.args.self.now c.args.key c.requires.«open» _ (seen_at c.at_mut.ensures.value c.behind-self.view_is) (λ node. 0 < node.marks.owed)
    c.requires.owes in omega (arith, part, some)

pub returns : goal.returns
returns g c = remarked c.args.self.now c.args.key c.requires.«open» _ (seen_at c.at_mut.ensures.value c.behind-self.view_is) c.requires.counted
    (λ node. after_decline node.marks) _ (owed_less _ _ (node_holds c.args.self.now c.args.key c.requires.«open» _
    (seen_at c.at_mut.ensures.value c.behind-self.view_is) (λ node. 0 < node.marks.owed) c.requires.owes)) _ c.decline.ensures
