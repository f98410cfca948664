use Rattle.rx_tree.proofs.Common.{◌+◌, ◌<◌, ◌^◌, arith, after_inner}
use Rattle.rx_tree.proofs.InPlace.{seen_at}
use Rattle.rx_tree.proofs.MarksWritten.{slot_there, node_holds, owed_within, owed_less, remarked}
use Rattle.rx_tree.proofs.store.Store.open_inner.Goals as goal

pub at_mut-requires : goal.at_mut-requires
at_mut-requires g c = record { there = slot_there c.args.self.now c.args.key c.requires.«open» }

pub open_inner-requires-clause-owes : goal.open_inner-requires-clause-owes
open_inner-requires-clause-owes g c = node_holds c.args.self.now c.args.key c.requires.«open» _ (seen_at c.at_mut.ensures.value c.behind-self.view_is)
    (λ node. 0 <
    node.marks.owed) c.requires.owes

pub open_inner-requires-clause-room : goal.open_inner-requires-clause-room
open_inner-requires-clause-room g c = node_holds c.args.self.now c.args.key c.requires.«open» _ (seen_at c.at_mut.ensures.value c.behind-self.view_is) (λ node.
    node.marks.open_children + 1 < 2 ^ 64) c.requires.room

pub overflow_sub-self : goal.overflow_sub-self
overflow_sub-self g c =
    let part = owed_within c.args.self.now c.args.key c.requires.«open» _ (seen_at c.at_mut.ensures.value c.behind-self.view_is) c.requires.counted in
    let some = node_holds c.args.self.now c.args.key c.requires.«open» _ (seen_at c.at_mut.ensures.value c.behind-self.view_is) (λ node. 0 < node.marks.owed)
    c.requires.owes in omega (arith, part, some)

pub returns : goal.returns
returns g c = remarked c.args.self.now c.args.key c.requires.«open» _ (seen_at c.at_mut.ensures.value c.behind-self.view_is) c.requires.counted
    (λ node. after_inner c.args.replaces node.marks) _ (owed_less _ _ (node_holds c.args.self.now c.args.key c.requires.«open» _
    (seen_at c.at_mut.ensures.value c.behind-self.view_is) (λ node. 0 < node.marks.owed) c.requires.owes)) _ c.open_inner.ensures
