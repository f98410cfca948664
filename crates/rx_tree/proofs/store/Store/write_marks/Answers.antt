use Rattle.rx_tree.proofs.InPlace.{seen_at}
use Rattle.std.proofs.Common.{refl, ◌+◌, ◌-◌, ap, ◌∙◌, arith}
use Rattle.rx_tree.proofs.MarksWritten.{slot_there, owed_within, remarked}
use Rattle.rx_tree.proofs.store.Store.write_marks.Goals as goal
use Rattle.std.proofs.Common.{rules}

pub at_mut-record-requires : goal.at_mut-record-requires
at_mut-record-requires g c = record { there = slot_there c.args.self.now c.args.key c.requires.«open» }

pub overflow_add-self : goal.overflow_add-self
overflow_add-self g c = let was = c.requires.counted.owed in let few = c.requires.countable in omega (arith, was, few)

pub overflow_sub-self : goal.overflow_sub-self
overflow_sub-self g c = search (rules, owed_within)

pub returns : goal.returns
returns g c = remarked _ _ c.requires.«open» _ (seen_at c.at_mut-record.ensures.value c.record.view_is) c.requires.counted (λ node. c.args.marks) _
    (ap (λ k. c.args.self.now.owed + k - c.owed-before.result) c.owed.ensures ∙
    ap (λ k. c.args.self.now.owed + c.args.marks.owed - k) c.owed-before.ensures) _ refl
