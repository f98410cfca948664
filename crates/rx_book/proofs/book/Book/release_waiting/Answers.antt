use Rattle.rx_book.proofs.Common.{ap, subst, arith, Kept, taken_count, Taking, IsStepOf, none_taken, next_taken}
use Rattle.rx_book.proofs.Laws.StepsContinue.{accepted_continues, continues_none, continues_more}
use Rattle.rx_book.proofs.Closings.{taken_one, less_room, none_waits}
use Rattle.rx_book.proofs.book.Book.release_waiting.Goals as goal
use Rattle.rx_book.proofs.book.Book.release_waiting.Goals.{then-is_some, else-is_some}
use Rattle.std.proofs.Common.{rules}

pub loop-handed-init : goal.loop-handed-init
loop-handed-init g c = search (rules, none_taken, continues_none)

pub loop-handed-smaller : goal.loop-handed-smaller
loop-handed-smaller g c = less_room c.loop-handed.self c.take.new.self _ c.in-Some.ensures.accepted c.promise-in-Some.ensures (omega arith)

pub loop-handed-preserved : goal.loop-handed-preserved
loop-handed-preserved g c =
    let one = taken_one c.loop-handed.self.base c.loop-handed.self.history c.take.new.self.history _ c.in-Some.ensures.accepted.step in
    let same = ap (λ (b : Kept). taken_count b c.take.new.self.history) c.in-Some.ensures.accepted.base in
    let faults = c.loop-handed.invariant.faults in
    record {
      kept = c.promise-in-Some.ensures;
      takes = next_taken c.loop-handed.invariant.takes
          (subst (λ (b : Kept). IsStepOf b c.loop-handed.self.history (Taking c.in-Some.handed.0) c.take.new.self.history)
          c.loop-handed.invariant.continues.base c.in-Some.ensures.accepted.step);
      continues = continues_more c.args.self.now c.loop-handed.self c.take.new.self c.loop-handed.invariant.continues
          (accepted_continues c.loop-handed.self c.take.new.self _ c.in-Some.ensures.accepted);
      faults = elim c.if-is_some.branch [ then-is_some w ↦ omega arith | else-is_some w ↦ omega arith ];
    }

pub returns-clause-drains : goal.returns-clause-drains
returns-clause-drains g c = search (rules, none_waits)
