use Rattle.std.proofs.Common.{None, List, ℕ, length, subst, rules}
use Rattle.rx_live.proofs.NamesOfOpenNodes.{open_on}
use Rattle.rx_live.proofs.ClosedNamesForgotten.{AreLeft, left_one, left_end, left_none}
use Rattle.rx_live.proofs.renewing.forget_all_closed.Goals as goal

pub numbers-preserved : goal.numbers-preserved
numbers-preserved c =
    let book = c.args.book.now in
    record {
      same = open_on None book c.args.nodes.now c.numbers.nodes c.forget_closed.new.nodes c.numbers.invariant.same c.forget_closed.ensures.same;
      paired = c.forget_closed.ensures.paired;
      left = left_one book c.numbers.nodes c.forget_closed.new.nodes c.pop.new.self.items c.in-Some.number c.forget_closed.ensures.same
          c.forget_closed.ensures.left (subst (λ (ns : List ℕ). AreLeft book c.numbers.nodes ns) c.in-Some.ensures.items c.numbers.invariant.left);
    }

pub returns-clause-open_alone : goal.returns-clause-open_alone
returns-clause-open_alone c = search (rules, length, left_none, left_end)
