use Rattle.rx_audit.proofs.Common.{sym, arith, refl, false≢true}
use Rattle.rx_audit.proofs.DueListCovers.{noted_none}
use Rattle.rx_audit.proofs.Due.{no_connect_due}
use Rattle.rx_audit.proofs.KnownNodesAndHubs.{known_due}
use Rattle.rx_audit.proofs.DueLists.{acts_unsettled, none_acts_settled, waits_unsettled}
use Rattle.rx_audit.proofs.duties.settle.Goals as goal
use Rattle.std.proofs.Common.{rules}

pub returns-then-any_connect_due-clause-answer : goal.returns-then-any_connect_due-clause-answer
returns-then-any_connect_due-clause-answer c = search (rules, false≢true, waits_unsettled)

pub returns-then-acts-clause-answer : goal.returns-then-acts-clause-answer
returns-then-acts-clause-answer c = (
  λ no_so. absurd (false≢true no_so),
  λ settled. absurd (acts_unsettled _ _ (no_connect_due _ (sym
      c.if-any_connect_due.ensures)) (sym c.if-acts.ensures) settled),
)

pub returns-clause-answer : goal.returns-clause-answer
returns-clause-answer c = (
  λ yes_so. none_acts_settled _ (no_connect_due _ (sym c.if-any_connect_due.ensures)) (λ n y. noted_none _ n _ (omega arith)
      (c.loop-left.invariant.covered n y)),
  λ settled. refl,
)

pub returns-then-acts-clause-known : goal.returns-then-acts-clause-known
returns-then-acts-clause-known c = search (rules, known_due)

pub returns-clause-known : goal.returns-clause-known
returns-clause-known c = search (rules, known_due, noted_none)
