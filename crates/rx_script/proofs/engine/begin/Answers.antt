use Rattle.rx_script.proofs.Common.{ap, rules, arith}
use Rattle.rx_script.proofs.AllStored.{begun}
use Rattle.rx_script.proofs.engine.begin.Goals as goal

pub returns-clause-sound : goal.returns-clause-sound
returns-clause-sound g c = record {
  kept = c.promise.ensures;
  nodes = search rules;
  resources = search rules;
  leases = search rules;
  faults = omega arith;
}

pub returns-clause-history : goal.returns-clause-history
returns-clause-history g c = begun _ _ (ap (λ s. s.base) c.new-book.ensures) (ap (λ s. s.history) c.new-book.ensures) (ap (λ s. s.given)
    c.new-book.ensures) c.new-6.ensures.counts c.new-6.ensures.notes
