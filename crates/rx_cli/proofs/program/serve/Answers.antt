use Rattle.rx_cli.proofs.Common.{Err, Memory}
use Rattle.rx_storm.specs.declared.StormFault.TheVariants.{Memory as NoMemory}
use Rattle.rx_cli.proofs.NotBegunWithoutMemory.{answered_without_memory, stormed_without_memory}
use Rattle.rx_cli.proofs.OutcomesTold.{told_plainly}
use Rattle.rx_cli.proofs.program.serve.Goals as goal

-- what is asked of an input, for which memory was refused before it was read
pub returns-then-eq-clause-answered : goal.returns-then-eq-clause-answered
returns-then-eq-clause-answered g c = λ asked _. (
  Err Memory,
  answered_without_memory _ _ _ asked _ _,
  told_plainly _ _ _ _ (Err Memory) c.out_of_memory.ensures.status c.out_of_memory.ensures.line,
)

-- the same of a storm
pub returns-then-eq-clause-stormed : goal.returns-then-eq-clause-stormed
returns-then-eq-clause-stormed g c = λ sources workers items _. (
  Err NoMemory,
  stormed_without_memory _ _,
  record {
    says = c.out_of_memory.ensures.status;
    line = c.out_of_memory.ensures.line;
  },
)
