use Rattle.rx_dump.proofs.JudgedAsGiven.{itself}
use Rattle.rx_dump.proofs.VerdictWithoutNames.{alone}
use Rattle.rx_dump.proofs.laws.a_dump_alone_has_no_names.Goals as goal

pub returns-clause-no_names : goal.returns-clause-no_names
returns-clause-no_names c = itself

pub returns-clause-same_verdict : goal.returns-clause-same_verdict
returns-clause-same_verdict c = alone
