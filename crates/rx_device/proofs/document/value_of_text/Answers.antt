use Rattle.rx_device.proofs.Documents.{read_whole, read_other}
use Rattle.rx_device.proofs.document.value_of_text.Goals as goal
use Rattle.std.proofs.Common.{rules}

pub returns-then-is_whole-clause-ok : goal.returns-then-is_whole-clause-ok
returns-then-is_whole-clause-ok c =
    search (rules, read_whole)

pub returns-in-Ok-read-clause-syntax : goal.returns-in-Ok-read-clause-syntax
returns-in-Ok-read-clause-syntax c = search (rules, read_other)
