use Rattle.std.proofs.Common.{rules}
use Rattle.rx_device.proofs.WholeNumbers.{number_of-plain, number_of-minus}
use Rattle.rx_device.proofs.document.number_has_value.Goals as goal

pub returns-then-has_minus : goal.returns-then-has_minus
returns-then-has_minus c =
    search (rules, number_of-minus)

pub returns : goal.returns
returns c =
    search (rules, number_of-plain)
