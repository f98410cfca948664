use Rattle.rx_device.proofs.WholeNumbers.{whole_of_text, none_of_text}
use Rattle.rx_device.proofs.part.whole.Goals as goal
use Rattle.std.proofs.Common.{rules}

pub returns-then-has_minus : goal.returns-then-has_minus
returns-then-has_minus c =
    search (rules, none_of_text)

pub returns : goal.returns
returns c =
    search (rules, whole_of_text)
