use Rattle.rx_device.proofs.WholeNumbers.{signed_of_text, negative_of_text}
use Rattle.rx_device.proofs.part.signed.Goals as goal
use Rattle.std.proofs.Common.{rules}

pub returns-then-has_minus : goal.returns-then-has_minus
returns-then-has_minus c =
    search (rules, negative_of_text)

pub returns : goal.returns
returns c =
    search (rules, signed_of_text)
