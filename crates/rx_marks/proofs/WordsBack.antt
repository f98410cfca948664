-- Words tell the marks that they were made of.
use Rattle.rx_event.proofs.Laws.Common.{◌≡◌, Bool}
use Rattle.rx_marks.specs.MarksInWords.{two_of, first_in, second_in}
use Rattle.std.proofs.Common.{rules}

pub first_back : (a b : Bool) → first_in (two_of a b) ≡ a
first_back x0 x1 = search rules

pub second_back : (a b : Bool) → second_in (two_of a b) ≡ b
second_back x0 x1 = search rules
