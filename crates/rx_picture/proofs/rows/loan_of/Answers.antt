use Rattle.rx_picture.proofs.Common.{get_or}
use Rattle.rx_picture.proofs.Loans.{loan_is}
use Rattle.rx_picture.proofs.rows.loan_of.Goals as goal
use Rattle.std.proofs.Common.{rules}

pub returns : goal.returns
returns c =
    search (rules, loan_is, get_or)
