use Rattle.rx_register.proofs.Laws.Calls.{called_paid}
use Rattle.rx_register.proofs.Laws.Paid.{forced_pays}
use Rattle.rx_register.proofs.theorems.room_is_kept.Goals as goal

pub returns : goal.returns
returns c = record { called = called_paid; forced = forced_pays }
