use Rattle.std.proofs.Common.{refl}
use Rattle.rx_explain.proofs.refusals.let_go.Goals as goal

pub on_number-requires : goal.on_number-requires
on_number-requires c = (2, refl)
