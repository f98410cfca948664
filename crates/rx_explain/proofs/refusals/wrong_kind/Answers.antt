use Rattle.std.proofs.Common.{refl}
use Rattle.rx_explain.proofs.refusals.wrong_kind.Goals as goal

pub on_kind-requires : goal.on_kind-requires
on_kind-requires c = (4, refl)
