use Rattle.std.proofs.Common.{refl}
use Rattle.rx_explain.proofs.refusals.no_end.Goals as goal

pub on_kind-requires : goal.on_kind-requires
on_kind-requires c = (5, refl)

pub on_kind-requires-2 : goal.on_kind-requires-2
on_kind-requires-2 c = (4, refl)
