use Rattle.std.proofs.Common.{refl}
use Rattle.rx_explain.proofs.refusals.no_merging.Goals as goal

pub on_kind-requires : goal.on_kind-requires
on_kind-requires c = (2, refl)
