use Rattle.std.proofs.Common.{refl}
use Rattle.rx_explain.proofs.refusals.connected.Goals as goal

pub on_hub-requires : goal.on_hub-requires
on_hub-requires c = (0, refl)
