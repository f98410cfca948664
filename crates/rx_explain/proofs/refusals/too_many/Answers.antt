use Rattle.std.proofs.Common.{refl}
use Rattle.rx_explain.proofs.refusals.too_many.Goals as goal

pub plain-requires-in-Item : goal.plain-requires-in-Item
plain-requires-in-Item c = (2, refl)
