use Rattle.std.proofs.Common.{refl}
use Rattle.rx_engine.proofs.handing.tell_rest.Goals as goal

pub returns-clause-tells : goal.returns-clause-tells
returns-clause-tells c =
    record { hears = c.tell.ensures.hears; effects = c.tell.ensures.effects; room = c.tell.ensures.room; only = refl }
