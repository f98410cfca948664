use Rattle.rx_engine.proofs.RoomGotten.{ready_within}
use Rattle.rx_engine.proofs.emitting.emit.Goals as goal

pub returns-in-Ok-Told-clause-ready : goal.returns-in-Ok-Told-clause-ready
returns-in-Ok-Told-clause-ready c =
    let told = rw c.in-Ok-Told.field-0-is at c.in-Ok-Told.ensures.ok in
    ready_within _ c.spare.result c.args.parts.now told.within c.requires.ready c.spare.ensures.room c.spare.ensures.spare
