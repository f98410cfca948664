use Rattle.rx_roles.proofs.WhoWasThere.{who_was_there}
use Rattle.rx_roles.proofs.whom.a_step_tells_who_was_there.Goals as goal

pub returns : goal.returns
returns c = who_was_there
