use Rattle.rx_resource.specs.contracts.token.TokenResource.TheImpl.{ghosts}
use Rattle.cellarcliff.proofs.ToldInOrder.{steps_leave_nothing}
use Rattle.cellarcliff.proofs.laws.steps_leave_nothing.Goals as goal

pub returns : goal.returns
returns c = steps_leave_nothing ghosts c.nothing_is_left_where_nothing_is_handed_out.ensures c.nothing_is_astray_where_the_outermost_hands_out_nothing.ensures
