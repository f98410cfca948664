use Rattle.rx_resource.specs.contracts.token.TokenResource.TheImpl.{ghosts}
use Rattle.cellarcliff.proofs.OwnTickets.{tickets_are_own}
use Rattle.cellarcliff.proofs.laws.tickets_are_own.Goals as goal

pub returns : goal.returns
returns c = tickets_are_own ghosts
