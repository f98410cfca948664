use Rattle.rx_resource.specs.contracts.token.TokenResource.TheImpl.{ghosts}
use Rattle.rx_courses.proofs.LawsOfShares.{serves_shares}
use Rattle.rx_courses.proofs.share_laws.shares_are_served.Goals as goal

pub returns : goal.returns
returns c = serves_shares ghosts
