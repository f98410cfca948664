use Rattle.rx_omitted.proofs.Naming.{own_nothing, own_base}
use Rattle.rx_omitted.proofs.laws.bases_have_own_places.Goals as goal

pub returns : goal.returns
returns c = record { empty = own_nothing; checkpoint = own_base }
