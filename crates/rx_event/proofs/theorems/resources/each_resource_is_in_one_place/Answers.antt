use Rattle.rx_event.proofs.Laws.Resources.{in_one_place}
use Rattle.rx_event.proofs.Laws.Totals.{accepted_count-parts}
use Rattle.rx_event.proofs.theorems.resources.each_resource_is_in_one_place.Goals as goal

pub returns : goal.returns
returns c = λ base. record { one = in_one_place base; all = accepted_count-parts base }
