use Rattle.rx_event.proofs.Laws.Leases.{lease_older, lease_resource}
use Rattle.rx_event.proofs.Laws.NothingOpenNothingHeld.{out_leased, out_held, out_waits_not, out_untaken}
use Rattle.rx_event.proofs.theorems.resources.a_leased_resource_is_held.Goals as goal

pub returns : goal.returns
returns c = λ base. record {
  leased = out_leased base;
  held = out_held base;
  waits_not = out_waits_not base;
  untaken = out_untaken base;
  older = lease_older base;
  accepted = lease_resource base;
}
