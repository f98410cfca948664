use Rattle.std.proofs.Common.{refl, arith, leb-true}
use Rattle.rx_time.proofs.SlotsInOrder.{after_last}
use Rattle.rx_time.proofs.run.comes_last.Goals as goal

pub returns-then-last-ticket : goal.returns-then-last-ticket
returns-then-last-ticket g c later = let slots = c.args.slots.now in after_last slots.items _ _ _ c.requires (omega (
  arith,
  slots.ok.0,
  c.in-Some.ensures.variant.0 refl,
)) (rw slots.ok.0 at c.in-Some.ensures.lookup) c.if-last-ticket.true (leb-true _ _ later)
