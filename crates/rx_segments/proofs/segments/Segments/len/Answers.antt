use Rattle.std.proofs.Common.{arith}
use Rattle.rx_segments.proofs.KeptSteps.{length_items}
use Rattle.rx_segments.proofs.segments.Segments.len.Goals as goal

pub returns : goal.returns
returns g c =
    let s = c.self.inside in
    rw (← c.self.view_is) (omega (arith, length_items s.full s.last s.spare c.self.invariant, c.len.ensures, c.len-2.ensures))
