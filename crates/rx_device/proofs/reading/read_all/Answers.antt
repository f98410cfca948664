use Rattle.std.proofs.Common.{◌≡◌, ◌+◌, ◌++◌, min, length, take, arith, length-append, length-take}
use Rattle.std.proofs.lemmas.Grind.{common_steps}
use Rattle.std.proofs.KnownBytes.{Consumes-trans}
use Rattle.rx_device.proofs.reading.read_all.Goals as goal

pub returns-then-count-len-clause-syntax : goal.returns-then-count-len-clause-syntax
returns-then-count-len-clause-syntax g c _ =
    let piece = take c.in-Some.count c.read.new.buffer in
    let joined : length (c.loop-turn.bytes.items ++ piece) ≡ length c.loop-turn.bytes.items + min c.in-Some.count (length c.read.new.buffer) =
    simp (length-append, length-take) in
    record {
      input = c.loop-turn.bytes.items ++ piece;
      consumes = Consumes-trans _ _ _ _ _ c.loop-turn.invariant.read c.in-Some.ensures.bytes;
      long = grind (arith, common_steps, joined);
    }
