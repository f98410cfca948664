-- The parts that were read, before those that are left.
use Rattle.rx_dump.proofs.Common.{length, items_view, in_event}
use Rattle.rx_dump.proofs.Arrays.{AreBefore}
use Rattle.rx_dump.proofs.reading.parts_of.Given as goal

abbrev pub invariant-parts : goal.invariant-parts
invariant-parts l = AreBefore in_event l.initial.reader l.reader (items_view l.parts.items)

abbrev pub decreases-parts : goal.decreases-parts
decreases-parts l = length l.reader
