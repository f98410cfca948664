-- The notes so far were kept, and nothing else changed.
use Rattle.rx_script.proofs.Common.{◌-◌, length, notes, IsSound}
use Rattle.rx_script.specs.Engine.{StaysAt}
use Rattle.rx_script.proofs.noting.keep_notes.Given as goal

abbrev pub invariant-loop : goal.invariant-loop
invariant-loop g l = record { stays : StaysAt l.initial.engine l.engine; sound : IsSound l.engine }

abbrev pub decreases-loop : goal.decreases-loop
decreases-loop g l = length (notes l.engine.book.history) - l.engine.book.given
