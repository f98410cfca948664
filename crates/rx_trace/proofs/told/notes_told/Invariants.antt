-- The notes so far were handed out, and nothing else changed.
use Rattle.rx_trace.proofs.Common.{◌≡◌, ◌≤◌, ◌-◌, length, map, take, drop, string_bytes, notes, told_note, node_binding, IsSound, StaysAt, Rise}
use Rattle.rx_trace.proofs.told.notes_told.Given as goal

abbrev pub invariant-loop-told : goal.invariant-loop-told
invariant-loop-told g l = record {
  begun : l.initial.engine.book.given ≤ l.engine.book.given;
  told : Rise (map node_binding l.initial.engine.nodes) → map string_bytes l.told.items ≡ map (told_note (map node_binding l.initial.engine.nodes))
      (drop l.initial.engine.book.given (take l.engine.book.given (notes l.initial.engine.book.history)));
  book : l.engine.book ≡ record l.initial.engine.book { given = l.engine.book.given };
  stays : StaysAt l.initial.engine l.engine;
  sound : IsSound l.engine;
}

abbrev pub decreases-loop-told : goal.decreases-loop-told
decreases-loop-told g l = length (notes l.engine.book.history) - l.engine.book.given
