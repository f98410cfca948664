use Rattle.rx_live.proofs.Common.{◌+◌, ◌≤◌, length, string_bytes, session_of, IsSound, to_tell, AreNotesWritten, HasRoom}
use Rattle.std.specs.String.{string_capacity}
use Rattle.rx_live.proofs.telling.tell_notes.Given as goal

abbrev pub invariant-notes : goal.invariant-notes
invariant-notes l = record {
  written : AreNotesWritten (session_of l.fn.engine) (string_bytes l.fn.text) (session_of l.engine) (string_bytes l.text);
  sound : IsSound (session_of l.engine);
  room : HasRoom (l.rest + 15) l.text;
  capacity : string_capacity l.fn.text ≤ string_capacity l.text;
}

abbrev pub decreases-notes : goal.decreases-notes
decreases-notes l = length (to_tell (session_of l.engine))
