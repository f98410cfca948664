use Rattle.rx_live.proofs.Common.{◌+◌, ◌≤◌, string_bytes, session_of, IsSound, AreNamesWritten, names_left, HasRoom}
use Rattle.std.specs.String.{string_capacity}
use Rattle.rx_live.proofs.telling.tell_releases.Given as goal

abbrev pub invariant-names : goal.invariant-names
invariant-names l = record {
  written : AreNamesWritten (session_of l.fn.engine) (string_bytes l.fn.text) (session_of l.engine) (string_bytes l.text);
  sound : IsSound (session_of l.engine);
  room : HasRoom (l.rest + 14) l.text;
  capacity : string_capacity l.fn.text ≤ string_capacity l.text;
}

abbrev pub decreases-names : goal.decreases-names
decreases-names l = names_left (session_of l.engine)
