-- What a contract sees of a live book.
use Rattle.std.specs.Prelude.{ℕ, List, string_bytes}
use Rattle.std.specs.Option.{option_map_or}
use Rattle.rx_live.specs.Session.{Session, session_of}
use Rattle.rx_live.specs.declared.live.Live.{Live}

abbrev pub session : Live → Session
session l = session_of l.engine

-- the answer to its last line
abbrev pub answer : Live → List ℕ
answer l = option_map_or string_bytes l.answer (string_bytes l.kept)
