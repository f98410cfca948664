-- What a session keeps beside what its book promises.
use Rattle.rx_live.proofs.Common.{IsPromised, Session, IsSound, IsTied}
use Rattle.std.proofs.Common.{rules}

pub sound_of : (s : Session) → IsPromised s.book → IsTied s → IsSound s
sound_of s kept tied = search rules
