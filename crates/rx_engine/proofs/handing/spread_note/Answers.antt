use Rattle.std.proofs.Common.{arith}
use Rattle.rx_engine.proofs.NotesTold.{told_loaded}
use Rattle.rx_engine.proofs.handing.spread_note.Goals as goal

pub tell_note-requires : goal.tell_note-requires
tell_note-requires c = record { room = let had = c.requires.ready.room in omega (arith, had) }

pub spread_some-requires : goal.spread_some-requires
spread_some-requires c = told_loaded c.requires.ready c.tell_note.ensures

pub returns : goal.returns
returns c = record {
  told = c.tell_note.new.parts;
  tells = c.tell_note.ensures;
  spreads = c.spread_some.ensures.spreads;
  ready = c.spread_some.ensures.ready;
  promised = c.spread_some.ensures.promised;
}
