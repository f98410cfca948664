use Rattle.rx_script.proofs.NotesHandedOut.{stays_on}
use Rattle.rx_script.proofs.noting.keep_notes.Goals as goal

pub loop-preserved : goal.loop-preserved
loop-preserved g c = record {
  stays = stays_on c.loop.invariant.stays c.in_ok-next_note.ensures.stays;
  sound = c.in_ok-next_note.ensures.stays.sound;
}

pub returns : goal.returns
returns g c = stays_on c.loop.invariant.stays c.in_ok-next_note.ensures.stays
