use Rattle.rx_script.proofs.NotesHandedOut.{note_kept}
use Rattle.rx_script.proofs.noting.next_note.Goals as goal

pub returns-clause-stays : goal.returns-clause-stays
returns-clause-stays g c = note_kept c.args.engine.now c.in-Some.note c.add_note.new.self c.take_mail.new.self c.requires c.in-Some.ensures.given
    c.in-Some.ensures.value c.promise-2.ensures c.in_ok-add_note.ensures.notes c.add_note.ensures.kept
