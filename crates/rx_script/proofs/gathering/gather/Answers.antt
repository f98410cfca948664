use Rattle.rx_script.proofs.Common.{◌++◌, drop, notes}
use Rattle.rx_script.proofs.TakenUp.{counts_kept, goes_kept, notes_kept}
use Rattle.rx_script.proofs.gathering.gather.Goals as goal

pub returns-clause-ok : goal.returns-clause-ok
returns-clause-ok g c =
    let old = c.args.tallies.now in
    let noted = c.gather_notes.new.tallies in
    record {
      counts = λ front h counts goes law.
          c.in_ok-gather_events.ensures.counts front h (counts_kept front old noted c.in_ok-gather_notes.ensures.counts counts)
          (goes_kept front h c.args.book.now c.gather_notes.new.book c.in_ok-gather_notes.ensures.kept goes) law;
      notes = λ mail before.
          notes_kept (mail ++ drop c.args.book.now.given (notes c.args.book.now.history)) noted c.gather_events.new.tallies c.in_ok-gather_events.ensures.notes
          (c.in_ok-gather_notes.ensures.notes mail before);
    }
