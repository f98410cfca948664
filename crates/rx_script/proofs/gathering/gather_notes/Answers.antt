use Rattle.rx_script.proofs.Common.{◌≡◌, ◌≤◌, ◌++◌, Some, None, length, take, drop, slice_get, sym, ap, subst, ◌∙◌, arith, notes, Tallies, AreNotesOf}
use Rattle.rx_script.proofs.TakenUp.{same_history, one_more_given, handed_book, mail_first, mail_next, mail_all, all_given}
use Rattle.rx_script.proofs.gathering.gather_notes.Goals as goal
use Rattle.std.proofs.Common.{rules}

pub loop-note-init : goal.loop-note-init
loop-note-init g c = search (rules, mail_first)

pub loop-note-preserved : goal.loop-note-preserved
loop-note-preserved g c =
    let first = c.args.book.now in
    let now = c.loop-note.book in
    let so_far = c.loop-note.invariant in
    let all = notes first.history in
    let begun = so_far.begun in
    let same = same_history first now c.take_mail.new.self so_far.book c.in-Some.ensures.given in
    let more = one_more_given first now c.take_mail.new.self so_far.book c.in-Some.ensures.given in
    let within : now.given ≤ length all = subst (λ h. now.given ≤ length (notes h)) same so_far.kept.given in
    let found : Some c.in-Some.note ≡ slice_get all now.given = c.in-Some.ensures.value ∙ ap (λ h. slice_get (notes h) now.given) same in
    record {
      kept = c.promise-in-Some.ensures;
      begun = omega arith;
      notes = λ mail before. subst (λ l. AreNotesOf l c.add_note.new.self)
          (mail_next mail all first.given now.given c.in-Some.note begun within found ∙ ap (λ n. mail ++ drop first.given (take n all)) (sym more))
          (c.in_ok-add_note.ensures.notes (mail ++ drop first.given (take now.given all)) (so_far.notes mail before));
      tallies = c.in_ok-add_note.ensures.kept ∙ ap (λ (t : Tallies). record t { notes = c.add_note.new.self.notes }) so_far.tallies;
      book = handed_book first now c.take_mail.new.self so_far.book c.in-Some.ensures.given;
    }

pub returns-clause-notes : goal.returns-clause-notes
returns-clause-notes g c = λ mail before.
    let first = c.args.book.now in
    let now = c.loop-note.book in
    let same : now.history ≡ first.history = ap (λ s. s.history) c.loop-note.invariant.book in
    let missing : None ≡ slice_get (notes first.history) now.given = c.in_default.ensures.value ∙ ap (λ h. slice_get (notes h) now.given) same in
    subst (λ l. AreNotesOf l c.loop-note.tallies) (mail_all mail (notes first.history) first.given now.given missing) (c.loop-note.invariant.notes mail before)

pub returns-clause-given : goal.returns-clause-given
returns-clause-given g c = search (rules, slice_get, length, all_given)
