-- What was told so far, and what is left to be told, come to what there was to be told.
use Rattle.std.proofs.Common.{◌≡◌, ◌≤◌, ◌+◌, ◌-◌, ◌++◌, length}
use Rattle.rx_event.specs.Notes.{notes}
use Rattle.rx_roles.specs.Effects.{after_all, all_told, items_in}
use Rattle.rx_engine.specs.Settlements.{mail_left}
use Rattle.rx_engine.proofs.telling.tell.Given as goal

abbrev pub invariant-loop-mail : goal.invariant-loop-mail
invariant-loop-mail l = record {
  within : l.book.given ≤ length (notes l.book.history);
  book : l.book ≡ record l.initial.book { given = l.book.given };
  hears : after_all l.hears.list (mail_left l.book) ≡ after_all l.initial.hears.list (mail_left l.initial.book);
  effects : l.effects.list ++ all_told l.by l.value l.hears.list l.merges.list (mail_left l.book) ≡
      l.initial.effects.list ++ all_told l.by l.value l.initial.hears.list l.merges.list (mail_left l.initial.book);
  room : l.initial.effects.room + (items_in (mail_left l.book) + length l.hears.list) ≤
      l.effects.room + (items_in (mail_left l.initial.book) + length l.initial.hears.list);
}

abbrev pub decreases-loop-mail : goal.decreases-loop-mail
decreases-loop-mail l = length (notes l.book.history) - l.book.given
