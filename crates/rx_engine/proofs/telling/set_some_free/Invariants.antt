-- So far resources were taken, one after another.
use Rattle.std.proofs.Common.{◌≡◌, ◌≤◌, ◌+◌, length}
use Rattle.rx_resource.specs.contracts.token.TokenResource.TheImpl.{ghosts}
use Rattle.rx_book.specs.State.{IsPromised}
use Rattle.rx_engine.specs.Settlements.{Releases, KeepsKeys}
use Rattle.rx_engine.proofs.telling.set_some_free.Given as goal

abbrev pub invariant-loop-handed : goal.invariant-loop-handed
invariant-loop-handed l = record {
  promised : IsPromised l.book;
  releases : Releases ghosts l.by l.initial.book l.initial.holds.list l.initial.effects.list l.book l.holds.list l.effects.list;
  keys : KeepsKeys l.initial.book l.book;
  base : l.book.base ≡ l.initial.book.base;
  limit : l.book.limit ≡ l.initial.book.limit;
  room : l.initial.effects.room + length l.holds.list ≤ l.effects.room + length l.initial.holds.list;
}

abbrev pub decreases-loop-handed : goal.decreases-loop-handed
decreases-loop-handed l = length l.book.waiting
