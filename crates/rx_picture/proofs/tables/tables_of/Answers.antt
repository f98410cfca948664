use Rattle.rx_picture.proofs.Common.{refl, has_removed, has_returned, has_taken}
use Rattle.rx_picture.proofs.WhereTestsTurnTrue.{turns_none, removed_step, returned_step, taken_step}
use Rattle.rx_picture.proofs.tables.tables_of.Goals as goal
use Rattle.std.proofs.Common.{rules}

pub loop-place-init : goal.loop-place-init
loop-place-init c = record {
  removed = rw c.in_ok-removed.ensures (turns_none c.args.events.now has_removed (λ n. refl));
  returned = rw c.in_ok-returned.ensures (turns_none c.args.events.now has_returned (λ n. refl));
  taken = rw c.in_ok-taken.ensures (turns_none c.args.events.now has_taken (λ n. refl));
}

pub loop-place-preserved : goal.loop-place-preserved
loop-place-preserved c = search (rules, removed_step, returned_step, taken_step)
