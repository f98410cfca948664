use Rattle.rx_picture.proofs.Common.{get_or, slice_get, arith}
use Rattle.rx_picture.proofs.ResourceBars.{accepted_makes, bar_is}
use Rattle.rx_picture.proofs.rows.bar_of.Goals as goal

pub returns : goal.returns
returns c =
    let h = c.args.events.now in
    let r = c.args.r in
    let w = c.requires.tables in
    let t = c.args.tables.now in
    let removed_size = w.removed.size in
    let taken_size = w.taken.size in
    rw (
      c.max.ensures,
      c.max-2.ensures,
      c.owned_start-after.ensures,
      c.owned_end.ensures,
      c.value_at-gone.ensures,
      c.value_at-out.ensures,
      c.deref.ensures.value,
      c.deref-2.ensures.value,
      c.deref-3.ensures.value,
      c.deref-4.ensures.value,
    ) (
      accepted_makes (slice_get h r) c.args.node c.requires.accepted,
      bar_is h r c.args.node c.requires.accepted (get_or t.removed.items r 0) (get_or t.taken.items r 0) t.ends.items c.requires.within
          (w.removed.each r (omega arith)) (w.taken.each r (omega arith)) w.ends,
    )
