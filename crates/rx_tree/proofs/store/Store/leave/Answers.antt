use Rattle.rx_tree.proofs.Common.{ap, link_at, next_of, previous_of, places, leaves_of}
use Rattle.rx_tree.proofs.TieLemmas.{wrote_next, wrote_previous, relinks_both}
use Rattle.rx_tree.proofs.store.Store.leave.Goals as goal

pub returns-clause-leaves : goal.returns-clause-leaves
returns-clause-leaves g c = leaves_of places {n1 = next_of c.pass_by.new.self} {p1 = previous_of c.pass_by.new.self} c.pass_by.ensures.passes (record {
  to = wrote_next (link_at c.pass_by.new.self) (link_at c.set_link.new.self) c.args.place c.alone.result c.set_link.ensures.linked c.args.place
      (ap (λ k. k.next) (c.alone.ensures c.set_link.ensures.fits));
  back = wrote_previous (link_at c.pass_by.new.self) (link_at c.set_link.new.self) c.args.place c.alone.result c.set_link.ensures.linked c.args.place
      (ap (λ k. k.previous) (c.alone.ensures c.set_link.ensures.fits));
})

pub returns-clause-rest : goal.returns-clause-rest
returns-clause-rest g c = relinks_both _ _ _ c.pass_by.ensures.rest c.set_link.ensures.rest
