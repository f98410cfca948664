use Rattle.rx_tree.proofs.Common.{cond, refl, ap, ◌∙◌, Link, is_place, places, set_step, joins_of, link_at, next_of, previous_of}
use Rattle.rx_tree.proofs.TieLemmas.{wrote_next, wrote_previous, relinks_both}
use Rattle.rx_tree.proofs.store.Store.join.Goals as goal
use Rattle.std.proofs.Common.{rules}

pub returns-clause-joins : goal.returns-clause-joins
returns-clause-joins g c =
    let link : Link = record { next = c.to-2.result; previous = c.link-last.result.previous } in
    joins_of places {n1 = next_of c.set_next.new.self} {p1 = previous_of c.set_link.new.self} (ap (λ k. k.previous) c.link-last.ensures) (record {
      to = λ q. c.set_next.ensures.next q ∙ (λ i. set_step places (c.place_beside.ensures i) (c.to.ensures c.set_link.ensures.fits i)
          (next_of c.args.self.now) q);
      back = λ q. wrote_previous (link_at c.set_next.new.self) (link_at c.set_link.new.self) c.args.place link c.set_link.ensures.linked
          c.link-last.result.previous refl q ∙ ap (λ p. cond (is_place c.args.place q) c.link-last.result.previous p) (c.set_next.ensures.previous q);
    }) (record {
      to = λ q. c.set_previous.ensures.next q ∙ wrote_next (link_at c.set_next.new.self) (link_at c.set_link.new.self) c.args.place link
          c.set_link.ensures.linked c.args.end (c.to-2.ensures c.set_previous.ensures.fits) q;
      back = λ q. c.set_previous.ensures.previous q ∙ (λ i. set_step places c.args.end (c.to-3.ensures c.set_link.ensures.fits i)
          (previous_of c.set_link.new.self) q);
    })

pub returns-clause-rest : goal.returns-clause-rest
returns-clause-rest g c = search (rules, relinks_both)
