use Rattle.rx_tree.proofs.Common.{ap, sym, ◌∙◌, arith, set_step, link_at, next_of, previous_of, places, merges_of, Held, Waiting}
use Rattle.rx_tree.proofs.InPlace.{there_project, held_read}
use Rattle.rx_tree.proofs.TieLemmas.{wrote_next, wrote_previous, relinks_both}
use Rattle.rx_tree.proofs.store.Store.merge_held.Goals as goal
use Rattle.std.proofs.Common.{rules}

pub at-requires : goal.at-requires
at-requires g c = record { there = there_project (λ l. l.node) c.args.self.now.nodes c.args.slot c.requires.from }

pub returns-clause-merges : goal.returns-clause-merges
returns-clause-merges g c =
    let link = held_read c.args.self.now c.args.slot _ c.at.ensures.value c.behind-self.view_is in
    merges_of places {n1 = next_of c.set_previous.new.self} {p1 = previous_of c.set_previous.new.self} {n2 = next_of c.set_previous-2.new.self}
    {p2 = previous_of c.set_previous-2.new.self} c.place_beside.ensures
    (c.place_beside-2.ensures ∙ ap (λ k. k.next) link) (c.place_beside-3.ensures ∙ ap (λ k. k.previous) link) (record {
      to = λ q. c.set_previous.ensures.next q ∙ c.set_next.ensures.next q ∙
          (λ i. set_step places c.place_beside.result ((sym c.place_beside-2.ensures) i) (next_of c.args.self.now) q);
      back = λ q. c.set_previous.ensures.previous q ∙
          (λ i. set_step places c.place_beside-2.result (sym c.place_beside.ensures i) (λ r. c.set_next.ensures.previous r i) q);
    }) (record {
      to = λ q. c.set_previous-2.ensures.next q ∙ c.set_next-2.ensures.next q ∙
          (λ i. set_step places c.place_beside-3.result (c.to.ensures (omega arith) i) (next_of c.set_previous.new.self) q);
      back = λ q. c.set_previous-2.ensures.previous q ∙
          (λ i. set_step places Waiting (sym c.place_beside-3.ensures i) (λ r. c.set_next-2.ensures.previous r i) q);
    }) (record {
      to = wrote_next (link_at c.set_previous-2.new.self) (link_at c.set_held.new.self) (Held c.args.slot) c.alone.result c.set_held.ensures.linked
          (Held c.args.slot) (ap (λ k. k.next) (c.alone.ensures c.set_held.ensures.fits));
      back = wrote_previous (link_at c.set_previous-2.new.self) (link_at c.set_held.new.self) (Held c.args.slot) c.alone.result c.set_held.ensures.linked
          (Held c.args.slot) (ap (λ k. k.previous) (c.alone.ensures c.set_held.ensures.fits));
    })

pub returns-clause-rest : goal.returns-clause-rest
returns-clause-rest g c = search (rules, relinks_both)
