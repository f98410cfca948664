use Rattle.rx_tree.proofs.Common.{ap, ◌∙◌, places, set_step, next_of}
use Rattle.rx_tree.proofs.TieLemmas.{relinks_both}
use Rattle.rx_tree.proofs.store.Store.pass_by.Goals as goal

pub returns-clause-passes : goal.returns-clause-passes
returns-clause-passes g c =
    let before = c.place_beside.ensures ∙ ap (λ k. k.previous) c.link-link.ensures in
    let next = ap (λ k. k.next) c.link-link.ensures in
    let after = c.place_beside-2.ensures ∙ ap (λ k. k.next) c.link-link.ensures in
    record {
      to = λ q. c.set_previous.ensures.next q ∙ c.set_next.ensures.next q ∙
          (λ i. set_step places (before i) (next i) (next_of c.args.self.now) q);
      back = λ q. c.set_previous.ensures.previous q ∙
          (λ i. set_step places (after i) (c.link-link.ensures i).previous (λ r. c.set_next.ensures.previous r i) q);
    }

pub returns-clause-rest : goal.returns-clause-rest
returns-clause-rest g c = relinks_both _ _ _ c.set_next.ensures.rest c.set_previous.ensures.rest
