use Rattle.rx_tree.proofs.Common.{ap, ◌∙◌, places, set_step, next_of}
use Rattle.rx_tree.proofs.InPlace.{there_project, sibling_read}
use Rattle.rx_tree.proofs.TieLemmas.{relinks_both}
use Rattle.rx_tree.proofs.store.Store.pass_sibling_by.Goals as goal

pub at-requires : goal.at-requires
at-requires g c = record { there = there_project (λ l. l.node) c.args.self.now.nodes c.args.slot c.requires.place }

pub returns-clause-passes : goal.returns-clause-passes
returns-clause-passes g c =
    let link = sibling_read c.args.self.now c.args.slot _ c.at.ensures.value c.behind-self.view_is in
    let before = c.place_beside.ensures ∙ ap (λ k. k.previous) link in
    let next = ap (λ k. k.next) link in
    let after = c.place_beside-2.ensures ∙ ap (λ k. k.next) link in
    record {
      to = λ q. c.set_previous_sibling.ensures.next q ∙ c.set_next_sibling.ensures.next q ∙
          (λ i. set_step places (before i) (next i) (next_of c.args.self.now) q);
      back = λ q. c.set_previous_sibling.ensures.previous q ∙
          (λ i. set_step places (after i) (link i).previous (λ r. c.set_next_sibling.ensures.previous r i) q);
    }

pub returns-clause-rest : goal.returns-clause-rest
returns-clause-rest g c = relinks_both _ _ _ c.set_next_sibling.ensures.rest c.set_previous_sibling.ensures.rest
