use Rattle.rx_ground.proofs.Common.{sym, ◌∙◌, not, is_held, IsTied}
use Rattle.rx_ground.proofs.Laws.JustOpenHeldWaiting.{length-filter_kept, length-waiting}
use Rattle.rx_ground.proofs.base.Ground.waiting_count.Goals as goal

pub returns : goal.returns
returns g c = let h = c.self.inside.register.history in let tree = c.self.inside.tree in let tied : IsTied _ g.R.Resource h tree = rw (←
    c.self.view_is) at c.requires.standing.tied.of_tree in let listed = length-filter_kept tree.resources (λ s. not (is_held tree.nodes s)) in rw (←
    c.self.view_is) (c.waiting.ensures ∙ sym listed ∙ length-waiting _ g.R.Resource h tree tied c.promise.ensures.resources_apart)
