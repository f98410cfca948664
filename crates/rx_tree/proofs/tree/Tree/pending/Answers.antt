use Rattle.rx_tree.proofs.Common.{sym, ◌∙◌}
use Rattle.rx_tree.proofs.InPlace.{key_at-project}
use Rattle.rx_tree.proofs.MarkSteps.{chain_none, chain_first}
use Rattle.rx_tree.proofs.tree.Tree.pending.Goals as goal
use Rattle.std.proofs.Common.{rules}

pub returns-in-Noted : goal.returns-in-Noted
returns-in-Noted g c =
    let s = c.self.inside.store in
    rw (← c.self.view_is) (c.key_at.ensures ∙ sym (key_at-project (λ l. l.node) s.nodes _) ∙
    chain_first s c.self.invariant.tied _ (sym c.place.ensures ∙ c.in-Noted.is))

pub returns-in_default : goal.returns-in_default
returns-in_default g c = search (rules, chain_none)
