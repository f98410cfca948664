use Rattle.rx_tree.proofs.Common.{sym, ◌∙◌, Noted, nodes_of, resources_of, next_of, previous_of}
use Rattle.rx_tree.proofs.There.{next_stands, previous_stands}
use Rattle.rx_tree.proofs.MarkSteps.{chain_none, first_stands, dropped_tied, dropped_shown}
use Rattle.rx_tree.proofs.CountSteps.{counted_relinked}
use Rattle.rx_tree.proofs.tree.Tree.unchain.Goals as goal
use Rattle.std.proofs.Common.{rules}

pub leave-requires-clause-place : goal.leave-requires-clause-place
leave-requires-clause-place g c = first_stands c.self.inside.store c.self.invariant.tied c.in-Noted.slot (sym c.place.ensures ∙ c.in-Noted.is)

pub leave-requires-clause-before : goal.leave-requires-clause-before
leave-requires-clause-before g c = let s = c.self.inside.store in previous_stands (nodes_of s) (resources_of s) (next_of s) (previous_of s)
    c.self.invariant.tied (Noted _) (first_stands s c.self.invariant.tied _ (sym c.place.ensures ∙ c.in-Noted.is))

pub leave-requires-clause-after : goal.leave-requires-clause-after
leave-requires-clause-after g c = let s = c.self.inside.store in next_stands (nodes_of s) (resources_of s) (next_of s) (previous_of s)
    c.self.invariant.tied (Noted _) (first_stands s c.self.invariant.tied _ (sym c.place.ensures ∙ c.in-Noted.is))

pub invariant_of-self : goal.invariant_of-self
invariant_of-self g c = record {
  tied = dropped_tied _ c.self.invariant.tied _ (sym c.place.ensures ∙ c.in-Noted.is) _ c.leave.ensures.leaves c.leave.ensures.rest;
  counted = counted_relinked _ _ c.leave.ensures.rest c.self.invariant.counted;
}

pub returns-in-Noted : goal.returns-in-Noted
returns-in-Noted g c = search (rules, dropped_shown)

pub returns-in_default : goal.returns-in_default
returns-in_default g c = search (rules, chain_none)
