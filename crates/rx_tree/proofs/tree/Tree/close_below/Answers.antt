use Rattle.rx_tree.proofs.Common.{◌∙◌, from_top}
use Rattle.rx_tree.proofs.CloseSteps.{cutting_start, cutting_step, next_down, top_out, closed_before, closed_moved, closed_kept, closed_owed, closed_chain}
use Rattle.rx_tree.proofs.CloseSteps.{room_left, one_moved, one_less}
use Rattle.rx_tree.proofs.tree.Tree.close_below.Goals as goal
use Rattle.std.proofs.Common.{rules}

pub loop-above-init : goal.loop-above-init
loop-above-init g c = search (rules, cutting_start, from_top)

pub close_leaf-requires-clause-tied : goal.close_leaf-requires-clause-tied
close_leaf-requires-clause-tied g c = c.loop-above.invariant.cutting.tied

pub close_leaf-requires-clause-open : goal.close_leaf-requires-clause-open
close_leaf-requires-clause-open g c = c.loop-above.invariant.there

pub close_leaf-requires-clause-room : goal.close_leaf-requires-clause-room
close_leaf-requires-clause-room g c = search (rules, room_left)

pub loop-above-smaller : goal.loop-above-smaller
loop-above-smaller g c = one_less _ _ c.close_leaf.ensures.fewer

pub loop-above-preserved : goal.loop-above-preserved
loop-above-preserved g c = let next = next_down _ c.self.invariant.tied _ (rw (← c.self.view_is) at c.requires.«open») _ _ _ _ _
    c.loop-above.invariant.cutting _ c.loop-above.invariant.down _ c.close_leaf.ensures.cuts c.close_leaf.ensures.tied _ c.in-Some.is in record {
      cutting = cutting_step _ c.self.invariant.tied _ (rw (← c.self.view_is) at c.requires.«open») _ _ _ _ _ c.loop-above.invariant.cutting _
          c.loop-above.invariant.down _ c.close_leaf.ensures.cuts c.close_leaf.ensures.tied;
      down = next.0;
      there = next.1;
      count = one_moved _ _ _ _ _ c.close_leaf.ensures.len c.close_leaf.ensures.fewer c.loop-above.invariant.count;
      capacity = c.close_leaf.ensures.list_room ∙ c.loop-above.invariant.capacity;
      counted = c.close_leaf.ensures.counted;
    }

pub invariant_of-self : goal.invariant_of-self
invariant_of-self g c = record { tied = c.close_leaf.ensures.tied; counted = c.close_leaf.ensures.counted }

pub returns-clause-before : goal.returns-clause-before
returns-clause-before g c = closed_before _ c.self.invariant.tied _ (rw (← c.self.view_is) at c.requires.«open») _ _ _ (cutting_step _
    c.self.invariant.tied _ (rw (← c.self.view_is) at c.requires.«open») _ _ _ _ _ c.loop-above.invariant.cutting _ c.loop-above.invariant.down _
    c.close_leaf.ensures.cuts c.close_leaf.ensures.tied) (top_out _ c.self.invariant.tied _ (rw (← c.self.view_is) at c.requires.«open») _ _ _ _ _
    c.loop-above.invariant.cutting _ c.loop-above.invariant.down _ c.close_leaf.ensures.cuts c.close_leaf.ensures.tied c.in_default.is)

pub returns-clause-moved : goal.returns-clause-moved
returns-clause-moved g c = rw (← c.self.view_is) (closed_moved _ c.self.invariant.tied _ (rw (← c.self.view_is) at c.requires.«open») _ _ _
    (cutting_step _ c.self.invariant.tied _ (rw (← c.self.view_is) at c.requires.«open») _ _ _ _ _ c.loop-above.invariant.cutting _
    c.loop-above.invariant.down _ c.close_leaf.ensures.cuts c.close_leaf.ensures.tied) (top_out _ c.self.invariant.tied _ (rw (← c.self.view_is) at
    c.requires.«open») _ _ _ _ _ c.loop-above.invariant.cutting _ c.loop-above.invariant.down _ c.close_leaf.ensures.cuts c.close_leaf.ensures.tied
    c.in_default.is))

pub returns-clause-kept : goal.returns-clause-kept
returns-clause-kept g c = rw (← c.self.view_is) (closed_kept _ c.self.invariant.tied _ (rw (← c.self.view_is) at c.requires.«open») _ _ _
    (cutting_step _ c.self.invariant.tied _ (rw (← c.self.view_is) at c.requires.«open») _ _ _ _ _ c.loop-above.invariant.cutting _
    c.loop-above.invariant.down _ c.close_leaf.ensures.cuts c.close_leaf.ensures.tied) (top_out _ c.self.invariant.tied _ (rw (← c.self.view_is) at
    c.requires.«open») _ _ _ _ _ c.loop-above.invariant.cutting _ c.loop-above.invariant.down _ c.close_leaf.ensures.cuts c.close_leaf.ensures.tied
    c.in_default.is))

pub returns-clause-owed : goal.returns-clause-owed
returns-clause-owed g c = rw (← c.self.view_is) (closed_owed _ c.self.invariant.tied _ (rw (← c.self.view_is) at c.requires.«open») _ _ _
    (cutting_step _ c.self.invariant.tied _ (rw (← c.self.view_is) at c.requires.«open») _ _ _ _ _ c.loop-above.invariant.cutting _
    c.loop-above.invariant.down _ c.close_leaf.ensures.cuts c.close_leaf.ensures.tied) (top_out _ c.self.invariant.tied _ (rw (← c.self.view_is) at
    c.requires.«open») _ _ _ _ _ c.loop-above.invariant.cutting _ c.loop-above.invariant.down _ c.close_leaf.ensures.cuts c.close_leaf.ensures.tied
    c.in_default.is))

pub returns-clause-count : goal.returns-clause-count
returns-clause-count g c = search (rules, one_moved)

pub returns-clause-room : goal.returns-clause-room
returns-clause-room g c = search (rules, cutting_step)

pub returns-clause-list_room : goal.returns-clause-list_room
returns-clause-list_room g c = c.close_leaf.ensures.list_room ∙ c.loop-above.invariant.capacity

pub returns-clause-chain : goal.returns-clause-chain
returns-clause-chain g c = rw (← c.self.view_is) (closed_chain _ c.self.invariant.tied _ (rw (← c.self.view_is) at c.requires.«open») _ _ _
    (cutting_step _ c.self.invariant.tied _ (rw (← c.self.view_is) at c.requires.«open») _ _ _ _ _ c.loop-above.invariant.cutting _
    c.loop-above.invariant.down _ c.close_leaf.ensures.cuts c.close_leaf.ensures.tied) (top_out _ c.self.invariant.tied _ (rw (← c.self.view_is) at
    c.requires.«open») _ _ _ _ _ c.loop-above.invariant.cutting _ c.loop-above.invariant.down _ c.close_leaf.ensures.cuts c.close_leaf.ensures.tied
    c.in_default.is))

pub returns-clause-resources : goal.returns-clause-resources
returns-clause-resources g c = search (rules, cutting_step)
