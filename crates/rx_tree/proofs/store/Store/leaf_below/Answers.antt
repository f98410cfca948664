use Rattle.rx_tree.proofs.Common.{from_top}
use Rattle.rx_tree.proofs.CutLemmas.{nearer, descends_on}
use Rattle.rx_tree.proofs.store.Store.leaf_below.Goals as goal
use Rattle.std.proofs.Common.{rules}

pub loop-child-init : goal.loop-child-init
loop-child-init g c = record { below = from_top; there = c.requires.«open» }

pub child-requires-clause-open : goal.child-requires-clause-open
child-requires-clause-open g c = c.loop-child.invariant.there

pub loop-child-smaller : goal.loop-child-smaller
loop-child-smaller g c = search (rules, nearer)

pub loop-child-preserved : goal.loop-child-preserved
loop-child-preserved g c = search (rules, descends_on)

pub returns-clause-below : goal.returns-clause-below
returns-clause-below g c = c.loop-child.invariant.below

pub returns-clause-there : goal.returns-clause-there
returns-clause-there g c = c.loop-child.invariant.there
