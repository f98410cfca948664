use Rattle.rx_ground.proofs.Common.{false, true, is_some, sym, ap, IsOrdered-walk}
use Rattle.rx_ground.proofs.WayAsInHistory.{walk_tied, reach_told, narrow_told, cause_of-no_leaf, cause_of-visits, cause_of-room}
use Rattle.rx_ground.proofs.base.Ground.route.Goals as goal

pub measure-requires-clause-ordered : goal.measure-requires-clause-ordered
measure-requires-clause-ordered g c κs within =
    let standing = rw (← c.self.view_is) at c.requires.standing in
    IsOrdered-walk _ _ _ _ c.promise.ensures.lawful (walk_tied _ standing.tied c.promise-2.ensures.sound)

pub returns-then-not-is_leaf-clause-first : goal.returns-then-not-is_leaf-clause-first
returns-then-not-is_leaf-clause-first g c =
    let standing = rw (← c.self.view_is) at c.requires.standing in
    rw (← c.self.view_is) (cause_of-no_leaf _ _ _ _ _ standing.tied.of_tree.records c.args.leaf c.args.value _ c.in-Some.ensures.value
    c.if-not-is_leaf.ensures)

pub returns-in_default-measure-clause-first : goal.returns-in_default-measure-clause-first
returns-in_default-measure-clause-first g c =
    let standing = rw (← c.self.view_is) at c.requires.standing in
    let found = c.in-Some.ensures.value in
    let walk = walk_tied _ standing.tied c.promise-2.ensures.sound in
    let wide = narrow_told _ _ _ _ _ false walk (ap is_some (sym found)) c.in_default-measure.ensures.visits in
    rw (← c.self.view_is) (cause_of-visits _ _ _ _ _ standing.tied.of_tree.records c.args.leaf c.args.value _ found c.if-not-is_leaf.ensures wide)

pub returns-then-is_over-clause-first : goal.returns-then-is_over-clause-first
returns-then-is_over-clause-first g c =
    let standing = rw (← c.self.view_is) at c.requires.standing in
    let found = c.in-Some.ensures.value in
    let there = ap is_some (sym found) in
    let walk = walk_tied _ standing.tied c.promise-2.ensures.sound in
    let narrow = narrow_told _ _ _ _ _ true walk there c.in-Some-measure.ensures.visits in
    let reach = reach_told _ _ _ _ walk there _ c.in-Some-measure.ensures.reach in
    rw (← c.self.view_is) (cause_of-room _ _ _ _ _ standing.tied.of_tree.records c.args.leaf c.args.value _ found _ true c.if-not-is_leaf.ensures narrow
    reach c.if-is_over.ensures)

pub returns-clause-ok : goal.returns-clause-ok
returns-clause-ok g c =
    let standing = rw (← c.self.view_is) at c.requires.standing in
    let walk = walk_tied _ standing.tied c.promise-2.ensures.sound in
    rw (← c.self.view_is) (reach_told _ _ _ _ walk (ap is_some (sym c.in-Some.ensures.value)) _ c.in-Some-measure.ensures.reach)

pub returns-clause-none : goal.returns-clause-none
returns-clause-none g c =
    let standing = rw (← c.self.view_is) at c.requires.standing in
    let found = c.in-Some.ensures.value in
    let there = ap is_some (sym found) in
    let walk = walk_tied _ standing.tied c.promise-2.ensures.sound in
    let narrow = narrow_told _ _ _ _ _ true walk there c.in-Some-measure.ensures.visits in
    let reach = reach_told _ _ _ _ walk there _ c.in-Some-measure.ensures.reach in
    rw (← c.self.view_is) (cause_of-room _ _ _ _ _ standing.tied.of_tree.records c.args.leaf c.args.value _ found _ false c.if-not-is_leaf.ensures narrow
    reach c.if-is_over.ensures)
