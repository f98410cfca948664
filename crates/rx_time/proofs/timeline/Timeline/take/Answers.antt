use Rattle.std.proofs.Common.{◌++◌, refl, rules}
use Rattle.rx_time.specs.Schedule.{schedule}
use Rattle.rx_time.proofs.SoundSchedule.{IsSound-without}
use Rattle.rx_time.proofs.TwoLists.{fewer_taken, kept_taken, once_taken}
use Rattle.rx_time.proofs.timeline.Timeline.take.Goals as goal

pub invariant_of-self : goal.invariant_of-self
invariant_of-self g c = let s = schedule _ _ (c.self.inside.in_order ++ c.self.inside.others) in rw c.take_from.ensures.others (IsSound-without s _
    c.self.invariant)

pub returns-clause-value : goal.returns-clause-value
returns-clause-value g c = rw (← c.self.view_is) c.take_from.ensures.value

pub returns-clause-others : goal.returns-clause-others
returns-clause-others g c = rw (← c.self.view_is, c.take_from.ensures.others) refl

pub returns-clause-once : goal.returns-clause-once
returns-clause-once g c =
    search (rules, once_taken)

pub returns-clause-fewer : goal.returns-clause-fewer
returns-clause-fewer g c =
    search (rules, fewer_taken)

pub returns-clause-kept : goal.returns-clause-kept
returns-clause-kept g c = rw (← c.self.view_is, c.take_from.ensures.others) (kept_taken (schedule _ _) _ (c.self.inside.in_order ++
    c.self.inside.others) _ c.take_from.ensures.value)
