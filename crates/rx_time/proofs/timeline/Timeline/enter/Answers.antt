use Rattle.std.proofs.Common.{◌≤◌, ◌++◌, ap, rules, arith}
use Rattle.rx_time.specs.Schedule.{Schedule, schedule}
use Rattle.rx_time.proofs.SoundSchedule.{IsSound-push}
use Rattle.rx_time.proofs.timeline.Timeline.enter.Goals as goal

pub put_last-requires : goal.put_last-requires
put_last-requires g c = c.self.invariant.given

pub invariant_of-self : goal.invariant_of-self
invariant_of-self g c = let s = schedule _ _ (c.self.inside.in_order ++ c.self.inside.others) in let ahead : s.clock ≤ c.args.work.due = omega (
  arith,
  ap (λ (t : Schedule g.row.T.Denot). t.clock) c.self.view_is,
  c.requires.ahead,
) in rw c.in-Ok.ensures.ok (IsSound-push s _ c.self.invariant ahead)

pub returns-in-Ok-clause-added : goal.returns-in-Ok-clause-added
returns-in-Ok-clause-added g c = rw (← c.self.view_is, c.in-Ok.ensures.ok) (search rules)
