use Rattle.rx_disposable.proofs.Places.{kept_none}
use Rattle.rx_disposable.proofs.Runs.{members_run}
use Rattle.rx_disposable.proofs.group.Group.clear.Goals as goal

pub invariant_of-self : goal.invariant_of-self
invariant_of-self g c =
    rw (c.replace.ensures.after, c.new.ensures.items, c.new.ensures.capacity) (kept_none _ _ c.self.invariant.sound.limit)

pub returns-clause-runs : goal.returns-clause-runs
returns-clause-runs g c = members_run
