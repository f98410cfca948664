use Rattle.rx_time.proofs.Next.{IsNext-next_due}
use Rattle.rx_time.proofs.timeline.Timeline.next_until.Goals as goal

pub returns-in-Some-take-clause-next : goal.returns-in-Some-take-clause-next
returns-in-Some-take-clause-next g c = IsNext-next_due c.args.until c.args.self.now.work
