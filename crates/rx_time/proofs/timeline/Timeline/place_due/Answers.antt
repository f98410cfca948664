use Rattle.std.proofs.Common.{◌≤◌, arith}
use Rattle.std.proofs.lemmas.List.Elements.{All-weaker}
use Rattle.rx_time.proofs.Next.{least_at_place}
use Rattle.rx_time.proofs.timeline.Timeline.place_due.Goals as goal

pub returns-in-Some-clause-least : goal.returns-in-Some-clause-least
returns-in-Some-clause-least g c = least_at_place _ (c.in-Some.due, c.in-Some.number) c.in-Some.ensures.next

pub returns-in_default-clause-none : goal.returns-in_default-clause-none
returns-in_default-clause-none g c = All-weaker (λ e. c.in-Some.due ≤ e.1.due) (λ e. c.args.until ≤ e.1.due) (λ e later. omega arith) _
    (least_at_place _ (c.in-Some.due, c.in-Some.number) c.in-Some.ensures.next)
