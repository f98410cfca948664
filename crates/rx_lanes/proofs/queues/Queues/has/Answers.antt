use Rattle.std.proofs.Common.{◌∙◌, ◌==◌, ap}
use Rattle.std.proofs.Math.Bool.{not}
use Rattle.std.proofs.lemmas.List.{get_or_read}
use Rattle.rx_lanes.specs.declared.queues.Ends.{Ends}
use Rattle.rx_lanes.specs.Chains.{no_cell}
use Rattle.rx_lanes.proofs.QueuesShown.{is_queue, shows_some}
use Rattle.rx_lanes.proofs.queues.Queues.has.Goals as goal

pub returns : goal.returns
returns g c =
    let i = c.self.inside in
    rw (← c.self.view_is) (ap (λ (e : Ends). not (e.first == no_cell)) (get_or_read i.ends.items c.args.queue c.index.result.now
    (is_queue _ i.ends.items (rw (← c.self.view_is) at c.requires.queue)) c.index.ensures _) ∙ shows_some i.blank c.self.invariant c.args.queue)
