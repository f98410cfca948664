use Rattle.rx_storm.proofs.Common.{◌≡◌, ◌+◌, [], sym, ap, ◌∙◌, rules, Shares, events_of}
use Rattle.rx_storm.proofs.Emission.{events_counted, from_nothing, done_alone, refused_alone, begun_anew, never_over}
use Rattle.rx_storm.proofs.batches.emit_batches.Goals as goal

pub returns-clause-done : goal.returns-clause-done
returns-clause-done g c = λ is.
    let stopped = c.stop_of.ensures.refused in
    let empty : c.new-receipts.result.items ≡ [] = search rules in
    let emitted = done_alone _ _ _ stopped c.emit_each-emitted.ensures.emitted is in
    record {
      leaf = c.in_ok-leaf.leaf.number;
      events = from_nothing _ _ _ _ (ap events_of empty) emitted ∙ sym (events_counted c.in_ok-leaf.leaf.number 0 c.args.items);
      counted = done_alone _ _ _ stopped c.emit_each-emitted.ensures.counted is
          ∙ ap (λ (s : Shares). record s { items = s.items + c.args.items }) c.in_ok-leaf.ensures;
    }

pub returns-clause-turns : goal.returns-clause-turns
returns-clause-turns g c = never_over _ _ c.stop_of.ensures.done c.stop_of.ensures.refused

pub returns-clause-begun : goal.returns-clause-begun
returns-clause-begun g c = λ is.
    let empty : c.new-receipts.result.items ≡ [] = search rules in
    begun_anew c.in_ok-leaf.leaf.number c.args.items c.args.seat _ _ _ _ empty c.in_ok-leaf.ensures
    (refused_alone _ _ _ c.stop_of.ensures.done c.emit_each-emitted.ensures.begun is)
