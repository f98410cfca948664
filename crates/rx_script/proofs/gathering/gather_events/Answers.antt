use Rattle.rx_script.proofs.Common.{rules, ◌∙◌}
use Rattle.rx_script.proofs.TakenUp.{event_within, few_events, counted_first, counted_next, counted_all}
use Rattle.rx_script.proofs.gathering.gather_events.Goals as goal

pub loop-event-init : goal.loop-event-init
loop-event-init g c = search (rules, counted_first)

pub add_event-requires : goal.add_event-requires
add_event-requires g c = search (rules, few_events)

pub loop-event-smaller : goal.loop-event-smaller
loop-event-smaller g c = search (rules, event_within)

pub loop-event-preserved : goal.loop-event-preserved
loop-event-preserved g c = record {
  counts = λ front h counts goes law. counted_next _ _ goes law (c.loop-event.invariant.counts front h counts goes
      law) c.in-Some.ensures c.in_ok-add_event.ensures.events c.in_ok-add_event.ensures.counts;
  notes = c.in_ok-add_event.ensures.notes ∙ c.loop-event.invariant.notes;
}

pub returns-clause-counts : goal.returns-clause-counts
returns-clause-counts g c = λ front h counts goes law.
    counted_all front h c.args.book.now c.loop-event.tallies goes (c.loop-event.invariant.counts front h counts goes law) c.in_default.ensures
