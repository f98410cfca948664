use Rattle.rx_dump.proofs.Common.{◌≡◌, List, Some, None, subst, sym, arith, Token, after_end_array, Event, in_dump, IsEvent}
use Rattle.rx_dump.proofs.Arrays.{value_takes}
use Rattle.rx_dump.proofs.EventsRead.{AreEventsBefore, no_events_yet, one_more_event, all_events_read}
use Rattle.rx_dump.proofs.reading.events_of.Goals as goal

pub events-init : goal.events-init
events-init c =
    let start = c.args.reader.now in
    subst (λ (h : List Event). AreEventsBefore start start h) (sym c.new-history.ensures.items) (no_events_yet start)

pub events-smaller : goal.events-smaller
events-smaller c =
    let same : c.take_end_array.new.self ≡ c.events.reader = grind arith in
    let next = subst (λ (ts : List Token). IsEvent ts c.next_event.new.reader c.in_ok-event.event) same c.in_ok-event.ensures in
    value_takes in_dump _ _ _ next.read

pub events-preserved : goal.events-preserved
events-preserved c =
    let going : after_end_array c.events.reader ≡ None = grind arith in
    let same : c.take_end_array.new.self ≡ c.events.reader = grind arith in
    let next = subst (λ (ts : List Token). IsEvent ts c.next_event.new.reader c.in_ok-event.event) same c.in_ok-event.ensures in
    subst (λ (h : List Event). AreEventsBefore c.args.reader.now c.next_event.new.reader h) (sym c.in_ok-push.ensures.items)
    (one_more_event _ _ _ _ _ c.events.invariant going next)

pub returns : goal.returns
returns c =
    let over : after_end_array c.events.reader ≡ Some c.take_end_array.new.self = grind arith in
    all_events_read _ _ _ _ c.events.invariant over
