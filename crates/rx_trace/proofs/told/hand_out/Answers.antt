use Rattle.rx_trace.proofs.Common.{◌≡◌, ◌≤◌, ◌∙◌, ◌++◌, ◌∷◌, [], Some, None, take, drop, ap, subst, map, filter_map, slice_get, arith, string_bytes, res_binding, taken_by}
use Rattle.rx_trace.proofs.Common.{resource_told, AreHandedOut}
use Rattle.rx_trace.proofs.TakenOne.{since_all, event_there, no_event, told_next, handed_next}
use Rattle.rx_trace.proofs.told.hand_out.Goals as goal

pub loop-event-preserved : goal.loop-event-preserved
loop-event-preserved g c =
    let book = c.args.engine.now.book in
    let place = c.loop-event.place in
    let so_far = c.loop-event.invariant in
    let begun = so_far.begun in
    let found : slice_get book.history place ≡ Some c.in-Some.event = event_there book.base book.history place c.in-Some.event c.in-Some.ensures in
    record {
      begun = omega arith;
      names = told_next book.history c.args.from place c.in-Some.event begun found (map res_binding c.args.engine.now.resources)
          (map string_bytes c.loop-event.names.items) (map string_bytes c.hand_out_one.new.names.items) so_far.names
          (c.in_ok-hand_out_one.ensures.names ∙ ap (λ l. map string_bytes c.loop-event.names.items
          ++ map (resource_told (map res_binding l)) (filter_map taken_by (c.in-Some.event ∷ []))) c.in_order.ensures);
      handed = λ h known. handed_next book.history c.args.from place c.in-Some.event begun found c.hand_out_one.new.handed h
          (c.in_ok-hand_out_one.ensures.handed (h ++ drop c.args.from (take place book.history)) (so_far.handed h known));
    }

pub returns-clause-names : goal.returns-clause-names
returns-clause-names g c = λ since.
    let book = c.args.engine.now.book in
    let begun = c.loop-event.invariant.begun in
    let past : book.base.at_length ≤ c.loop-event.place = omega arith in
    let missing : slice_get book.history c.loop-event.place ≡ None = no_event book.base book.history c.loop-event.place past c.in_default.ensures in
    c.loop-event.invariant.names ∙ ap (λ l. map (resource_told (map res_binding c.args.engine.now.resources)) (filter_map taken_by l))
    (since_all book.history c.args.from c.loop-event.place missing)

pub returns-clause-handed : goal.returns-clause-handed
returns-clause-handed g c = λ since h known.
    let book = c.args.engine.now.book in
    let begun = c.loop-event.invariant.begun in
    let past : book.base.at_length ≤ c.loop-event.place = omega arith in
    let missing : slice_get book.history c.loop-event.place ≡ None = no_event book.base book.history c.loop-event.place past c.in_default.ensures in
    subst (AreHandedOut c.loop-event.handed) (ap (λ l. h ++ l) (since_all book.history c.args.from c.loop-event.place missing))
    (c.loop-event.invariant.handed h known)
