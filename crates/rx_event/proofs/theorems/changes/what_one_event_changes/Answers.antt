use Rattle.rx_event.proofs.Laws.Common.{ap, option_and_then, node_of_accept}
use Rattle.rx_event.proofs.Laws.Openness.{is_cut_never, is_open_outside-end, is_open_outside-close, is_open_uncut}
use Rattle.rx_event.proofs.Laws.Switches.{is_open-inner_switch, is_open-inner_first, is_open-inner_flat}
use Rattle.rx_event.proofs.Laws.Resources.{is_owned-open, is_owned_new, held_old, is_waiting-unheld, is_taken-push, is_held_new, is_waiting_new}
use Rattle.rx_event.proofs.Laws.Resources.{is_taken_last, is_owned-end, is_waiting-end, is_owned-close, is_waiting-close, is_waiting-remove}
use Rattle.rx_event.proofs.Laws.Resources.{is_waiting-return}
use Rattle.rx_event.proofs.Laws.Leases.{is_out-push, is_out_last, leases_of_kept, leases_of-return, leases_of_no_rise, lease_count-push}
use Rattle.rx_event.proofs.Laws.Totals.{item_count-push, accepted_count-push, taken_count-push, uses-push, uses_past, held_waiting_count-push}
use Rattle.rx_event.proofs.Laws.Totals.{owned_count_within, owned_count_no_rise, owned_count-accept, owned_count-remove, held_count_no_rise}
use Rattle.rx_event.proofs.Laws.Totals.{held_count-accept, held_count-remove, waiting_count-remove, waiting_count-take, open_count_uncut, is_open_new}
use Rattle.rx_event.proofs.Laws.Totals.{open_count-end, open_count-close, open_count-inner_switch}
use Rattle.rx_event.proofs.Laws.Steps.{may_remove}
use Rattle.rx_event.proofs.Laws.Projections.{owed-push}
use Rattle.rx_event.proofs.Laws.Debt.{debt-counts, debt-root, debt-source, debt-notifier, debt-inner_flat, debt_no_rise-inner, debt-hub, debt-connect}
use Rattle.rx_event.proofs.Laws.Debt.{debt-accept, debt-use, debt-remove, debt-lease, debt-return, debt-item, debt-decline, debt_falls-end, debt_falls-close}
use Rattle.rx_event.proofs.Laws.Debt.{debt-take}
use Rattle.rx_event.proofs.Laws.MarksNew.{marks-new}
use Rattle.rx_event.proofs.Laws.MarksEnds.{marks_closed}
use Rattle.rx_event.proofs.Laws.MarksTouched.{marks_untouched, marks-source_at, marks-notifier_at, marks-inner_at_flat, marks-inner_at_first}
use Rattle.rx_event.proofs.Laws.MarksTouched.{marks-inner_at_next, marks-item_at, marks-decline_at, marks-end_at}
use Rattle.rx_event.proofs.theorems.changes.what_one_event_changes.Goals as goal
use Rattle.std.proofs.Common.{rules}

pub returns-clause-nodes : goal.returns-clause-nodes
returns-clause-nodes c = λ base. record {
  made = is_open_new base;
  ended = is_open_outside-end;
  closed = is_open_outside-close;
  exchanged = λ law i. is_open-inner_switch law i;
  first_inner = is_open-inner_first;
  flat_inner = is_open-inner_flat;
  kept = is_open_uncut;
}

pub returns-clause-resources : goal.returns-clause-resources
returns-clause-resources c = λ base. record {
  owned = λ h e law r n tag at_r. is_owned-open base h e law r n (ap (option_and_then node_of_accept) at_r);
  out = is_out-push;
  new_out = is_out_last base;
  leases = leases_of_kept base;
  returned = leases_of-return base;
  unleased = leases_of_no_rise base;
  held = held_old base;
  waiting = is_waiting-unheld base;
  taken = is_taken-push;
  new_owned = is_owned_new base;
  new_held = is_held_new base;
  new_waiting = is_waiting_new base;
  new_taken = is_taken_last base;
  left_by_end = λ h c t law r n tag at_r. is_owned-end base h c t law r n (ap (option_and_then node_of_accept) at_r);
  wait_after_end = λ h c t law r n tag at_r. is_waiting-end base h c t law r n (ap (option_and_then node_of_accept) at_r);
  left_by_close = λ h c law r n tag at_r. is_owned-close base h c law r n (ap (option_and_then node_of_accept) at_r);
  wait_after_close = λ h c law r n tag at_r. is_waiting-close base h c law r n (ap (option_and_then node_of_accept) at_r);
  wait_after_removal = is_waiting-remove base;
  wait_after_return = is_waiting-return base;
}

pub returns-clause-totals : goal.returns-clause-totals
returns-clause-totals c = λ base. record {
  items = item_count-push base;
  accepted = accepted_count-push base;
  taken = taken_count-push base;
  used = uses-push base;
  unused = uses_past base;
  owed = owed-push base;
  unreleased = held_waiting_count-push base;
  leases = lease_count-push base;
  owned_within = owned_count_within;
  owned = owned_count_no_rise base;
  owned_more = owned_count-accept base;
  owned_less = λ h r law next. owned_count-remove base h r law (may_remove base next);
  held = held_count_no_rise base;
  held_more = held_count-accept base;
  removed = held_count-remove base;
  waiting_more = waiting_count-remove base;
  waiting_less = waiting_count-take base;
  opened = λ h e next never. open_count_uncut base h e next (is_cut_never h e never);
  ended = open_count-end;
  closed = open_count-close;
  exchanged = open_count-inner_switch;
}

pub returns-clause-debt : goal.returns-clause-debt
returns-clause-debt c = search (rules, debt-counts, debt-root, debt-source, debt-notifier, debt-inner_flat, debt_no_rise-inner, debt-hub, debt-connect, debt-accept, debt-use, debt-remove, debt-lease, debt-return, debt-item, debt-decline, debt_falls-end, debt_falls-close, debt-take)

pub returns-clause-marks : goal.returns-clause-marks
returns-clause-marks c = search (rules, marks-new, marks_untouched, marks-source_at, marks-notifier_at, marks-inner_at_flat, marks-inner_at_first, marks-inner_at_next, marks-item_at, marks-decline_at, marks-end_at, marks_closed)
