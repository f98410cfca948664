-- The names that most proofs here cite, passed on from one place. Declares nothing.
pub use Rattle.rx_event.proofs.Laws.Common.{◌≡◌, ◌∙◌, sym, Some, [], ℕ, List, ap, ◌∷◌, subst, refl, ◌++◌, arith, None, false, Option, ◌⊎◌, ◌+◌, ◌<◌, inl, inr}
pub use Rattle.rx_event.proofs.Laws.Common.{true, cond, map, slice_get, option_map, ◌≤◌, cases_lt, Bool, zero, suc, length, map-append, sum_by}
pub use Rattle.rx_event.proofs.Laws.Common.{slice_get_within, sum_by-cons}
pub use Rattle.std.proofs.Common.{nat_eq, string_bytes, String, Global}
pub use Rattle.std.proofs.lemmas.Slice.Eq.{bytes_eq-Decides}
pub use Rattle.std.specs.HashMap.{get_by_text}
pub use Rattle.std.specs.Map.{lookup, update}
pub use Rattle.std.specs.Prelude.{is_some, find}
pub use Rattle.std.specs.Str.{bytes_eq}
pub use Rattle.rx_agenda.specs.Agenda.{with_steps, Agenda, next_step, taken_off, none_waits, without_ticket, with_label, with_step, Cancels, empty_agenda}
pub use Rattle.rx_agenda.specs.Agenda.{followed_by}
pub use Rattle.rx_agenda.specs.Bindings.{Binding, is_bound, with_binding}
unfoldable pub use Rattle.rx_agenda.specs.Bindings.{bound}
pub use Rattle.rx_agenda.specs.Come.{Acts, does_command, does_cancel, HaveCome, none_yet, one_more}
pub use Rattle.rx_agenda.specs.Names.{name_bytes}
unfoldable pub use Rattle.rx_agenda.specs.Names.{key_named}
pub use Rattle.rx_agenda.specs.Order.{PlacedStep, Turn, Origin, IsScheduledBefore, IsEarlierTurn, ComesBefore, WaitsUnder, Executed, held_by, placed_at, IsHeld}
pub use Rattle.rx_agenda.specs.Order.{by_scenario, by_step, IsCancelled, IsStepDue, WaitsAt, IsCancelAnswered, one_waits, no_step_waits, opening_turn}
pub use Rattle.rx_agenda.specs.Order.{turn_after}
pub use Rattle.rx_agenda.specs.Order.{done_in, IsExecuted, AreCancelsAnswered, IsInOrder}
pub use Rattle.rx_agenda.specs.Shown.{agenda_of, steps_to_come, number_binding, size_left}
pub use Rattle.rx_agenda.specs.Ties.{IsTied}
pub use Rattle.rx_agenda.specs.declared.answer.Answer.{Answer}
pub use Rattle.rx_agenda.specs.declared.answer.Answer.TheVariants.{Accepted, Refused}
pub use Rattle.rx_agenda.specs.declared.answer.Cause.TheVariants.{NoStep}
pub use Rattle.rx_agenda.specs.declared.names.Named.{Named}
pub use Rattle.rx_scenario.specs.Scenario.{Name, Step, list_of, step_of, Command, Action, command, cancel}
pub use Rattle.rx_time.proofs.Laws.{next_due-seen, without-seen, item_of-seen}
pub use Rattle.rx_time.specs.Schedule.{next_due, item_of, without, Schedule, entry_seen, schedule, with_work}
pub use Rattle.rx_time.specs.declared.work.Work.{Work}
