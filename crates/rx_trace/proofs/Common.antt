-- The names that most proofs here cite, passed on from one place. Declares nothing.
pub use Rattle.rx_event.proofs.Laws.Common.{◌≡◌, ◌∙◌, sym, ◌++◌, ap, refl, List, Some, None, [], ℕ, suc, ◌∷◌, arith, subst, length, nothing_kept, map, ◌+◌, ◌-◌, ◌≤◌, ◌<◌}
pub use Rattle.rx_event.proofs.Laws.Common.{inl, inr, ◌⊎◌, ◌==◌, ◌||◌, ◌&&◌, Bool, true, false, not, cond, take, drop, filter, slice_get, Option, list_any, append-nil, append_assoc}
pub use Rattle.rx_event.proofs.Laws.Common.{length-append, map-append, rules, none-some, false≢true, cases_Bool, eqb-true, eq-eqb, ne_eqb, ◌≢◌, or_false, and_false, list_any-append}
pub use Rattle.rx_event.proofs.Laws.Common.{slice_get_within, Call, IsStepOf, IsLawful, MayFollow, IsForcedOn, stays, more, is_take_of, makes_resource, at}
unfoldable pub use Rattle.rx_event.proofs.Laws.Common.{notes, moments, is_held, is_taken, is_waiting, shown}
pub use Rattle.rx_event.proofs.Laws.Begin.{shown_nothing}
pub use Rattle.rx_event.proofs.Laws.Places.{at-append, at_within}
pub use Rattle.rx_event.proofs.Laws.Resources.{waiting_parts}
pub use Rattle.rx_event.proofs.Laws.Steps.{by_events, may_take}
pub use Rattle.rx_event.specs.Calls.{outside_of, Taking}
pub use Rattle.rx_event.specs.declared.event.Event.TheVariants.{Take}
pub use Rattle.rx_event.specs.declared.{event.Event.Event, mail.Mail.Mail}
pub use Rattle.std.proofs.Common.{string_bytes, get_or, length-take}
pub use Rattle.std.proofs.Math.Seq.{drop-append-add, drop-append_seam, take-append_seam}
pub use Rattle.std.proofs.lemmas.List.{take_more, take_all, drop_all, drop-append-le, take-append-le, take-append-drop}
pub use Rattle.std.proofs.lemmas.List.Elements.{filter-append, filter_map-append}
pub use Rattle.std.proofs.lemmas.List.Folds.{find-append}
pub use Rattle.std.proofs.lemmas.Option.{slice_get_cases}
pub use Rattle.std.specs.HashSet.{contains}
pub use Rattle.std.specs.List.{find, filter_map}
pub use Rattle.std.specs.Option.{option_or}
pub use Rattle.std.specs.Prelude.{codes, flat_map, IfOk, Err, nat_eq, is_some, if◌then◌else◌}
pub use Rattle.rx_agenda.specs.Agenda.{Agenda, next_step, with_steps, empty_agenda}
pub use Rattle.rx_agenda.specs.Bindings.{Binding}
pub use Rattle.rx_agenda.specs.Shown.{agenda_of, size_left}
pub use Rattle.rx_agenda.specs.declared.agenda.Agenda.{Agenda as AgendaInCode}
pub use Rattle.rx_agenda.specs.declared.answer.Answer.{Answer}
pub use Rattle.rx_book.specs.Drains.{Takes, none_taken, next_taken}
pub use Rattle.rx_book.specs.State.{State, IsPromised}
pub use Rattle.rx_scenario.specs.declared.scenario.Step.{Step as StepInCode, out-Step}
pub use Rattle.rx_scenario.specs.Scenario.{Script, Command, checkpoint, Action, action_of, step_of, script_of}
pub use Rattle.rx_scenario.proofs.Laws.{step_of-parts}
pub use Rattle.rx_script.specs.declared.engine.Engine.{Engine}
pub use Rattle.rx_script.specs.Course.{Manner, limited, Executes, refused, refused_by_book, accepted, drained, checkpointed}
pub use Rattle.rx_script.specs.Engine.{IsSound, StaysAt, HandsOutNone, IsHistoryOf, Followed, stage_of}
pub use Rattle.rx_script.specs.Keys.{node_binding, res_binding, IsHeldKey}
pub use Rattle.rx_script.specs.Progress.{Progress, begin, PerformsStep, executes, cancels, Advances, LeadsBySteps, not_begun, advanced, Ends}
pub use Rattle.rx_script.specs.Stage.{Ware, Stage, start, ware_of, call_of, after}
pub use Rattle.rx_script.proofs.Laws.{kept_length, shown_length, stored_untold, take_next, event_within, few_events, all_told, history_agrees, history_lawful}
pub use Rattle.rx_script.proofs.Laws.{has_res_key-is_held, course_in_order, stays_on}
pub use Rattle.rx_line.specs.Pieces.{member_text, note_text}
unfoldable pub use Rattle.rx_line.specs.Pieces.{name_text}
pub use Rattle.rx_trace.specs.declared.handed.HandedOut.{HandedOut}
pub use Rattle.rx_trace.specs.Told.{names_where, told_between, told_note, waits_after, is_left_in, taken_by, taken_between, resource_told}
unfoldable pub use Rattle.rx_trace.specs.Told.{name_by_number}
pub use Rattle.rx_trace.specs.Line.{step_told, trace_line, closing_text}
unfoldable pub use Rattle.rx_trace.specs.Line.{step_text, outcome_text}
pub use Rattle.rx_trace.specs.Taken.{AreHandedOut, Rise, Knows, waits_by, told_in_code, HasToldAll, HasRunOut, TakesTold}
pub use Rattle.rx_trace.specs.Traced.{Traces, nothing_done, one_more, TracesTo, IsTraceOf}
