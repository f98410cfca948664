-- The names that most proofs here cite, passed on from one place. Declares nothing.
pub use Rattle.rx_event.proofs.Laws.Common.{◌≡◌, ◌∙◌, sym, ◌++◌, ap, refl, List, Some, [], ℕ, ◌∷◌, true, arith, false, None, subst, length, nothing_kept, map}
pub use Rattle.rx_event.proofs.Laws.Common.{Bool, ◌+◌, ◌≤◌, Option, slice_get, inl, cond, option_map, take, Call, ◌<◌, option_and_then, option_map_or}
pub use Rattle.rx_event.proofs.Laws.Common.{append-nil, none-some, Opening, OpeningUsing, append_assoc, IsLawful, IsStepOf, inr, same_Some, drop, IsSettled, at}
pub use Rattle.rx_event.proofs.Laws.Common.{◌||◌, false≢true, Emitting, Ending, Disposing, Publishing, suc, Kept, ◌⊎◌, Holding, Applying, Leasing}
pub use Rattle.rx_event.proofs.Laws.Common.{Disconnecting, ◌≢◌, ◌==◌, ◌-◌, Removing, GivingBack, Aborting, Declining, Failing, not, zero, map-append, Agree}
pub use Rattle.rx_event.proofs.Laws.Common.{length-append, stays, ◌&&◌, rules, AllByRecursion, eq-eqb, Taking, more, IsForcedOn, places, waiting_resources}
pub use Rattle.rx_event.proofs.Laws.Common.{makes_resource, waiting_count, list_any, range_with_len, or_parts, cases_order, eqb-true, cases_Bool, makes_lease}
pub use Rattle.rx_event.proofs.Laws.Common.{MayFollow, filter, slice_get_within, makes_node, makes_hub, AreSameBy, held_count, nat_lt, count_by, ltb-true}
pub use Rattle.rx_event.proofs.Laws.Common.{taken_count, ne_eqb, slice_get_past, is_use_of, pos, forced, length-map, is_lease_of, is_return, notes_to, event_by}
pub use Rattle.rx_event.proofs.Laws.Common.{is_named, open_count, false_from_ne_true, is_take_of}
unfoldable pub use Rattle.rx_event.proofs.Laws.Common.{is_open, is_held, notes, first_forced, shown, moments, parent, ancestors, most_visits, owed, is_out}
unfoldable pub use Rattle.rx_event.proofs.Laws.Common.{is_shut, is_taken, is_waiting, climb, stops, projections, is_fired, child_terminal, source_completed}
unfoldable pub use Rattle.rx_event.proofs.Laws.Common.{open_children, is_owned, leases_of, debt, base_of, uses, visits}
pub use Rattle.std.proofs.Common.{string_bytes, get_or, String, Global, length-take, vec_len}
pub use Rattle.std.proofs.lemmas.Grind.{flat_map-append}
pub use Rattle.std.proofs.lemmas.List.{take_more}
pub use Rattle.std.proofs.lemmas.List.Sums.{count_by-le-length}
unfoldable pub use Rattle.std.specs.Fmt.{digits}
pub use Rattle.std.specs.HashMap.{get}
pub use Rattle.std.specs.List.{All, Contains}
pub use Rattle.std.specs.Prelude.{is_some, is_none, flat_map, nat_eq, Err, IfOk, unwrap_or, Result, Ok, codes}
pub use Rattle.std.specs.Str.{bytes_eq}
pub use Rattle.rx_agenda.proofs.Laws.{key_named-holds, bound-numbers}
pub use Rattle.rx_agenda.specs.Agenda.{Agenda, next_step, followed_by, empty_agenda, with_steps, Cancels, taken_off, none_waits}
pub use Rattle.rx_agenda.specs.Bindings.{Binding, is_unbound, with_binding, is_bound}
unfoldable pub use Rattle.rx_agenda.specs.Bindings.{bound}
pub use Rattle.rx_agenda.specs.Names.{key_named, name_bytes}
pub use Rattle.rx_agenda.specs.Order.{done_in, Executed, PlacedStep}
pub use Rattle.rx_agenda.specs.Shown.{agenda_of, size_left, number_binding}
pub use Rattle.rx_agenda.specs.declared.answer.Answer.{Answer}
pub use Rattle.rx_agenda.specs.declared.answer.Answer.TheVariants.{Accepted, Refused}
pub use Rattle.rx_agenda.specs.declared.answer.Cause.{Cause}
pub use Rattle.rx_agenda.specs.declared.answer.Cause.TheVariants.{Book, NoName, NameTaken, NoStock}
pub use Rattle.rx_agenda.specs.declared.names.Named.{Named}
pub use Rattle.rx_book.proofs.Laws.StepsContinue.{accepted_continues}
pub use Rattle.rx_book.specs.Answers.{Accepts, connection_made, makes_connection, IsNewResKey, IsNewKey, IsNewLeaseKey, IsOpened}
pub use Rattle.rx_book.specs.Checkpoints.{Checkpoints}
pub use Rattle.rx_book.specs.Drains.{Drains, none_taken, next_taken, Takes}
pub use Rattle.rx_book.specs.Requests.{stands, Request, place_of, is_known_place}
pub use Rattle.rx_book.specs.State.{State, IsPromised, has_key, has_res_key, accepted_tag, has_lease_key, Continues}
pub use Rattle.rx_book.specs.declared.answer.At.{At}
pub use Rattle.rx_slots.specs.declared.Key.{Key}
pub use Rattle.rx_ground.specs.declared.leases.LeaseKey.{LeaseKey}
pub use Rattle.rx_tree.specs.declared.node.ResKey.{ResKey}
pub use Rattle.rx_dump.specs.Dump.{dump}
pub use Rattle.rx_event.proofs.Laws.Bases.{base_length}
pub use Rattle.rx_event.proofs.Laws.Begin.{IsLawful_nothing, shown_nothing}
pub use Rattle.rx_event.proofs.Laws.Checkpoints.{checkpoints_agree}
pub use Rattle.rx_event.proofs.Laws.Finishes.{first_forced_on}
pub use Rattle.rx_event.proofs.Laws.InOrder.{first_is_forced}
pub use Rattle.rx_event.proofs.Laws.Lawful.{IsLawful-push}
pub use Rattle.rx_event.proofs.Laws.Lists.{AllByRecursion-both}
pub use Rattle.rx_event.proofs.Laws.Places.{slice_get_last, slice_get-append, at_within}
pub use Rattle.rx_event.proofs.Laws.ReadDrained.{TakesOn, takes_none, takes_one}
pub use Rattle.rx_event.proofs.Laws.SameTree.{alike_of, Alike, connections_alike}
pub use Rattle.rx_event.proofs.Laws.Starts.{lawful_last, lawful_front, lawful_begun}
pub use Rattle.rx_event.proofs.Laws.Steps.{by_pushes}
pub use Rattle.rx_event.proofs.Laws.Totals.{accepted_count-parts}
unfoldable pub use Rattle.rx_event.specs.Allowed.{most_nodes, most_hubs}
pub use Rattle.rx_event.specs.Calls.{outside_of, Connecting}
pub use Rattle.rx_event.specs.Canonical.{IsFirstStep, nothing_yet, first_next}
unfoldable pub use Rattle.rx_event.specs.Canonical.{source_end}
pub use Rattle.rx_event.specs.Causes.{causes, unlimited, by_key, by_res_key, is_gone, is_over, added_by}
pub use Rattle.rx_event.specs.Refusals.{first_cause, IsRefusal}
pub use Rattle.rx_event.specs.Renumbered.{AreSameSince, call_by}
pub use Rattle.rx_event.specs.declared.event.Event.{Event}
pub use Rattle.rx_event.specs.declared.event.Event.TheVariants.{Open, Accept, Close, Take, Hub, Connect, Use, Item, End, Lease, Return}
pub use Rattle.rx_event.specs.declared.event.Kind.{Kind}
pub use Rattle.rx_event.specs.declared.event.Kind.TheVariants.{Leaf, Pass, Sub, Until, Flat, Switch}
pub use Rattle.rx_event.specs.declared.event.Mode.{Mode}
pub use Rattle.rx_event.specs.declared.event.Mode.TheVariants.{Auto}
pub use Rattle.rx_event.specs.declared.event.Place.{Place}
pub use Rattle.rx_event.specs.declared.event.Place.TheVariants.{Root, Source, Notifier, Inner}
pub use Rattle.rx_event.specs.declared.mail.Mail.{Mail}
pub use Rattle.rx_event.specs.declared.refusal.Refusal.{Refusal}
pub use Rattle.rx_event.specs.declared.refusal.Refusal.TheVariants.{Gone, NoMemory, Full}
pub use Rattle.rx_note.specs.declared.note.Terminal.TheVariants.{Completed}
pub use Rattle.rx_register.proofs.Laws.Empty.{settled_empty}
pub use Rattle.rx_register.proofs.Laws.SameCauses.{NamesKnown}
pub use Rattle.rx_register.specs.Claims.{IsReady}
pub use Rattle.rx_scenario.proofs.Laws.{list_of-steps_of}
pub use Rattle.rx_scenario.specs.Checkpoints.{has_checkpoint}
pub use Rattle.rx_scenario.specs.Scenario.{Name, Command, Step, Script, checkpoint, root, using, open_node, make_hub, sub, Site, source, leaf, Action, command}
pub use Rattle.rx_scenario.specs.Scenario.{notifier, until, hold, lease, next, end, dispose, connect, drain, Sort, apply, steps_of, list_of, inner, pass, flat}
pub use Rattle.rx_scenario.specs.Scenario.{switch, remove, give_back, abort, decline, fail, disconnect, StepList, no_steps, step_of, cancel, site_of}
pub use Rattle.rx_script.specs.Course.{limited, Course, accepted, Executes, refused_by_book, in_one_order, checkpointed, drained, refused, Does, does, leaves}
pub use Rattle.rx_script.specs.Course.{Plays, none_played, one_played, cause_in, IsCanonicalCourseOf, IsCourseOf, HasNoFull, Manner, DrainsInOrder}
pub use Rattle.rx_script.specs.Course.{nothing_left, least_taken, IsCourseIn, HasOneCourse}
pub use Rattle.rx_script.specs.Engine.{IsSound, CarriesStep, stage_of, at_of, with_named, IsHistoryOf, is_taken_beside, kind_by_hubs, MovesOn}
pub use Rattle.rx_script.specs.Keys.{IsNodeKey, node_binding, IsHeldKey, res_binding, IsLeaseKey, lease_binding}
pub use Rattle.rx_script.specs.Lines.{node_lines, res_lines, refused_lines, is_told, line_of_node, res_shown, account_of, totals_reported}
pub use Rattle.rx_script.specs.NamedDumps.{binding_text, named_dump}
pub use Rattle.rx_script.specs.Outputs.{unclosed_output, has_history, IsCarriedOut}
pub use Rattle.rx_script.specs.Progress.{begin, executes, not_begun, advanced, Progress, LeadsBySteps, Ends, PerformsStep, cancels, Advances}
pub use Rattle.rx_script.specs.Report.{lacks_form}
unfoldable pub use Rattle.rx_script.specs.Report.{report, unclosed_report}
pub use Rattle.rx_script.specs.Shelf.{Shelf}
pub use Rattle.rx_script.specs.Stage.{Stage, Ware, own_cause, call_of, after, front_is_fresh, start, place_at, kind_at_stage, front, with_connection_bound}
pub use Rattle.rx_script.specs.Stage.{connection_name}
pub use Rattle.rx_script.specs.Stage.{is_unbound_site, is_unbound_hub, has_no_ware, takes_name, ware_of, lacks_name, lacks_stock}
pub use Rattle.rx_script.specs.Tallies.{AreNotesOf, IsWhole, AreCountsOf, GoesOnFromFront, AreTalliesOf, Gathers}
pub use Rattle.rx_script.specs.Text.{res_line}
unfoldable pub use Rattle.rx_script.specs.Text.{totals_line, node_line, refused_line, note_in_line, closed_line}
pub use Rattle.rx_script.specs.declared.Form.{Form}
pub use Rattle.rx_script.specs.declared.engine.Engine.{Engine}
pub use Rattle.rx_script.specs.declared.line.Whereabouts.TheVariants.{Held, Waiting, Taken}
pub use Rattle.rx_script.specs.declared.tallies.Tallies.{Tallies}
