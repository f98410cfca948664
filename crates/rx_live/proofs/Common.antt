-- The names that most proofs here cite, passed on from one place. Declares nothing.
pub use Rattle.std.proofs.Common.{Some, string_bytes, None, Option, is_some, codes, IfSome, Err, Ok, Result, IfOk, Global, String, OnErr, get_or, IfNone}
pub use Rattle.std.proofs.Common.{OnOk, add-one, ltb-false, take_all, IfErr, drop-cons, drop_at, length-drop, get_or as slice_index_or}
pub use Rattle.rx_event.proofs.Laws.Common.{◌≡◌, ◌∙◌, sym, ap, ℕ, refl, subst, List, length, false, arith, ◌++◌, Bool, option_map, [], true, ◌+◌, ◌∷◌, ◌<◌}
pub use Rattle.rx_event.proofs.Laws.Common.{◌≤◌, none-some, inl, option_map_or, cond, inr, map, ◌⊎◌, append-nil, ◌==◌, append_assoc, at, option_to_list, suc}
pub use Rattle.rx_event.proofs.Laws.Common.{drop, same_Some, if◌then◌else◌, list_any, map-append, take, Call, Holding, Kept, cons_option, is_take_of, le-ltb}
pub use Rattle.rx_event.proofs.Laws.Common.{makes_resource, range_with_len, slice_get, zero, IsLawful, eqb-true, filter_map, lt-ltb, nat_lt, ne_eqb, rules}
pub use Rattle.rx_event.proofs.Laws.Common.{option_and_then, GivingBack, IsForcedOn, IsStepOf, IsTrue, Leasing, OpeningUsing, Taking, and_parts, cases_lt}
pub use Rattle.rx_event.proofs.Laws.Common.{cases_order, eq-eqb, filter, length-append, ltb-true, mail_of, more, or_parts, slice_get_within, stays, ◌*◌, ◌-◌}
unfoldable pub use Rattle.rx_event.proofs.Laws.Common.{is_held, is_out, is_taken, is_waiting, notes, base_of, moments, shown}
pub use Rattle.std.proofs.{Math.Bool.◌||◌, Math.Bool.◌&&◌, Math.Bool.not, lemmas.Bool.and_cases, lemmas.Bool.and_right, lemmas.Bool.not-false}
pub use Rattle.std.proofs.lemmas.{Grind.flat_map-append, List.drop_all, List.take_more, List.drop-append-le, Slice.Eq.bytes_eq-Decides}
pub use Rattle.std.proofs.lemmas.{List.Elements.filter_map-append, List.Elements.All-contains, Option.get_or_from_slice_get, Option.slice_get_cases}
pub use Rattle.std.specs.{Bool.nat_eq, List.Contains, List.flat_map, Str.bytes_eq, declared.alloc.AllocError.AllocError}
pub use Rattle.json.specs.{Value.items_view, Value.value_view, declared.value.Value.Value}
pub use Rattle.rx_book.proofs.Laws.LastsThroughSteps.{out_same, keeps_leases, keeps_resources, kept_same, kept_past, kept_held, kept_taken, kept_used}
pub use Rattle.rx_book.proofs.Laws.LastsThroughSteps.{out_leased, out_returned}
pub use Rattle.rx_book.specs.Requests.{Request, open_request, hub_request, stands, take_request, connect_request, is_known_place, place_of}
pub use Rattle.rx_book.specs.Requests.{give_back_request, is_live, lease_request}
pub use Rattle.rx_book.{proofs.Laws.StepsContinue.step_longer, specs.State.State, specs.State.IsPromised, specs.State.has_key, specs.State.has_res_key}
pub use Rattle.rx_book.specs.Answers.{Accepts, connection_made, IsCauseOrWant, makes_connection, IsOpened}
pub use Rattle.rx_book.specs.declared.{answer.At.At, answer.Opened.Opened}
pub use Rattle.{rx_slots.specs.declared.Key.Key, rx_ground.specs.declared.leases.LeaseKey.LeaseKey}
unfoldable pub use Rattle.rx_book.specs.State.{is_kept}
pub use Rattle.rx_device.specs.{Input.IsJsonOf, Part.part_data, Part.items_data, Part.data_of}
pub use Rattle.rx_event.proofs.Laws.{Counts.notes-push, Leases.is_out_past, MakingRemovesNothing.made_untold, Places.at_within, Searches.list_any_push}
pub use Rattle.rx_event.{proofs.Laws.Resources.held_not_taken, proofs.Laws.Resources.held_resource, specs.Calls.outside_of, specs.declared.event.Event.Event}
pub use Rattle.rx_event.specs.{Causes.by_key, Causes.checkpoint_causes, Causes.most_places, Refusals.IsRefusal, Refusals.first_cause, declared.mail.Mail.Mail}
pub use Rattle.rx_event.specs.declared.{event.Event.TheVariants.Accept, event.Kind.Kind, event.Place.Place, refusal.Refusal.Refusal}
pub use Rattle.rx_event.specs.declared.refusal.Refusal.TheVariants.{Full, MailLeft, NoMemory, TooMany}
pub use Rattle.rx_line.specs.{Names.name_of_number, Names.spot_of, Names.Binds, Names.IsPaired, Names.AreSameNames, Names.Forgets, Pieces.joined}
pub use Rattle.rx_line.specs.{Pieces.member_text}
pub use Rattle.rx_line.specs.Orders.{Task, Order, open_holding, plain, IsUnread, dump, list, query, task, task_of, IsOrderOf, order_of}
pub use Rattle.rx_line.specs.declared.{names.Names.Names, names.Spot.Spot, order.Unread.Unread, outcome.Cause.Cause, outcome.Outcome.Outcome}
pub use Rattle.rx_line.specs.declared.outcome.Cause.TheVariants.{Book, NameTaken, NoName}
pub use Rattle.rx_line.specs.declared.outcome.Outcome.TheVariants.{Accepted, Refused}
unfoldable pub use Rattle.rx_line.specs.{Orders.order_in, Pieces.name_text, Pieces.faulty_text, Pieces.ok_text, Pieces.refused_text}
pub use Rattle.rx_listing.{proofs.Laws.Texts.more_nil, proofs.Laws.Texts.more_text, proofs.Laws.Texts.same_texts, specs.Parts.has_no_texts}
pub use Rattle.rx_listing.{specs.Parts.led_text}
pub use Rattle.rx_live.specs.Given.{AreOpenSame, IsAlike, NamesOne, BindsHub, BindsLease, BindsResource, Gives, IsUnchanged, FreesLease, GivesBy, GivesNames}
pub use Rattle.rx_live.specs.Given.{hold_asked, hold_tagged}
pub use Rattle.rx_live.specs.Lines.{DoesTask, as_it_was, IsNewSession, renewed, IsSessionClosed, RunsCommand, EndsSession, FindsFull, SendsLines, IsAged}
pub use Rattle.rx_live.specs.Lines.{IsCarried, IsPutOff, TellsAll}
pub use Rattle.rx_live.specs.Lines.{WaitsFor, handed_by, is_put_off, no_line, one_line}
pub use Rattle.rx_live.specs.Openings.{BindsMade, OpensHolder, holder_causes, answer_front_text, is_node, is_open_taken, BindsConnection, BindsHolder}
pub use Rattle.rx_live.specs.Openings.{BindsNode}
pub use Rattle.rx_live.specs.Openings.{BindsUsing, holder_at, said_if, using_at, connected_by, is_holder_taken, is_using_taken, place_at, using_asked}
pub use Rattle.rx_live.specs.Session.{session_of, Session, IsSound, has_resource, hub_by_name, AreNamesPlaced, lease_by_name, node_by_name, resource_by_name}
pub use Rattle.rx_live.specs.Session.{node_key_at, IsTied, key_if_open}
pub use Rattle.rx_live.specs.Session.{is_node_in, lease_key_at}
pub use Rattle.rx_live.specs.Answers.{to_tell, WritesNotes, Takes, WritesNames, late_text, none_taken, one_taken, told_text, is_late}
pub use Rattle.rx_live.specs.{Carried.CarriesSoundly, Carried.Carries, Carried.outcome_of, ClosedAt.closed_texts, ClosedAt.closed_at, Room.HasRoom}
pub use Rattle.rx_live.specs.{Closings.SaysClosed, Closings.closed_names, Dumps.entries, Dumps.query_text, Dumps.dump_text, Dumps.name_entry_at}
pub use Rattle.rx_live.specs.{Listed.all_names}
pub use Rattle.rx_live.specs.Promise.{NameAct, no_act, LeadsNames, released, releases, hands_in, with_held, IsKept}
pub use Rattle.rx_live.specs.Renewals.{Renews, AreOpen, IsFullByOpen, Renewing, may_renew, renewing_causes}
pub use Rattle.rx_live.specs.Steps.{AreNamesWritten, AreNotesWritten, names_left}
pub use Rattle.rx_live.specs.Taken.{WritesAnswer, connects_at, Answered, AnsweredOne, AreAnswering, IsFullByAge, Tries, is_full_cause}
unfoldable pub use Rattle.rx_live.specs.Session.{open_node_in}
pub use Rattle.rx_scenario.specs.Scenario.{Name, Command, abort, apply, checkpoint, connect, decline, disconnect, dispose, drain, end, fail, give_back, hold}
pub use Rattle.rx_scenario.specs.Scenario.{lease, make_hub, next, open_node, remove, using, site_of}
pub use Rattle.serde_json.specs.{Data.Data, Data.Items, Data.item, Data.no_items, Find.as_array}
