-- The names that most proofs here cite, passed on from one place. Declares nothing.
pub use Rattle.std.proofs.Common.{None, Some, Option, Ok, is_some, IfSome, IsSome, Err, Result, count_by, nat_eq, true≢false, w64, IfErr, IsErrAnd, OnErr}
pub use Rattle.std.proofs.Common.{get_or, zero-add, ⊎_elim}
pub use Rattle.rx_event.proofs.Laws.Common.{◌∙◌, ap, ◌≡◌, refl, sym, arith, length, List, [], subst, true, ℕ, Kept, ◌+◌, ◌∷◌, Bool, ◌++◌, ◌≤◌, false, ◌<◌, at}
pub use Rattle.rx_event.proofs.Laws.Common.{taken_count, length-append, accepted_count, map, IsForcedOn, IsLawful, cond, stays, and_parts, inl, inr, more, ℤ}
pub use Rattle.rx_event.proofs.Laws.Common.{option_map_or, ◌-◌, Call, IsSettled, Opening, false_from_ne_true, false≢true, IsStepOf, append-nil, append_assoc}
pub use Rattle.rx_event.proofs.Laws.Common.{open_connections, slice_get, ◌⊎◌, GivingBack, Leasing, MayFollow, Removing, accepted_by, cases_order, eqb-true}
pub use Rattle.rx_event.proofs.Laws.Common.{list_all, Applying, Disconnecting, Disposing, Emitting, Taking, and_from, both_ways, eq-eqb, mail_of, places, cut}
pub use Rattle.rx_event.proofs.Laws.Common.{take, Aborting, Declining, Ending, Failing, Holding, IsConnectDue, IsConnected, IsForced, IsTrue, OpeningUsing}
pub use Rattle.rx_event.proofs.Laws.Common.{is_auto_hub, is_root, is_take, le-ltb, length-map, makes_lease, makes_resource, nat_lt, open_subscribers, ◌==◌}
pub use Rattle.rx_event.proofs.Laws.Common.{option_and_then, option_map, option_to_list, same_Some, waiting_count, Agree, IsDue, Publishing, allowed, due}
pub use Rattle.rx_event.proofs.Laws.Common.{completed, connecting, failed, filter, fired, forced, held_count, hub_subscribed, is_connect_of, is_leased, left}
pub use Rattle.rx_event.proofs.Laws.Common.{is_manual_hub, is_merging, is_return_of, is_subscriber_of, is_take_of, list_any, lt-ltb, makes_hub, mirrored, ◌*◌}
pub use Rattle.rx_event.proofs.Laws.Common.{ne_eqb, node_of_accept, not-true, open_count, opened_with, slice_get_within, sum_by-cons, waiting_resources, ◌≢◌}
unfoldable pub use Rattle.rx_event.proofs.Laws.Common.{is_open, is_out, debt, is_waiting, notes, is_held, is_owned, base_of, owed, shown}
pub use Rattle.std.proofs.{Math.Bool.not, Math.Bool.◌&&◌, Math.Bool.◌||◌, lemmas.Bool.not-false, lemmas.Int.to_z-of_z, lemmas.List.take_more}
pub use Rattle.std.proofs.lemmas.List.{Elements.All-cons, Elements.All-contains, Elements.All-map, FromFn.get_or-range_with_len, FromFn.length-range_with_len}
pub use Rattle.std.{proofs.lemmas.List.Sums.sum_by-append, proofs.lemmas.Option.get_or_from_slice_get, specs.List.Contains, specs.List.All}
pub use Rattle.rx_book.specs.Answers.{Accepts, Answers, connection_made, IsNewKey, IsNewResKey, IsOpened, IsRefusalOf, makes_connection, AnswersOpened}
pub use Rattle.rx_book.specs.Answers.{AnswersOpenedUsing, AnswersResKey, IsCauseOrWant, IsOpenedUsing}
pub use Rattle.rx_book.specs.Requests.{stands, Request, place_of, open_request, is_known_place, hold_request, is_fresh_in, next_request, connect_request}
pub use Rattle.rx_book.specs.Requests.{disconnect_request, dispose_request, give_back_request, is_live, take_request, using_request}
pub use Rattle.rx_book.specs.Shown.{state_of, keys_of, lease_keys_of, res_keys_of}
pub use Rattle.rx_book.specs.{Checkpoints.AnswersCheckpoint, Checkpoints.Checkpoints, Drains.none_taken, Drains.Takes, Drains.next_taken, Drains.Drains}
pub use Rattle.rx_book.specs.Courses.{LetsGo, next_let_go, none_let_go, Emits, next_emitted, none_emitted}
pub use Rattle.rx_book.specs.{OpensHolding.stands_holding, OpensHolding.AnswersOpenedHolding, OpensHolding.IsAdmittedHolding, Places.key_above}
pub use Rattle.rx_event.specs.Gone.{AreJust, goes}
pub use Rattle.rx_book.specs.State.{State, has_key, IsPromised, has_lease_key, has_res_key, Continues, IsLabelOf, accepted_tag, has_subscriber}
pub use Rattle.rx_book.specs.Steps.{IsLetIn, Admits, IsAdmitted, IsWithin, IsWritten}
pub use Rattle.rx_book.specs.declared.answer.{Answer.Answer, At.At, Opened.Opened, OpenedHolding.OpenedHolding, OpenedUsing.OpenedUsing}
pub use Rattle.rx_ground.specs.declared.leases.LeaseKey.{LeaseKey}
pub use Rattle.rx_slots.specs.declared.Key.{Key}
pub use Rattle.rx_tree.specs.declared.node.ResKey.{ResKey}
pub use Rattle.rx_event.specs.Causes.{causes, added_by, is_over, by_key, forces_connect, has_connection, nodes_opened, by_key_of, holding_causes}
pub use Rattle.rx_event.specs.Causes.{checkpoint_causes, opening_causes}
pub use Rattle.rx_event.specs.declared.refusal.Refusal.TheVariants.{Full, Gone, Leased, NotFresh, HubOrder, NoHub, NoLease, NoMemory, NotHeld, NothingOwed}
pub use Rattle.rx_event.specs.declared.refusal.Refusal.TheVariants.{PlaceTaken, TooMany, WrongKind}
pub use Rattle.rx_event.proofs.Laws.{Calm.closes_none_kept, Calm.settled_on, Calm.opened_settled, Calm.unforced, Counts.notes-push, Lawful.IsLawful-push}
pub use Rattle.rx_event.proofs.Laws.{Hubs.may_subscribe, Hubs.one_where_subscribed, LetGo.connection_listed, LetGo.first_connection, LetGo.nothing_open}
pub use Rattle.rx_event.proofs.Laws.{Lists.filter_nonempty, Notes.notes_grammatical, Resources.accepted_by_new, Resources.held_is, Resources.no_take}
pub use Rattle.rx_event.proofs.Laws.{Openness.is_open_within, Openness.is_open_past, Openness.stays_closed_after, Searches.list_any_push}
pub use Rattle.rx_event.proofs.Laws.Places.{at_within, slice_get_last, at-append, slice_get-append}
pub use Rattle.rx_event.proofs.Laws.StaysOpen.{opened_stays, accepted_stays, connected_stays, opened_using_stays}
pub use Rattle.rx_event.proofs.Laws.{Steps.forced_kind, Steps.may_be_forced, Totals.accepted_count-parts, Totals.is_open_new, Totals.waiting_count-take}
pub use Rattle.rx_event.proofs.Laws.Waits.{forced_connected, settled_connected, at_before, connected_first, kept_subscribed, kept_unsubscribed, waits_after}
pub use Rattle.rx_event.specs.{Calls.outside_of, Calls.Connecting, Claims.Closing.is_open_root, Claims.Closing.IsLetGo, Claims.Closing.makes_neither}
pub use Rattle.rx_event.specs.{Forced.MayWait, Forced.none_waits, Forced.one_waits, Kept.event_since, declared.event.Event.Event, declared.event.Kind.Kind}
pub use Rattle.rx_event.specs.{Refusals.first_cause, Refusals.IsRefusal, Refusals.first_of_these, Refusals.refusal_order, declared.event.Place.Place}
pub use Rattle.rx_event.specs.declared.event.Event.TheVariants.{Accept, Close, Open, Take, Lease, Connect, Item, Return}
pub use Rattle.rx_event.specs.declared.event.Kind.TheVariants.{Pass, Sub, Flat, Leaf, Switch, Until}
pub use Rattle.rx_event.specs.declared.{mail.Mail.Mail, refusal.Refusal.Refusal}
pub use Rattle.rx_ground.specs.Ties.{IsStanding, IsTied, AreLeased, IsReady, is_there, AreTied, HasRoomToConnect, HasRoomBeside, HasRoomToTell, IsRoomier, KeepsHeld}
pub use Rattle.rx_ground.specs.Ties.{KeepsOlder, IsListed, IsNewNode, IsStored, KeepsLeases, KeepsNodes}
pub use Rattle.rx_ground.proofs.Laws.GoneStaysGone.{gathers_quiet, IsFurther, gathers_on, gone_forced, gathers_nothing, gathers_then}
pub use Rattle.rx_ground.proofs.Laws.GoneStaysGone.{adds_forced, closes_none, closes_on, gone_on}
pub use Rattle.rx_ground.proofs.Laws.{JustOpenHeldWaiting.just_waiting, JustOpenHeldWaiting.length-waiting, OwnedInTree.owned_there, StaysHeld.resource_stays}
pub use Rattle.rx_ground.proofs.Laws.KeysKept.{leases_stay, keeps_held, keeps_opened, keeps_on, KeepsKeys, keeps_closed, keeps_same, keeps_settled}
pub use Rattle.rx_ground.proofs.Laws.{Members.Contains-from_map, Members.Contains-map, Members.All-members, Ranges.find_first, Ranges.find_nothing}
pub use Rattle.rx_ground.specs.{Checkpoints.IsCheckpoint, Costs.cost_of, Gone.Closes, Gone.Gathers, Gone.GoesFirst, Gone.numbers_of, Leases.lease_key, Leases.is_out_at}
pub use Rattle.rx_ground.specs.Costs.{most_notes}
pub use Rattle.rx_ground.specs.{Memory.TakesNoMemory, Reached.IsReach, Reached.MakesOnly, Told.is_connected_manual, declared.base.Wanted.Wanted}
pub use Rattle.rx_ground.specs.{Shown.Ground, Shown.held_in, Shown.label_in, Shown.waiting_in, Shown.list_room, declared.route.Reach.Reach}
pub use Rattle.rx_register.proofs.Laws.{Calls.call_fits, Calls.call_follows, Calls.called_paid, NoCause.no_cause}
pub use Rattle.rx_register.proofs.Laws.OpeningForcesConnection.{connects_none, opening_connects, connects_one}
pub use Rattle.rx_register.proofs.Laws.Paid.{paid_room, within_limit, Writes-append, call_mail_room, call_room}
pub use Rattle.rx_register.specs.{Paid.notes_added, Paid.IsPaid, Paid.Fits, Paid.HasRoomFor, State.Writes}
pub use Rattle.rx_resource.specs.declared.{Life.TheVariants.Live, Life.TheVariants.Released, Resource.Ghosts}
pub use Rattle.rx_slots.specs.Slots.{Slots, find}
pub use Rattle.rx_tree.{proofs.Laws.Keys.some_of, specs.Resources.is_held_at, specs.Resources.is_owned_at, specs.declared.node.Node.Node}
pub use Rattle.rx_tree.specs.{Tree.Tree, Tree.AreApart, Tree.HasNone, Tree.IsFirst, Tree.IsPlaced, Tree.IsRoot, declared.node.Stowed.Stowed}
