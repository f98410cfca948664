-- The names that most proofs here cite, passed on from one place. Declares nothing.
pub use Rattle.std.proofs.Common.{Err, IfErr, None, Ok, OnErr, OnOk, Result, IfOk, Option, Some, ap₂, is_ok}
pub use Rattle.rx_event.proofs.Laws.Common.{◌≡◌, ◌+◌, [], arith, refl, ℕ, ◌-◌, ◌∙◌, List, ap, sym, ◌++◌, ◌≤◌, suc, zero, ◌∷◌, append-nil, length, pos, rules}
pub use Rattle.rx_event.proofs.Laws.Common.{◌<◌, Bool, append_assoc, cond, if◌then◌else◌, map, map-append, min, slice_get, subst, sum_by, take, ℤ}
pub use Rattle.rx_event.proofs.Laws.Common.{sum_by-cons, true, ◌≢◌}
pub use Rattle.std.proofs.{Math.Nat.min-eq_left, Math.Seq.take-length, lemmas.Result.on_ok_weaker, lemmas.Result.on_err_weaker}
pub use Rattle.rx_book.specs.State.{IsPromised, State}
pub use Rattle.rx_crew.specs.{Feeds.AreOfPulls, Feeds.IsFed, Feeds.ends_once, Feeds.event_of, Feeds.items_in, declared.feeding.Pull.Pull}
pub use Rattle.rx_crew.specs.declared.{finishing.Mismatch.Mismatch, finishing.Totals.Totals, working.Stop.Stop}
pub use Rattle.rx_event.specs.{Events.is_item, declared.event.Event.Event, declared.event.Event.TheVariants.End, declared.refusal.Refusal.Refusal}
pub use Rattle.rx_ledger.specs.{Shares.Shares, Shares.sums_in, Shares.together, declared.ledgers.Sums.Sums, declared.receipt.Receipt.Receipt}
pub use Rattle.rx_note.specs.declared.note.Terminal.TheVariants.{Completed}
pub use Rattle.rx_storm.specs.{Storms.events_of, Storms.items_at, Storms.count_up, Storms.IsStormEnd, Storms.HasBegun, Storms.HasEmitted, Storms.HasEmittedSome}
pub use Rattle.rx_storm.specs.{declared.StormFault.StormFault}
pub use Rattle.rx_storm.specs.declared.{figures.Figures.Figures, outcome.Lack.Lack}
