-- The names that most proofs here cite, passed on from one place. Declares nothing.
pub use Rattle.std.proofs.Common.{Err, IfOk, Ok, Result, Some, None, IsOk, add-one, length-drop}
pub use Rattle.rx_event.proofs.Laws.Common.{◌≡◌, sym, ℕ, ◌∙◌, Kept, List, ap, arith, length, refl, ◌+◌, IsTrue, ◌<◌, IsLawful, slice_get, subst}
pub use Rattle.rx_book.specs.{Checkpoints.AnswersCheckpoint, Requests.Request, State.State}
pub use Rattle.rx_crew.specs.{Counting.sums_of, Counting.counting, Feeds.ends_once, Verdicts.IsVerdictOnThreads, Verdicts.AllTaken, Verdicts.Stands}
pub use Rattle.rx_crew.specs.declared.{feeding.Pull.Pull, finishing.Mismatch.Mismatch, finishing.Totals.Totals, working.Stop.Stop}
pub use Rattle.rx_event.specs.{Events.is_item, declared.event.Event.Event, declared.event.Kind.TheVariants.Pass, declared.refusal.Refusal.Refusal}
pub use Rattle.rx_ledger.specs.{Shares.Shares, declared.ledgers.Sums.Sums, declared.receipt.Receipt.Receipt}
