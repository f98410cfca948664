-- An item that may come to so many notes at most: what is answered, and that a plain call of `next` is one that may come to any number.
use Rattle.rx_book.proofs.Common.{◌≡◌, ℕ, ℤ, ◌≤◌, ◌<◌, sym, subst, None, Result, Ok, Err, IsErrAnd, State, Key, next_request, stands, first_cause, IsCauseOrWant}
use Rattle.rx_event.specs.declared.refusal.Refusal.{Refusal}
use Rattle.rx_book.specs.Answers.{AnswersPlaceOrWant}
use Rattle.rx_book.specs.Courses.{EmitsWithin, note_count}
use Rattle.rx_book.specs.declared.ending.ItemWithin.{ItemWithin}
use Rattle.rx_book.specs.declared.ending.ItemWithin.TheVariants.{Told, Beyond}
use Rattle.rx_book.proofs.AnswersOkOrErr.{answers_ok, answers_err}
use Rattle.std.proofs.Common.{rules}

module _ {most : ℕ} {old : State} {leaf : Key} {value : ℤ} {new : State} where
  pub told_within : {place : ℕ} → AnswersPlaceOrWant old (next_request old leaf value) new (Ok place) → note_count old leaf value ≤ most →
      EmitsWithin most old leaf value new (Ok (Told place))
  told_within a within = record { ok = record { place_is = a.ok; accepts = a.accepted; within = within }; refused = tt; kept = tt }

  pub beyond_within : {notes : ℕ} → note_count old leaf value ≡ notes → most < notes → first_cause (stands old (next_request old leaf value)) ≡ None →
      new ≡ old → EmitsWithin most old leaf value new (Ok (Beyond notes))
  beyond_within are more none same = record {
    ok = record { notes_are = sym are; more = more; none_stands = none; same = same };
    refused = tt;
    kept = tt;
  }

  pub refused_within : (answer : Result ItemWithin Refusal) (why : Refusal) → IsErrAnd answer (λ e. e ≡ why) →
      IsCauseOrWant old (next_request old leaf value) why → new ≡ old → EmitsWithin most old leaf value new answer
  refused_within answer why is refused kept = search rules

  -- what a call of `next` answers then
  pub told_answers : (item : ItemWithin) (place : ℕ) → item ≡ Told place → EmitsWithin most old leaf value new (Ok item) →
      AnswersPlaceOrWant old (next_request old leaf value) new (Ok place)
  told_answers item place is e =
      let told = subst (λ (x : ItemWithin). EmitsWithin most old leaf value new (Ok x)) is e in
      answers_ok told.ok.place_is told.ok.accepts

  pub refused_answers : {why : Refusal} → EmitsWithin most old leaf value new (Err why) → AnswersPlaceOrWant old (next_request old leaf value) new (Err why)
  refused_answers e = answers_err e.refused e.kept
