-- The ledgers after a call of the book.
use Rattle.rx_crew.proofs.Common.{◌≡◌, ℕ, Result, Ok, Err, sym, ap, ◌∙◌, Kept, Refusal, State, Request, AnswersCheckpoint, Sums, sums_of, counting}
use Rattle.rx_book.specs.Answers.{Accepts, Answers}
use Rattle.rx_crew.proofs.StepAddsTotals.{same_sums, sums-step}

-- ledgers that agreed with the history, and count what the accepted call does, agree with the history after it
pub counted : (old new : State) (asked : Request) (before after : Sums)
    → Accepts old asked new → before ≡ sums_of old.base old.history → after ≡ counting asked.call before → after ≡ sums_of new.base new.history
counted old new asked before after accepts agreed counts =
    counts ∙ ap (counting asked.call) agreed ∙ sym (sums-step old.base old.history new.history asked.call accepts.step) ∙
    ap (λ (b : Kept). sums_of b new.history) (sym accepts.base)

-- the same of a call that counts nothing, whatever it answers
pub uncounted : {A E : Type 0} {gives : A → Type 0} {refuses : E → Type 0} (old new : State) (asked : Request) (answer : Result A E) (ledgers : Sums)
    → Answers gives refuses old asked new answer → ledgers ≡ counting asked.call ledgers
    → ledgers ≡ sums_of old.base old.history → ledgers ≡ sums_of new.base new.history
uncounted old new asked (Ok x) ledgers answers none agreed =
    counted old new asked ledgers ledgers answers.accepted agreed none
uncounted old new asked (Err e) ledgers answers none agreed =
    agreed ∙ ap (λ (s : State). sums_of s.base s.history) (sym answers.kept)

-- and of a checkpoint, which leaves the totals
pub rebased : (old new : State) (answer : Result ℕ Refusal) (ledgers : Sums)
    → AnswersCheckpoint old new answer → ledgers ≡ sums_of old.base old.history → ledgers ≡ sums_of new.base new.history
rebased old new (Ok at) ledgers answers agreed =
    let agree = answers.made.agree in
    agreed ∙ same_sums (sums_of old.base old.history) (sums_of new.base new.history) agree.item_total agree.accepted_total agree.taken_total
rebased old new (Err why) ledgers answers agreed = agreed ∙ ap (λ (s : State). sums_of s.base s.history) (sym answers.kept)
