-- What a command that gives no name does: a call of the book, or nothing.
use Rattle.std.specs.Prelude.{◌≡◌, Option, Some, None, Result, Ok, Err}
use Rattle.rx_event.specs.declared.refusal.Refusal.{Refusal}
use Rattle.rx_book.specs.Requests.{Request}
use Rattle.rx_book.specs.Answers.{Accepts, IsCauseOrWant}
use Rattle.rx_line.specs.declared.outcome.Cause.TheVariants.{NoName, NameTaken, Book}
use Rattle.rx_line.specs.declared.outcome.Outcome.{Outcome}
use Rattle.rx_line.specs.declared.outcome.Outcome.TheVariants.{Accepted, Refused}
use Rattle.rx_live.specs.Session.{Session, IsSound}

-- what the book's answer comes to
abbrev pub outcome_of : {T : Type 0} → Result T Refusal → Outcome
outcome_of (Ok answer) = Accepted
outcome_of (Err why) = Refused (Book why)

-- what is asked of the book, where each name that it uses is bound; an accepted call changes the book and no name, and a refused one
-- nothing
abbrev pub Carries : Session → Option Request → Outcome → Session → Type 0
Carries old None outcome new = (outcome ≡ Refused NoName) × (new ≡ old)
Carries old (Some asked) Accepted new = Accepts old.book asked new.book × (new ≡ record old { book = new.book })
Carries old (Some asked) (Refused NoName) new = ⊥
Carries old (Some asked) (Refused NameTaken) new = ⊥
Carries old (Some asked) (Refused (Book why)) new = IsCauseOrWant old.book asked why × (new ≡ old)

-- and it leaves the session sound
pub record CarriesSoundly (old : Session) (asked : Option Request) (outcome : Outcome) (new : Session) : Type 0 where
  pub carries : Carries old asked outcome new
  pub sound : IsSound new
