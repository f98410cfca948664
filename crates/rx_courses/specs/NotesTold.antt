-- What each command tells: the notes that it adds to the book's, in order, each for the role that its node has.
use Rattle.std.specs.Prelude.{◌≡◌, ℕ, Bool, true, false, List, [], ◌∷◌, drop, length, if◌then◌else◌}
use Rattle.rx_resource.specs.declared.Resource.{Ghosts}
use Rattle.rx_resource.specs.declared.token.Token.{Token}
use Rattle.rx_event.specs.declared.mail.Mail.{Mail}
use Rattle.rx_event.specs.Notes.{notes}
use Rattle.rx_roles.specs.declared.effect.Effect.{Effect}
use Rattle.rx_roles.specs.declared.effect.What.{What}
use Rattle.rx_roles.specs.declared.effect.What.TheVariants.{Next, Project, Completed, Failed}
use Rattle.rx_roles.specs.Effects.{all_told, AllListened}
use Rattle.rx_engine.specs.States.{State, IsPromised}
use Rattle.rx_courses.specs.Courses.{IsCommand, has_done, has_put, effects_of}
use Rattle.rx_courses.specs.Serving.{maker}

-- it tells a note
abbrev pub tells : What → Bool
tells Next = true
tells Project = true
tells Completed = true
tells Failed = true
tells _ = false

abbrev pub notes_only : List Effect → List Effect
notes_only [] = []
notes_only (e ∷ es) = if tells e.what then e ∷ notes_only es else notes_only es

-- the notes that the book has more
abbrev pub notes_added : State → State → List Mail
notes_added s t = drop (length (notes s.book.history)) (notes t.book.history)

-- the value of a command
abbrev pub value_of : {g : Ghosts Token} {s t : State} → IsCommand g s t → ℕ
value_of (has_done by value plain done) = value
value_of (has_put to user value by done) = value
value_of _ = 0

-- of the effects those that tell are the notes which the command adds, in order, each for the role that its node has;
-- and each has one
pub record TellsItsNotes {g : Ghosts Token} (s t : State) (c : IsCommand g s t) : Type 0 where
  pub told : notes_only (effects_of c) ≡ all_told (maker c) (value_of c) s.parts.hears.list s.parts.merges.list
      (notes_added s t)
  pub listened : AllListened s.parts.hears.list s.parts.merges.list (notes_added s t)

abbrev pub TellsEachNote : Ghosts Token → Type 0
TellsEachNote g = (s t : State) → IsPromised s → (c : IsCommand g s t) → TellsItsNotes s t c
