-- What an answer tells beside its outcome: notes, and names to be released.
use Rattle.std.specs.Prelude.{◌≡◌, ℕ, ◌||◌, Bool, true, false, None, List, [], ◌++◌, codes, map, drop, is_some}
use Rattle.std.specs.Option.{option_map_or, option_to_list}
use Rattle.rx_note.specs.declared.note.Note.{Note}
use Rattle.rx_event.specs.declared.mail.Mail.{Mail}
use Rattle.rx_event.specs.Notes.{notes}
use Rattle.rx_scenario.specs.Scenario.{Name}
use Rattle.rx_book.specs.State.{State}
use Rattle.rx_book.specs.Requests.{take_request}
use Rattle.rx_book.specs.Answers.{Accepts}
use Rattle.rx_line.specs.declared.names.Names.{Names}
use Rattle.rx_line.specs.Names.{name_of_number}
use Rattle.rx_line.specs.Pieces.{note_text, name_text, member_text}
use Rattle.rx_live.specs.Session.{Session, has_resource}
use Rattle.rx_live.specs.Promise.{released, LeadsNames}

-- a note, and the name of the node that it goes to
pub record Told : Type 0 where
  pub to : Name
  pub note : Note

abbrev pub told_text : Told → List ℕ
told_text t = note_text t.to t.note

-- notes ----------------------------------------------------------------------------------------------

-- the notes that are still to be told: the one that was taken from the book, and those that it has
abbrev pub to_tell : Session → List Mail
to_tell s = option_to_list s.untold ++ drop s.book.given (notes s.book.history)

-- the names of nodes, as the notes' addressees
abbrev pub addressee_name : Names → ℕ → Name
addressee_name names n = option_map_or (λ name. name) (name_of_number names n) []

abbrev pub told_of : Names → Mail → Told
told_of names m = record { to = addressee_name names m.to; note = m.note }

-- nothing but what was told has changed
abbrev pub IsTelling : Session → Session → Type 0
IsTelling old new = new ≡ record old { book = record old.book { given = new.book.given }; untold = new.untold }

-- these were told, in order, and the others still are to be
pub record TellsNotes (old : Session) (told : List Told) (new : Session) : Type 0 where
  pub mails : List Mail
  pub are : told ≡ map (told_of old.nodes) mails
  pub left : to_tell old ≡ mails ++ to_tell new
  pub rest : IsTelling old new

-- all was told, but for a note that found no memory and those behind it
abbrev pub IsAllTold : Session → Type 0
IsAllTold s = s.untold ≡ None → to_tell s ≡ []

-- behind what was written stands the member for the notes that were told
pub record WritesNotes (old : Session) (begun : List ℕ) (new : Session) (text : List ℕ) : Type 0 where
  pub told : List Told
  pub tells : TellsNotes old told new
  pub all : IsAllTold new
  pub written : text ≡ begun ++ member_text (codes "notes") (map told_text told)

-- names ----------------------------------------------------------------------------------------------

-- resources are taken from the book, one after another
pub data Takes : State → State → Type 0 where
  none_taken : {s : State} → Takes s s
  one_taken : {s new : State} (mid : State) (r : ℕ) → Takes s mid → Accepts mid (take_request r) new → Takes s new

-- these names were released, each of which was held, and what else is held still is
pub record ReleasesNames (old : Session) (names : List Name) (new : Session) : Type 0 where
  pub leads : LeadsNames (has_resource old) (map released names) (has_resource new)
  pub takes : Takes old.book new.book
  pub rest : new ≡ record old { book = new.book; resources = new.resources; unnamed = new.unnamed }

-- nothing waits, but where a name found no memory
abbrev pub IsReleased : Session → Type 0
IsReleased s = s.unnamed ≡ None → s.book.waiting ≡ []

-- behind what was written stands the member for them
pub record WritesNames (old : Session) (begun : List ℕ) (new : Session) (text : List ℕ) : Type 0 where
  pub names : List Name
  pub releases : ReleasesNames old names new
  pub all : IsReleased new
  pub written : text ≡ begun ++ member_text (codes "release") (map name_text names)

-- what is put off --------------------------------------------------------------------------------------

abbrev pub is_late : Session → Bool
is_late s = is_some s.untold || is_some s.unnamed

-- the member that says so
abbrev pub late_text : (late : Bool) → List ℕ
late_text true = codes ",\"late\":true"
late_text false = []
