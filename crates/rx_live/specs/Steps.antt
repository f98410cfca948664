-- One step of a telling.
use Rattle.std.specs.Prelude.{◌≡◌, ℕ, ◌+◌, ◌<◌, Bool, true, false, List, ◌∷◌, ◌++◌, codes, map, length, Some, None}
use Rattle.std.specs.Option.{option_map_or}
use Rattle.rx_event.specs.declared.mail.Mail.{Mail}
use Rattle.rx_scenario.specs.Scenario.{Name}
use Rattle.rx_book.specs.Requests.{take_request}
use Rattle.rx_book.specs.Answers.{Accepts}
use Rattle.rx_line.specs.Names.{spot_of, name_of_number, Forgets}
use Rattle.rx_line.specs.Pieces.{name_text, joined}
use Rattle.rx_live.specs.Session.{Session, has_resource}
use Rattle.rx_live.specs.Promise.{with_held}
use Rattle.rx_live.specs.Answers.{Told, told_of, told_text, to_tell, IsTelling, IsAllTold, TellsNotes, Takes, ReleasesNames, IsReleased}

-- the next note
pub record TellsOne (old : Session) (mail : Mail) (new : Session) : Type 0 where
  pub next : to_tell old ≡ mail ∷ to_tell new
  pub rest : IsTelling old new

pub record WritesNote (old : Session) (begun lead : List ℕ) (new : Session) (text : List ℕ) : Type 0 where
  pub mail : Mail
  pub tells : TellsOne old mail new
  pub written : text ≡ begun ++ lead ++ told_text (told_of old.nodes mail)

pub record WritesNoNote (old : Session) (begun : List ℕ) (new : Session) (text : List ℕ) : Type 0 where
  pub left : to_tell new ≡ to_tell old
  pub all : IsAllTold new
  pub rest : IsTelling old new
  pub written : text ≡ begun

-- a note was written, or none
abbrev pub MayWriteNote : Bool → Session → (begun lead : List ℕ) → Session → List ℕ → Type 0
MayWriteNote true old begun lead new text = WritesNote old begun lead new text
MayWriteNote false old begun lead new text = WritesNoNote old begun new text

-- a resource is taken, and its name forgotten
pub record TakesName (old : Session) (name : Name) (new : Session) : Type 0 where
  pub number : ℕ
  pub known : name_of_number old.resources number ≡ Some name
  pub accepts : Accepts old.book (take_request number) new.book
  pub fewer : length new.book.waiting < length old.book.waiting
  pub forgets : Forgets old.resources number name new.resources
  pub rest : new ≡ record old { book = new.book; resources = new.resources }

-- how many names there may still be
abbrev pub names_left : Session → ℕ
names_left s = option_map_or (λ name. 1) s.unnamed 0 + length s.book.waiting

-- a name that is to be released
pub record DropsName (old : Session) (name : Name) (new : Session) : Type 0 where
  pub was : has_resource old name ≡ true
  pub held : (n : Name) → has_resource new n ≡ with_held false name (has_resource old) n
  pub free : spot_of new.resources name ≡ None
  pub gone : new.unnamed ≡ None
  pub takes : Takes old.book new.book
  pub rest : new ≡ record old { book = new.book; resources = new.resources; unnamed = new.unnamed }
  pub fewer : names_left new < names_left old

pub record WritesName (old : Session) (begun lead : List ℕ) (new : Session) (text : List ℕ) : Type 0 where
  pub name : Name
  pub drops : DropsName old name new
  pub written : text ≡ begun ++ lead ++ name_text name

pub record WritesNoName (old : Session) (begun : List ℕ) (new : Session) (text : List ℕ) : Type 0 where
  pub held : (n : Name) → has_resource new n ≡ has_resource old n
  pub takes : Takes old.book new.book
  pub all : IsReleased new
  pub rest : new ≡ record old { book = new.book; resources = new.resources; unnamed = new.unnamed }
  pub written : text ≡ begun

abbrev pub MayWriteName : Bool → Session → (begun lead : List ℕ) → Session → List ℕ → Type 0
MayWriteName true old begun lead new text = WritesName old begun lead new text
MayWriteName false old begun lead new text = WritesNoName old begun new text

-- arrays that are not closed yet, of one piece at least
pub record AreNotesWritten (old : Session) (begun : List ℕ) (now : Session) (text : List ℕ) : Type 0 where
  pub first : Told
  pub more : List Told
  pub tells : TellsNotes old (first ∷ more) now
  pub written : text ≡ begun ++ codes ",\"notes\":[" ++ joined (map told_text (first ∷ more))

pub record AreNamesWritten (old : Session) (begun : List ℕ) (now : Session) (text : List ℕ) : Type 0 where
  pub first : Name
  pub more : List Name
  pub releases : ReleasesNames old (first ∷ more) now
  pub written : text ≡ begun ++ codes ",\"release\":[" ++ joined (map name_text (first ∷ more))
