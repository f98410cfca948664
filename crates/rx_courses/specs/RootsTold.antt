-- What a root is told over a course: its notes, in order.
use Rattle.std.specs.Prelude.{◌≡◌, ℕ, ◌==◌, ◌&&◌, ⊤, Bool, true, false, List, [], ◌∷◌, ◌++◌, length, if◌then◌else◌}
use Rattle.std.proofs.Math.Bool.{not}
use Rattle.rx_resource.specs.declared.Resource.{Ghosts}
use Rattle.rx_resource.specs.declared.token.Token.{Token}
use Rattle.rx_note.specs.declared.note.Note.{Note}
use Rattle.rx_note.specs.declared.note.Note.TheVariants.{Project as ProjectNote}
use Rattle.rx_event.specs.declared.event.Event.TheVariants.{Open}
use Rattle.rx_event.specs.declared.event.Kind.TheVariants.{Sub}
use Rattle.rx_event.specs.declared.mail.Mail.{Mail}
use Rattle.rx_event.specs.Events.{is_root}
use Rattle.rx_event.specs.Notes.{notes}
use Rattle.rx_book.specs.Requests.{place_of}
use Rattle.rx_lanes.specs.declared.names.LaneName.{LaneName}
use Rattle.rx_lanes.specs.Courses.{is_name}
use Rattle.rx_roles.specs.declared.effect.Effect.{Effect}
use Rattle.rx_roles.specs.declared.effect.What.{What}
use Rattle.rx_roles.specs.declared.effect.What.TheVariants.{Next, Completed, Failed}
use Rattle.rx_roles.specs.Effects.{what_told}
use Rattle.rx_engine.specs.States.{State}
use Rattle.rx_courses.specs.Courses.{IsCommand, has_used, has_opened, has_subscribed, has_checkpointed, Course, begins, commands, takes, gives_up}
use Rattle.rx_courses.specs.Tellings.{line_at, told_there, IsHonest}
use Rattle.rx_courses.specs.NotesTold.{notes_added}

-- an item or an end, for who hears a root
abbrev pub is_heard : What → Bool
is_heard Next = true
is_heard Completed = true
is_heard Failed = true
is_heard _ = false

-- what is heard under this word, in order
abbrev pub heard : ℕ → List Effect → List What
heard word [] = []
heard word (e ∷ es) = if (is_heard e.what && e.user == word) then e.what ∷ heard word es else heard word es

-- the notes to this node, as they are told of, but those that it is to project
abbrev pub is_for_who_hears : Note → Bool
is_for_who_hears (ProjectNote value) = false
is_for_who_hears _ = true

abbrev pub notes_of : ℕ → List Mail → List What
notes_of n [] = []
notes_of n (m ∷ ms) = if (m.to == n && is_for_who_hears m.note) then what_told m.note ∷ notes_of n ms else notes_of n ms

-- the notes that a course added to the book's, in order
abbrev pub all_added : {g : Ghosts Token} {s t : State} → Course g s t → List Mail
all_added begins = []
all_added (commands {t = t} {u = u} before kept command) = all_added before ++ notes_added t u
all_added (takes name inside by before kept taken) = all_added before
all_added (gives_up name by _ before kept given) = all_added before

-- if a root was opened with this number, word and lane, it is this one, or it has another word or another lane
abbrev pub IsOther : (is_root_there : Bool) → (number own : ℕ) (lane : LaneName) → (n word : ℕ) → LaneName → Type 0
IsOther true number own lane n word name = (number == n) ≡ (own == word && is_name lane name)
IsOther false number own lane n word name = ⊤

-- of the roots that a command opens, and a course, just this one has this word in this lane
abbrev pub OpensOnly : {g : Ghosts Token} {s t : State} → (n word : ℕ) → LaneName → IsCommand g s t → Type 0
OpensOnly {s = s} n word name (has_opened at kind user by alone done) =
    IsOther (is_root (Open (place_of at) kind)) (length s.book.history) user.word done.name n word name
OpensOnly {s = s} n word name (has_used at kind user tag by alone done) =
    IsOther (is_root (Open (place_of at) kind)) (length s.book.history) user.word done.name n word name
OpensOnly {s = s} n word name (has_subscribed at share user by place done) =
    IsOther (is_root (Open (place_of at) (Sub (done.chosen.hub).number))) (length s.book.history) user.word
    done.subscribes.name n word name
OpensOnly n word name _ = ⊤

abbrev pub AllOpenOnly : {g : Ghosts Token} {s t : State} → (n word : ℕ) → LaneName → Course g s t → Type 0
AllOpenOnly n word name begins = ⊤
AllOpenOnly n word name (commands before kept command) = AllOpenOnly n word name before × OpensOnly n word name command
AllOpenOnly n word name (takes from inside by before kept taken) = AllOpenOnly n word name before
AllOpenOnly n word name (gives_up from by _ before kept given) = AllOpenOnly n word name before

-- and there was no checkpoint, behind which notes count anew
abbrev pub is_checkpoint : {g : Ghosts Token} {s t : State} → IsCommand g s t → Bool
is_checkpoint (has_checkpointed made) = true
is_checkpoint _ = false

abbrev pub HasNoCheckpoint : {g : Ghosts Token} {s t : State} → Course g s t → Type 0
HasNoCheckpoint begins = ⊤
HasNoCheckpoint (commands before kept command) = HasNoCheckpoint before × (is_checkpoint command ≡ false)
HasNoCheckpoint (takes name inside by before kept taken) = HasNoCheckpoint before
HasNoCheckpoint (gives_up name by _ before kept given) = HasNoCheckpoint before

-- no end but as the last
abbrev pub is_ending : What → Bool
is_ending Completed = true
is_ending Failed = true
is_ending _ = false

abbrev pub ends_last : List What → Bool
ends_last [] = true
ends_last (w ∷ []) = true
ends_last (w ∷ (v ∷ ws)) = not (is_ending w) && ends_last (v ∷ ws)

-- notes in order: of a root that alone has its word in its lane, what was told there under this word, and then what
-- waits, are its notes, in order, items and at most one end, and nothing behind it; and where there was no checkpoint
-- the history has them
pub record TellsARoot {g : Ghosts Token} {s t : State} (n word : ℕ) (name : LaneName) (course : Course g s t) : Type 0
  where
    pub told : heard word (told_there name course ++ line_at name t.parts.lanes) ≡ notes_of n (all_added course)
    pub ordered : ends_last (notes_of n (all_added course)) ≡ true
    pub noted : HasNoCheckpoint course → notes t.book.history ≡ notes s.book.history ++ all_added course

abbrev pub TellsEachRoot : Ghosts Token → Type 0
TellsEachRoot g = (n word : ℕ) (name : LaneName) (s t : State) → s.parts.lanes.places ≡ [] → s.parts.hears.list ≡ [] →
    (course : Course g s t) →
    IsHonest course → AllOpenOnly n word name course → TellsARoot n word name course
