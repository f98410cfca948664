-- What commands come to, one after another, and who takes of lanes between them.
use Rattle.std.specs.Prelude.{◌≡◌, ◌==◌, ℕ, ◌+◌, Bool, true, List, [], ◌∷◌, ◌++◌, length, drop, Option, if◌then◌else◌}
use Rattle.rx_resource.specs.declared.Resource.{Ghosts}
use Rattle.rx_resource.specs.declared.token.Token.{Token}
use Rattle.rx_event.specs.declared.event.Event.TheVariants.{Open}
use Rattle.rx_event.specs.declared.event.Kind.{Kind}
use Rattle.rx_event.specs.declared.event.Kind.TheVariants.{Sub}
use Rattle.rx_event.specs.Events.{is_root, is_merging}
use Rattle.rx_event.specs.Notes.{notes}
use Rattle.rx_slots.specs.declared.Key.{Key}
use Rattle.rx_book.specs.declared.answer.At.{At}
use Rattle.rx_book.specs.Requests.{Request, place_of}
use Rattle.rx_book.specs.State.{State as BookState}
use Rattle.rx_lanes.specs.declared.names.LaneName.{LaneName}
use Rattle.rx_pool.specs.declared.search.Share.{Share}
use Rattle.rx_roles.specs.declared.effect.Effect.{Effect}
use Rattle.rx_roles.specs.Effects.{tagged, finals, words_of, AllListened}
use Rattle.rx_engine.specs.declared.parts.User.{User}
use Rattle.rx_engine.specs.declared.homes.LaneOf.{LaneOf}
use Rattle.rx_engine.specs.declared.parts.Parts.{Parts}
use Rattle.rx_engine.specs.States.{State, IsPromised, IsSeenAs}
use Rattle.rx_engine.specs.Settlements.{mail_left}
use Rattle.rx_engine.specs.Commands.{IsDone}
use Rattle.rx_engine.specs.Plain.{IsPlain}
use Rattle.rx_engine.specs.Openings.{connects_none, IsOpenDone}
use Rattle.rx_engine.specs.Holdings.{IsHoldDone}
use Rattle.rx_engine.specs.Usings.{IsUsingDone}
use Rattle.rx_engine.specs.Puttings.{own, IsPutDone}
use Rattle.rx_engine.specs.Servings.{IsTake, IsGiveUp}
use Rattle.rx_engine.specs.Sharings.{IsSubscribeDone, IsConnectDone}
use Rattle.rx_engine.specs.Hubs.{MakesHubs}
use Rattle.rx_engine.specs.Checkpoints.{IsCheckpointed}

-- a command
pub data IsCommand (g : Ghosts Token) (s t : State) : Type 0 where
  is_refused : IsSeenAs s t → IsCommand g s t
  has_done : {asked : Request} (by value : ℕ) → IsPlain s.book asked → IsDone g asked by value s t → IsCommand g s t
  has_held : (node : Key) (tag by : ℕ) → IsHoldDone g node tag by s t → IsCommand g s t
  has_used : (at : At) (kind : Kind) (user : User) (tag by : ℕ) → connects_none kind ≡ true →
      IsUsingDone g at kind user tag by s t → IsCommand g s t
  has_opened : (at : At) (kind : Kind) (user : User) (by : ℕ) → connects_none kind ≡ true →
      IsOpenDone g at kind user by s t → IsCommand g s t
  has_put : (to : LaneOf) (user value by : ℕ) → IsPutDone to user value by s t → IsCommand g s t
  has_subscribed : (at : At) (share : Share) (user : User) (by place : ℕ) →
      IsSubscribeDone g at share user by place s t → IsCommand g s t
  has_connected : (share : Share) (user : User) (by place : ℕ) → IsConnectDone g share user by place s t →
      IsCommand g s t
  has_made_hubs : (by : ℕ) → MakesHubs g by s t → IsCommand g s t
  has_checkpointed : IsCheckpointed s t → IsCommand g s t

-- from s: commands, and what those do between them who serve lanes
pub data Course (g : Ghosts Token) (s : State) : State → Type 0 where
  begins : Course g s s
  commands : {t u : State} → Course g s t → IsPromised t → IsCommand g t u → Course g s u
  takes : {t u : State} {answer : Option Effect} (name : LaneName) (inside : Bool) (by : ℕ) → Course g s t →
      IsPromised t → IsTake name inside by t u answer → Course g s u
  gives_up : {t u : State} {answer : Option Bool} (name : LaneName) (by : ℕ) (undone : Option Effect) → Course g s t →
      IsPromised t →
      IsGiveUp name by undone t u answer → Course g s u

-- the effects that a command put into lanes, in order, and those of a course: making hubs puts none, nor does a
-- checkpoint
abbrev pub effects_of : {g : Ghosts Token} {s t : State} → IsCommand g s t → List Effect
effects_of (is_refused seen) = []
effects_of (has_done by value plain done) = done.settles.effects
effects_of (has_held node tag by done) = done.settles.effects
effects_of (has_used at kind user tag by alone done) = done.settles.effects
effects_of (has_opened at kind user by alone done) = done.settles.effects
effects_of (has_put to user value by done) = own done.name user value by ∷ []
effects_of (has_subscribed at share user by place done) = done.settles.effects
effects_of (has_connected share user by place done) = done.settles.effects
effects_of (has_made_hubs by makes) = []
effects_of (has_checkpointed made) = []

abbrev pub all_effects : {g : Ghosts Token} {s t : State} → Course g s t → List Effect
all_effects begins = []
all_effects (commands before kept command) = all_effects before ++ effects_of command
all_effects (takes name inside by before kept taken) = all_effects before
all_effects (gives_up name by _ before kept given) = all_effects before

-- tags -----------------------------------------------------------------------------------------------

-- how often a command handed this tag in, and a course
abbrev pub handed_in : {g : Ghosts Token} {s t : State} → ℕ → IsCommand g s t → ℕ
handed_in tag (has_held node held by done) = if held == tag then 1 else 0
handed_in tag (has_used at kind user held by alone done) = if held == tag then 1 else 0
handed_in tag _ = 0

abbrev pub all_handed_in : {g : Ghosts Token} {s t : State} → ℕ → Course g s t → ℕ
all_handed_in tag begins = 0
all_handed_in tag (commands before kept command) = all_handed_in tag before + handed_in tag command
all_handed_in tag (takes name inside by before kept taken) = all_handed_in tag before
all_handed_in tag (gives_up name by _ before kept given) = all_handed_in tag before

-- tags once: as many releases of a tag were put, or are still to come, as it was handed in
abbrev pub TagsOnce : Ghosts Token → Type 0
TagsOnce g = (tag : ℕ) (s t : State) → s.parts.holds.list ≡ [] → (course : Course g s t) →
    tagged tag (all_effects course) + words_of tag t.parts.holds.list ≡ all_handed_in tag course

-- words ----------------------------------------------------------------------------------------------

-- how many roles a node has
abbrev pub roles_of : At → Kind → ℕ
roles_of at kind = (if is_root (Open (place_of at) kind) then 1 else 0) +
    (if is_merging (Open (place_of at) kind) then 1 else 0)

-- how many roles have this word, and how many a command gave it, and a course
abbrev pub words_in : ℕ → Parts → ℕ
words_in word p = words_of word p.hears.list + words_of word p.merges.list + words_of word p.holds.list

abbrev pub given_to : {g : Ghosts Token} {s t : State} → ℕ → IsCommand g s t → ℕ
given_to word (has_held node tag by done) = if tag == word then 1 else 0
given_to word (has_opened at kind user by alone done) = if user.word == word then roles_of at kind else 0
given_to word (has_used at kind user tag by alone done) = (if user.word == word then roles_of at kind else 0) +
    (if tag == word then 1 else 0)
given_to word (has_subscribed at share user by place done) = if user.word == word then roles_of at (Sub
    (done.chosen.hub).number) else 0
given_to word _ = 0

abbrev pub all_given_to : {g : Ghosts Token} {s t : State} → ℕ → Course g s t → ℕ
all_given_to word begins = 0
all_given_to word (commands before kept command) = all_given_to word before + given_to word command
all_given_to word (takes name inside by before kept taken) = all_given_to word before
all_given_to word (gives_up name by _ before kept given) = all_given_to word before

-- last effects: for each word as many were put, or are still to come, as roles were given to it
abbrev pub WordsEndOnce : Ghosts Token → Type 0
WordsEndOnce g = (word : ℕ) (s t : State) → words_in word s.parts ≡ 0 → (course : Course g s t) →
    finals word (all_effects course) + words_in word t.parts ≡ all_given_to word course

-- closings -------------------------------------------------------------------------------------------

-- how often a word is among these
abbrev pub times : ℕ → List ℕ → ℕ
times word [] = 0
times word (w ∷ ws) = (if w == word then 1 else 0) + times word ws

-- how often a command closed a node that had wished with this word, and a course
abbrev pub closed_for : {g : Ghosts Token} {s t : State} → ℕ → IsCommand g s t → ℕ
closed_for {t = t} word (has_done by value plain done) = times word t.wishes.closings
closed_for {t = t} word (has_held node tag by done) = times word t.wishes.closings
closed_for {t = t} word (has_used at kind user tag by alone done) = times word t.wishes.closings
closed_for {t = t} word (has_opened at kind user by alone done) = times word t.wishes.closings
closed_for {t = t} word (has_subscribed at share user by place done) = times word t.wishes.closings
closed_for {t = t} word (has_connected share user by place done) = times word t.wishes.closings
closed_for word _ = 0

abbrev pub all_closed_for : {g : Ghosts Token} {s t : State} → ℕ → Course g s t → ℕ
all_closed_for word begins = 0
all_closed_for word (commands before kept command) = all_closed_for word before + closed_for word command
all_closed_for word (takes name inside by before kept taken) = all_closed_for word before
all_closed_for word (gives_up name by _ before kept given) = all_closed_for word before

-- whether a user wished with this word; how many nodes that did a command opened, and a course
abbrev pub wish_of : ℕ → User → ℕ
wish_of word user = if user.word == word then (if user.wished then 1 else 0) else 0

abbrev pub wished_for : {g : Ghosts Token} {s t : State} → ℕ → IsCommand g s t → ℕ
wished_for word (has_opened at kind user by alone done) = wish_of word user
wished_for word (has_used at kind user tag by alone done) = wish_of word user
wished_for word (has_subscribed at share user by place done) = wish_of word user
wished_for word (has_connected share user by place done) = wish_of word user
wished_for word _ = 0

abbrev pub all_wished_for : {g : Ghosts Token} {s t : State} → ℕ → Course g s t → ℕ
all_wished_for word begins = 0
all_wished_for word (commands before kept command) = all_wished_for word before + wished_for word command
all_wished_for word (takes name inside by before kept taken) = all_wished_for word before
all_wished_for word (gives_up name by _ before kept given) = all_wished_for word before

-- closings: for each word, as many stood in an answer, or are still to come, as wishes were made
abbrev pub ClosingsOnce : Ghosts Token → Type 0
ClosingsOnce g = (word : ℕ) (s t : State) → s.wishes.roles.list ≡ [] → (course : Course g s t) →
    all_closed_for word course + words_of word t.wishes.roles.list ≡ all_wished_for word course

-- notes ----------------------------------------------------------------------------------------------

-- those that a plain command adds to the book's are told, in order, and each has a role to go to
pub record AreNotesTold (s : State) (mid : BookState) : Type 0 where
  pub notes_are : mail_left mid ≡ drop (length (notes s.book.history)) (notes mid.history)
  pub listened : AllListened s.parts.hears.list s.parts.merges.list (mail_left mid)

abbrev pub NoNoteIsLost : Ghosts Token → Type 0
NoNoteIsLost g = (s t : State) (asked : Request) (by value : ℕ) → IsPromised s → IsPlain s.book asked →
    (d : IsDone g asked by value s t) → AreNotesTold s d.mid
