-- A command that a turn makes, and what is due to it then.
use Rattle.std.specs.Prelude.{◌≡◌, ℕ, ◌≤◌, ◌==◌, ◌&&◌, ◌||◌, ◌⊎◌, nat_lt, Bool, true, false, List, [], ◌∷◌, Option, Some, None, slice_get, if◌then◌else◌}
use Rattle.std.proofs.Math.Bool.{not}
use Rattle.std.proofs.Common.{◌%◌}
use Rattle.rx_slots.specs.Lists.{is_in, list_at}
use Rattle.rx_resource.specs.declared.Resource.{Ghosts}
use Rattle.rx_resource.specs.declared.token.Token.{Token}
use Rattle.rx_event.specs.declared.refusal.Refusal.TheVariants.{NoMemory}
use Rattle.rx_engine.specs.States.{IsPromised}
use Rattle.rx_cellar.specs.Codes.{refusal_status}
use Rattle.rx_cellar.specs.declared.shapes.Command.{Command}
use Rattle.rx_cellar.specs.declared.shapes.Answer.{Answer}
use Rattle.rx_cellar.specs.declared.cellar.Cellar.{Cellar}
use Rattle.rx_cellar.specs.Cellars.{IsCommandMade}
use Rattle.rx_cellar.specs.Crossings.{no_answer}
use Rattle.rx_cellar.specs.Words.{inside_bit, is_inside, place_in}
use Rattle.rx_cellar.specs.Serving.{words_due, node_word}
use Rattle.rx_cellar.specs.Asking.{asked_of, asked_as}
use Rattle.rx_cellar.specs.declared.shapes.Effect.{Effect}
use Rattle.rx_turns.specs.declared.agenda.Turn.{Turn}
use Rattle.rx_turns.specs.declared.agenda.Task.{Task}
use Rattle.rx_turns.specs.Rows.{HasLine}
use Rattle.rx_turns.specs.Agendas.{DueLists, LosesNothing, Claims, IsDueToNobody, IsServing, LaneHasRoom, lane_word, lanes_fit, has_nothing}
use Rattle.rx_turns.specs.States.{TurnState}
use Rattle.rx_turns.specs.Serving.{HandsOut}

-- a lane is due to a turn; or, only where there is no room for it, it is astray
pub data IsMadeDue (turn : Turn) (word : ℕ) (s t : TurnState) : Type 0 where
  has_claimed : Claims turn (place_in word) word s.agenda t.agenda → t ≡ record s { agenda = t.agenda } → IsMadeDue turn word s t
  went_astray : (LaneHasRoom s.agenda turn (place_in word) → ⊥) → LosesNothing s.agenda t.agenda → t ≡ record s { agenda = t.agenda; astray = Some 0 } →
      IsMadeDue turn word s t

-- each of these lanes, one behind another
pub data AreMadeDue (turn : Turn) (t : TurnState) : List ℕ → TurnState → Type 0 where
  all_claimed : AreMadeDue turn t [] t
  one_claimed : (s u : TurnState) (word : ℕ) (words : List ℕ) → IsMadeDue turn word s u → AreMadeDue turn t words u → AreMadeDue turn t (word ∷ words) s

-- the lane in which a command that was done opened an inner
abbrev pub inner_lane : (is_done : Bool) → Command → Cellar → Option ℕ
inner_lane is_done c s = if is_done && (nat_lt c.what 2 && c.place == 2) then node_word s c.node else None

-- where the place of a lane is due it is that lane, and what is due there may be given to this stack: nobody serves the lane, or it does itself
abbrev pub MayBeGiven : DueLists → (by word : ℕ) → Type 0
MayBeGiven a by word =
    (lane_word a (place_in word) % inside_bit ≡ word) × ((is_inside (lane_word a (place_in word)) ≡ false) ⊎ IsServing a by word)

-- where an inner was opened in a lane that is due, that is due to this turn then, under the same word; but not where another stack serves it
pub data ComesHome (turn : Turn) (s t : TurnState) : Option ℕ → Type 0 where
  opens_no_inner : t ≡ s → ComesHome turn s t None
  is_not_due : (word : ℕ) → IsDueToNobody s.agenda (place_in word) → t ≡ s → ComesHome turn s t (Some word)
  is_of_another : (word : ℕ) → (MayBeGiven s.agenda turn.by word → ⊥) → t ≡ s → ComesHome turn s t (Some word)
  is_due_here : (word e : ℕ) → is_in (place_in word) (list_at s.agenda.lists e) ≡ true → MayBeGiven s.agenda turn.by word →
      IsMadeDue turn (lane_word s.agenda (place_in word)) s t → ComesHome turn s t (Some word)

-- the lane of the item that the engine gave with its answer
abbrev pub lane_at_once : Option Effect → List ℕ → Option ℕ
lane_at_once None words = None
lane_at_once (Some e) words = slice_get words 0

-- that item is in hand at once; else the lanes that its caller is to serve are due
pub data Comes (turn : Turn) (words : List ℕ) (given : Option Effect) (s t : TurnState) : (is_own : Bool) → Type 0 where
  comes_at_once : (word : ℕ) (e : Effect) (h : Task) → given ≡ Some e → slice_get words 0 ≡ Some word → HandsOut turn word e s t h →
      Comes turn words given s t true
  all_wait : lane_at_once given words ≡ None → AreMadeDue turn t words s → Comes turn words given s t false

-- of a command that was refused nothing comes
abbrev pub ComesIf : (is_done : Bool) → Turn → List ℕ → Option Effect → TurnState → TurnState → (is_own : Bool) → Type 0
ComesIf true turn words given s t is_own = Comes turn words given s t is_own
ComesIf false turn words given s t is_own = (t ≡ s) × (is_own ≡ false)

-- the turn is given a line
pub record GivesLine (turn : Turn) (s t : TurnState) : Type 0 where
  pub line : HasLine turn t.agenda.rows
  pub loses : LosesNothing s.agenda t.agenda
  pub only : t ≡ record s { agenda = t.agenda }

-- the command was made by the turn's word, an item to wait in its lane but where the turn has nothing else; what stands where it opened an inner is
-- the turn's, and what comes of it
pub record IsMadeBy (g : Ghosts Token) (turn : Turn) (is_free : Bool) (c : Command) (s t : TurnState) (a b : Answer) (status : ℕ) (is_own : Bool) : Type 0 where
  pub cellar : Cellar
  pub given : Option Effect
  pub stood : IsPromised s.cellar.engine
  pub made : IsCommandMade g (asked_as (not is_free) (asked_of c)) turn.by s.cellar cellar a b given status
  pub stands : IsPromised cellar.engine
  pub between : TurnState
  pub home : ComesHome turn (record s { cellar = cellar }) between (inner_lane (status == 0) c cellar)
  pub comes : ComesIf (status == 0) turn (words_due cellar) given between t is_own

-- what may be refused for want of memory: what opens, holds, uses, lends, connects, emits or puts
abbrev pub may_ask : (what : ℕ) → Bool
may_ask what = nat_lt what 4 || what == 9 || what == 11 || what == 14 || what == 16

-- what opens lanes
abbrev pub opens_lanes : (what : ℕ) → Bool
opens_lanes what = nat_lt what 2 || what == 9

-- by a turn that has a line it is made; or, where it opens lanes, of which there may be more than there is room for, there was no memory for these, and
-- nothing changed
pub data MakesOnLine (g : Ghosts Token) (turn : Turn) (is_free : Bool) (c : Command) (s t : TurnState) (a b : Answer) : (status : ℕ) → (is_own : Bool) → Type 0 where
  makes_there : (u : TurnState) (status : ℕ) (is_own : Bool) → LosesNothing s.agenda u.agenda → u ≡ record s { agenda = u.agenda } →
      IsMadeBy g turn is_free c u t a b status is_own → MakesOnLine g turn is_free c s t a b status is_own
  finds_no_room : (many : ℕ) → opens_lanes c.what ≡ true → (many ≤ lanes_fit s.agenda → ⊥) → LosesNothing s.agenda t.agenda →
      t ≡ record s { agenda = t.agenda } → b ≡ no_answer a → MakesOnLine g turn is_free c s t a b (refusal_status NoMemory) false

-- it is made; or, only where the turn has no line, there was no memory for one: then what may be refused for that is, and nothing changed; what
-- ends or closes is made all the same, and what comes of it is due as far as there is room
pub data MakesIn (g : Ghosts Token) (turn : Turn) (c : Command) (s t : TurnState) (a b : Answer) : (status : ℕ) → (is_own : Bool) → Type 0 where
  is_made : (u : TurnState) (status : ℕ) (is_own : Bool) → GivesLine turn s u → MakesOnLine g turn (has_nothing s.agenda turn) c u t a b status is_own →
      MakesIn g turn c s t a b status is_own
  is_made_bare : (u : TurnState) (status : ℕ) → (HasLine turn s.agenda.rows → ⊥) → may_ask c.what ≡ false → LosesNothing s.agenda u.agenda →
      u ≡ record s { agenda = u.agenda } → IsMadeBy g turn true c u t a b status false → MakesIn g turn c s t a b status false
  finds_no_line : (HasLine turn s.agenda.rows → ⊥) → may_ask c.what ≡ true → LosesNothing s.agenda t.agenda → t ≡ record s { agenda = t.agenda } → b ≡ no_answer a →
      MakesIn g turn c s t a b (refusal_status NoMemory) false
