-- One attempt at what is asked. No public clause cites this module.
use Rattle.std.specs.Prelude.{◌≡◌, ℕ, Bool, true, false, List, [], ◌++◌, codes, Option, Some}
use Rattle.std.specs.Option.{option_map_or}
use Rattle.rx_event.specs.Kept.{event_since}
use Rattle.rx_event.specs.declared.refusal.Refusal.TheVariants.{Full}
use Rattle.rx_book.specs.State.{State}
use Rattle.rx_book.specs.Answers.{makes_connection}
use Rattle.serde_json.specs.Data.{Data, Items}
use Rattle.rx_line.specs.Orders.{Task, Order, task}
use Rattle.rx_line.specs.Pieces.{joined}
use Rattle.rx_line.specs.declared.outcome.Cause.{Cause}
use Rattle.rx_line.specs.declared.outcome.Cause.TheVariants.{Book}
use Rattle.rx_live.specs.Session.{Session, has_resource}
use Rattle.rx_live.specs.Promise.{NameAct, LeadsNames}
use Rattle.rx_live.specs.Lines.{IsAnswer, FindsFull, AnswersOne, AnswersEach, array_text, AnswersValue}
use Rattle.rx_live.specs.Listed.{has_no_names}

abbrev pub is_full_cause : Cause → Bool
is_full_cause (Book Full) = true
is_full_cause _ = false

-- behind what was written stands an answer of this kind
pub record WritesAnswer (is_answer : List ℕ → Type 0) (begun text : List ℕ) : Type 0 where
  pub answer : List ℕ
  pub is : is_answer answer
  pub written : text ≡ begun ++ answer

-- one attempt: such an answer was written, or nothing, where this was found
abbrev pub Tries : (is_answer : List ℕ → Type 0) (finds : Type 0) (begun text : List ℕ) → Bool → Type 0
Tries is_answer finds begun text true = WritesAnswer is_answer begun text
Tries is_answer finds begun text false = finds × (text ≡ begun)

-- the task that is asked found the history full by its age
pub record IsFullByAge (old : Session) (asked : Option Order) (new : Session) : Type 0 where
  pub t : Task
  pub order : asked ≡ Some (task t)
  pub full : FindsFull old t new

-- what is asked was answered
pub record Answered (old : Session) (asked : Option Order) (new : Session) (text : List ℕ) : Type 0 where
  pub acts : List NameAct
  pub answer : IsAnswer old asked text acts new
  pub leads : LeadsNames (has_resource old) acts (has_resource new)

-- an element of an array was answered
pub record AnsweredOne (old : Session) (asked : Option Order) (new : Session) (text : List ℕ) : Type 0 where
  pub acts : List NameAct
  pub one : AnswersOne old asked text acts new

-- behind what was written stand the answers to the elements of an array, with a comma between each two
pub record WritesEach (old : Session) (ds : Items) (begun : List ℕ) (new : Session) (text : List ℕ) : Type 0 where
  pub texts : List (List ℕ)
  pub acts : List NameAct
  pub each : AnswersEach old ds texts acts new
  pub written : text ≡ begun ++ joined texts

-- what leads to an element's answer
abbrev pub comma_if : (is_first : Bool) → List ℕ
comma_if true = []
comma_if false = codes ","

-- of all elements some were answered
pub record AreAnswering (old now : Session) (all left : Items) (begun text : List ℕ) (is_first : Bool) : Type 0 where
  pub texts : List (List ℕ)
  pub acts : List NameAct
  pub later : (new : Session) (more : List (List ℕ)) (done : List NameAct) → AnswersEach now left more done new →
      AnswersEach old all (texts ++ more) (acts ++ done) new
  pub written : text ≡ begun ++ joined texts
  pub first : is_first ≡ has_no_names texts

-- an array was answered
pub record AnsweredArray (old : Session) (ds : Items) (new : Session) (text : List ℕ) : Type 0 where
  pub texts : List (List ℕ)
  pub acts : List NameAct
  pub each : AnswersEach old ds texts acts new
  pub is : text ≡ array_text texts

-- a value was answered
pub record AnsweredValue (old : Session) (d : Data) (new : Session) (text : List ℕ) : Type 0 where
  pub acts : List NameAct
  pub answers : AnswersValue old d text acts new
  pub leads : LeadsNames (has_resource old) acts (has_resource new)

-- the event at a place is a connection
abbrev pub connects_at : State → (place : ℕ) → Bool
connects_at book place = option_map_or makes_connection (event_since book.base book.history place) false
