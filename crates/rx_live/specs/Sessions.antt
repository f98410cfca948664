-- Laws of sessions.
use Rattle.std.specs.Prelude.{◌≡◌, ℕ, List, [], ◌++◌, drop, length, map, Option}
use Rattle.rx_event.specs.declared.mail.Mail.{Mail}
use Rattle.rx_event.specs.Notes.{notes}
use Rattle.rx_scenario.specs.Scenario.{checkpoint}
use Rattle.rx_live.specs.Session.{Session}
use Rattle.rx_live.specs.Promise.{NameAct, released, IsKept}
use Rattle.rx_live.specs.Answers.{to_tell}
use Rattle.serde_json.specs.Data.{Data, Items}
use Rattle.rx_line.specs.Orders.{Task, plain, Order, order_in}
use Rattle.rx_live.specs.Lines.{IsAnswer, is_carried, AnswersOne, is_taken, is_put_off, AnswersEach, none_left, one_more}
use Rattle.rx_live.specs.Lines.{AnswersValue, one_asked, many_asked, AnswersLine, no_json, is_json, SendsLines, no_line, one_line, EndsSession, IsNewSession}

-- from the first line to the last, each name that was handed in is released once, and no other
abbrev pub AreNamesKept : Type 0
AreNamesKept =
    (first last new : Session) (acts : List NameAct) (text : List ℕ) → IsNewSession first → SendsLines first acts last → (ends : EndsSession last text new) →
    IsKept (acts ++ map released ends.names)

-- notes ------------------------------------------------------------------------------------------------

-- the notes that an answer tells
abbrev pub told_by : (old new : Session) (asked : Option Order) (text : List ℕ) (acts : List NameAct) → IsAnswer old asked text acts new → List Mail
told_by old new asked text acts (is_carried t order carried) = carried.tells.tells.mails
told_by old _ asked text acts _ = []

-- of the notes before and after a task those of the events that it writes: behind a checkpoint all are
abbrev pub written_of : Task → (before after : List Mail) → List Mail
written_of (plain checkpoint) before after = after
written_of _ before after = drop (length before) after

-- the notes of the events that it writes
abbrev pub written_by : (old new : Session) (asked : Option Order) (text : List ℕ) (acts : List NameAct) → IsAnswer old asked text acts new → List Mail
written_by old new asked text acts (is_carried t order carried) = written_of t (notes old.book.history) (notes new.book.history)
written_by old _ asked text acts _ = []

-- of an array's elements, in order
abbrev pub told_one : {old new : Session} {asked : Option Order} {text : List ℕ} {acts : List NameAct} → AnswersOne old asked text acts new → List Mail
told_one {old} {new} {asked} {text} (is_taken one) = told_by one.aged new asked text one.acts one.answer
told_one (is_put_off waits) = []

abbrev pub written_one : {old new : Session} {asked : Option Order} {text : List ℕ} {acts : List NameAct} → AnswersOne old asked text acts new → List Mail
written_one {old} {new} {asked} {text} (is_taken one) = written_by one.aged new asked text one.acts one.answer
written_one (is_put_off waits) = []

abbrev pub told_each : {old new : Session} {ds : Items} {texts : List (List ℕ)} {acts : List NameAct} → AnswersEach old ds texts acts new → List Mail
told_each none_left = []
told_each (one_more mid one rest) = told_one one ++ told_each rest

abbrev pub written_each : {old new : Session} {ds : Items} {texts : List (List ℕ)} {acts : List NameAct} → AnswersEach old ds texts acts new → List Mail
written_each none_left = []
written_each (one_more mid one rest) = written_one one ++ written_each rest

-- of a line
abbrev pub told_value : {old new : Session} {d : Data} {text : List ℕ} {acts : List NameAct} → AnswersValue old d text acts new → List Mail
told_value {old} {new} {d} {text} (one_asked single one) = told_by one.aged new (order_in d) text one.acts one.answer
told_value (many_asked ds texts several each is) = told_each each

abbrev pub written_value : {old new : Session} {d : Data} {text : List ℕ} {acts : List NameAct} → AnswersValue old d text acts new → List Mail
written_value {old} {new} {d} {text} (one_asked single one) = written_by one.aged new (order_in d) text one.acts one.answer
written_value (many_asked ds texts several each is) = written_each each

abbrev pub told_line : {old new : Session} {line text : List ℕ} {acts : List NameAct} → AnswersLine old line text acts new → List Mail
told_line (no_json told none is) = []
told_line (is_json d json answers) = told_value answers

abbrev pub written_line : {old new : Session} {line text : List ℕ} {acts : List NameAct} → AnswersLine old line text acts new → List Mail
written_line (no_json told none is) = []
written_line (is_json d json answers) = written_value answers

-- of all lines, in order
abbrev pub told_in : {first last : Session} {acts : List NameAct} → SendsLines first acts last → List Mail
told_in no_line = []
told_in (one_line line text new sent rest) = told_line sent.answer ++ told_in rest

abbrev pub written_in : {first last : Session} {acts : List NameAct} → SendsLines first acts last → List Mail
written_in no_line = []
written_in (one_line line text new sent rest) = written_line sent.answer ++ written_in rest

-- from the first line on, the answers tell the notes of the events, each once and in order; the last of them may be put off
abbrev pub AreNotesToldInOrder : Type 0
AreNotesToldInOrder = (first last : Session) (acts : List NameAct) → IsNewSession first → (goes : SendsLines first acts last)
    → written_in goes ≡ told_in goes ++ to_tell last
