-- What a line is answered, and what the last line says.
use Rattle.std.specs.Prelude.{◌≡◌, ℕ, true, false, List, [], ◌∷◌, ◌++◌, codes, map, Option, Some, None, is_some, option_map}
use Rattle.std.specs.Option.{option_map_or}
use Rattle.rx_scenario.specs.Scenario.{Name, Command, using, open_node, hold, apply, remove, lease, give_back, next, end}
use Rattle.rx_scenario.specs.Scenario.{abort, decline, fail, dispose, make_hub, connect, disconnect, drain, checkpoint}
use Rattle.rx_book.specs.Requests.{apply_request, remove_request, lease_request, give_back_request, next_request, end_request, abort_request}
use Rattle.rx_book.specs.Requests.{decline_request, fail_request, dispose_request, hub_request, connect_request, disconnect_request}
use Rattle.serde_json.specs.Data.{Data, Items, no_items, item}
use Rattle.serde_json.specs.Find.{as_array}
use Rattle.rx_device.specs.Input.{IsJsonOf}
use Rattle.rx_line.specs.Orders.{Task, plain, open_holding, Order, task, query, list, dump, order_in, IsOrderOf}
use Rattle.rx_line.specs.Names.{AreNone}
use Rattle.rx_line.specs.Pieces.{refused_text, faulty_text, name_text, member_text, joined}
use Rattle.rx_line.specs.declared.outcome.Cause.{Cause}
use Rattle.rx_line.specs.declared.outcome.Outcome.{Outcome}
use Rattle.rx_line.specs.declared.outcome.Outcome.TheVariants.{Accepted, Refused}
use Rattle.rx_live.specs.Session.{Session, node_by_name, resource_by_name, lease_by_name, hub_by_name, has_resource, IsSound}
use Rattle.rx_live.specs.Carried.{CarriesSoundly}
use Rattle.rx_live.specs.Given.{IsAlike, GivesNames, BindsResource, BindsLease, BindsHub, FreesLease, hold_asked}
use Rattle.rx_live.specs.Openings.{open_asked, using_asked, connection_asked, is_node, is_open_taken, is_using_taken, BindsNode, BindsUsing, BindsConnection}
use Rattle.rx_live.specs.Openings.{GivesHolder, holder_asked, is_holder_taken, BindsHolder, answer_front_text}
use Rattle.rx_event.specs.declared.refusal.Refusal.TheVariants.{Full, NoMemory}
use Rattle.rx_line.specs.declared.outcome.Cause.TheVariants.{Book}
use Rattle.rx_live.specs.Renewals.{Renews, Renewing, IsFullByOpen, may_renew}
use Rattle.rx_live.specs.Promise.{NameAct, handed_in, released, LeadsNames}
use Rattle.rx_live.specs.Closings.{closed_names, SaysClosed}
use Rattle.rx_live.specs.Dumps.{query_text, dump_text}
use Rattle.rx_live.specs.Answers.{Told, told_text, TellsNotes, IsAllTold, ReleasesNames, IsReleased, is_late, late_text}

-- a command -------------------------------------------------------------------------------------------

-- what a command comes to, by its own relation
abbrev pub RunsCommand : Session → Command → Outcome → Session → Type 0
RunsCommand old (using name site res) o new = GivesNames old (using_asked old site) (is_using_taken old name res) (BindsUsing old name res) o new
RunsCommand old (open_node name site sort) o new =
    GivesNames old (open_asked old site sort) (is_open_taken old name (connection_asked sort)) (BindsNode old name (connection_asked sort)) o new
RunsCommand old (hold node res) o new =
    GivesNames old (option_map (hold_asked old.book) (node_by_name old node)) (has_resource old res) (BindsResource old res) o new
RunsCommand old (apply res word) o new = CarriesSoundly old (option_map (apply_request old.book) (resource_by_name old res)) o new
RunsCommand old (remove res) o new = CarriesSoundly old (option_map (remove_request old.book) (resource_by_name old res)) o new
RunsCommand old (lease res name) o new =
    GivesNames old (option_map (lease_request old.book) (resource_by_name old res)) (is_some (lease_by_name old name)) (BindsLease old name) o new
RunsCommand old (give_back name) o new = GivesNames old (option_map (give_back_request old.book) (lease_by_name old name)) false (FreesLease old name) o new
RunsCommand old (next node value) o new = CarriesSoundly old (option_map (λ k. next_request old.book k value) (node_by_name old node)) o new
RunsCommand old (end node terminal) o new = CarriesSoundly old (option_map (λ k. end_request old.book k terminal) (node_by_name old node)) o new
RunsCommand old (abort node code) o new = CarriesSoundly old (option_map (λ k. abort_request old.book k code) (node_by_name old node)) o new
RunsCommand old (decline node) o new = CarriesSoundly old (option_map (λ k. decline_request old.book k) (node_by_name old node)) o new
RunsCommand old (fail node code) o new = CarriesSoundly old (option_map (λ k. fail_request old.book k code) (node_by_name old node)) o new
RunsCommand old (dispose node) o new = CarriesSoundly old (option_map (λ k. dispose_request old.book k) (node_by_name old node)) o new
RunsCommand old (make_hub name mode) o new = GivesNames old (Some (hub_request mode)) (is_some (hub_by_name old name)) (BindsHub old name) o new
RunsCommand old (connect hub name) o new =
    GivesNames old (option_map connect_request (hub_by_name old hub)) (option_map_or (is_node old) name false) (BindsConnection old name) o new
RunsCommand old (disconnect hub) o new = CarriesSoundly old (option_map (λ g. disconnect_request g) (hub_by_name old hub)) o new
-- nothing waits between two lines
RunsCommand old drain o new = (o ≡ Accepted) × (new ≡ old)
RunsCommand old checkpoint o new = Renewing old o new

-- what a task comes to
abbrev pub DoesTask : Session → Task → Outcome → Session → Type 0
DoesTask old (plain c) o new = RunsCommand old c o new
DoesTask old (open_holding name site sort res) o new =
    GivesHolder old (holder_asked old site sort) (is_holder_taken old name (connection_asked sort) res) (BindsHolder old name (connection_asked sort) res) o new

-- what it hands in where it is carried out
abbrev pub handed_by : Task → List NameAct
handed_by (plain (using name site res)) = handed_in res ∷ []
handed_by (plain (hold node res)) = handed_in res ∷ []
handed_by (open_holding name site sort res) = handed_in res ∷ []
handed_by _ = []

-- its answer ------------------------------------------------------------------------------------------

-- behind what was written, all notes and names; where memory was refused for one, the rest is put off, and the answer says so
pub record TellsAll (old : Session) (begun : List ℕ) (new : Session) (text : List ℕ) : Type 0 where
  pub mid : Session
  pub told : List Told
  pub tells : TellsNotes old told mid
  pub all_notes : IsAllTold mid
  pub sound : IsSound mid
  pub names : List Name
  pub releases : ReleasesNames mid names new
  pub all_names : IsReleased new
  pub written : text ≡
      begun ++ member_text (codes "notes") (map told_text told) ++ member_text (codes "release") (map name_text names) ++ late_text (is_late new) ++ codes "}"

-- a task that was carried out, what was closed and told, and the names that it hands in and that are released
pub record IsCarried (old : Session) (t : Task) (text : List ℕ) (acts : List NameAct) (new : Session) : Type 0 where
  pub done : Session
  pub does : DoesTask old t Accepted done
  pub said : List ℕ
  pub closed : SaysClosed (closed_names old t done) said
  pub left : Session
  pub tells : TellsAll done (answer_front_text old t done ++ said) left text
  pub alike : IsAlike left new
  pub acts_are : acts ≡ handed_by t ++ map released tells.names

-- it is refused, or carried out
pub data CarriesOut (old : Session) (t : Task) (text : List ℕ) (new : Session) : Type 0 where
  refuses : (why : Cause) → DoesTask old t (Refused why) new → IsFullByOpen old why → text ≡ refused_text why → CarriesOut old t text new
  carries : (acts : List NameAct) → IsCarried old t text acts new → CarriesOut old t text new

-- what is asked, or nothing where that is faulty, with what its answer hands in and releases
pub data IsAnswer (old : Session) (asked : Option Order) (text : List ℕ) : List NameAct → Session → Type 0 where
  is_faulty : (told : List ℕ) → asked ≡ None → text ≡ faulty_text told → IsAnswer old asked text [] old
  is_refused : {new : Session} (t : Task) (why : Cause) → asked ≡ Some (task t) → DoesTask old t (Refused why) new → IsFullByOpen old why →
      text ≡ refused_text why → IsAnswer old asked text [] new
  is_carried : {new : Session} {acts : List NameAct} (t : Task) → asked ≡ Some (task t) → IsCarried old t text acts new → IsAnswer old asked text acts new
  is_queried : (node : Name) → asked ≡ Some (query node) → text ≡ query_text old node → IsAnswer old asked text [] old
  is_listed : asked ≡ Some list → IsAnswer old asked text [] old
  is_dumped : asked ≡ Some dump → text ≡ dump_text old → IsAnswer old asked text [] old

-- a task found the history full by its age: it is refused Full, and a checkpoint makes room
pub record FindsFull (old : Session) (t : Task) (mid : Session) : Type 0 where
  pub does : DoesTask old t (Refused (Book Full)) mid
  pub alike : IsAlike old mid
  pub aged : may_renew old ≡ true

-- before it is taken: nothing, or a checkpoint, where its task found the history full by its age
pub data IsAged (asked : Option Order) (old : Session) : Session → Type 0 where
  as_it_was : IsAged asked old old
  renewed : {new : Session} (mid : Session) (t : Task) → asked ≡ Some (task t) → FindsFull old t mid → Renews mid new → IsAged asked old new

-- it was not taken: nothing but a checkpoint took place
pub record WaitsFor (asked : Option Order) (old new : Session) : Type 0 where
  pub aged : Session
  pub ages : IsAged asked old aged
  pub alike : IsAlike aged new

-- its answer, and the names that it hands in and releases; one that finds the history full by its age is taken again behind a checkpoint
pub record AnswersAsked (old : Session) (asked : Option Order) (text : List ℕ) (new : Session) : Type 0 where
  pub aged : Session
  pub ages : IsAged asked old aged
  pub acts : List NameAct
  pub answer : IsAnswer aged asked text acts new
  pub leads : LeadsNames (has_resource old) acts (has_resource new)
  pub sound : IsSound new

-- a line ----------------------------------------------------------------------------------------------

-- an element of an array: it is answered, or in want of memory not taken, and the answer says so
pub data AnswersOne (old : Session) (asked : Option Order) : List ℕ → List NameAct → Session → Type 0 where
  is_taken : {text : List ℕ} {new : Session} → (one : AnswersAsked old asked text new) → AnswersOne old asked text one.acts new
  is_put_off : {new : Session} → WaitsFor asked old new → AnswersOne old asked (refused_text (Book NoMemory)) [] new

-- the elements of an array, each by itself and in order
pub data AnswersEach : Session → Items → List (List ℕ) → List NameAct → Session → Type 0 where
  none_left : {s : Session} → AnswersEach s no_items [] [] s
  one_more : {old new : Session} {d : Data} {ds : Items} {text : List ℕ} {texts : List (List ℕ)} {acts more : List NameAct} (mid : Session) →
      AnswersOne old (order_in d) text acts mid → AnswersEach mid ds texts more new → AnswersEach old (item d ds) (text ∷ texts) (acts ++ more) new

abbrev pub array_text : List (List ℕ) → List ℕ
array_text texts = codes "[" ++ joined texts ++ codes "]"

-- a value asks for one thing, or is an array
pub data AnswersValue (old : Session) (d : Data) (text : List ℕ) : List NameAct → Session → Type 0 where
  one_asked : {new : Session} → as_array d ≡ None → (one : AnswersAsked old (order_in d) text new) → AnswersValue old d text one.acts new
  many_asked : {new : Session} {acts : List NameAct} (ds : Items) (texts : List (List ℕ)) → as_array d ≡ Some ds → AnswersEach old ds texts acts new →
      text ≡ array_text texts → AnswersValue old d text acts new

-- a line is no JSON text, or such a value
pub data AnswersLine (old : Session) (line text : List ℕ) : List NameAct → Session → Type 0 where
  no_json : (told : List ℕ) → ((d : Data) → ¬ IsJsonOf line d) → text ≡ faulty_text told → AnswersLine old line text [] old
  is_json : {new : Session} {acts : List NameAct} (d : Data) → IsJsonOf line d → AnswersValue old d text acts new → AnswersLine old line text acts new

-- a line's answer, and the names that it hands in and releases
pub record Sends (old : Session) (line text : List ℕ) (new : Session) : Type 0 where
  pub acts : List NameAct
  pub answer : AnswersLine old line text acts new
  pub leads : LeadsNames (has_resource old) acts (has_resource new)
  pub sound : IsSound new

-- a line that was not taken: nothing but a checkpoint took place
pub record IsPutOff (line : List ℕ) (old new : Session) : Type 0 where
  pub asked : Option Order
  pub order : (o : Order) → asked ≡ Some o → IsOrderOf line o
  pub waits : WaitsFor asked old new

-- the last line ---------------------------------------------------------------------------------------

-- nothing is open, held, waiting or leased, and no name is bound
pub record IsSessionClosed (s : Session) : Type 0 where
  pub none_open : s.book.keys ≡ []
  pub none_held : s.book.held ≡ []
  pub none_waits : s.book.waiting ≡ []
  pub none_out : s.book.lease_keys ≡ []
  pub nodes : AreNone s.nodes
  pub hubs : AreNone s.hubs
  pub resources : AreNone s.resources
  pub leases : AreNone s.leases
  pub unnamed : s.unnamed ≡ None

-- all that is held is released
pub record EndsSession (old : Session) (text : List ℕ) (new : Session) : Type 0 where
  pub names : List Name
  pub leads : LeadsNames (has_resource old) (map released names) (λ name. false)
  pub told : List Told
  pub left : Session
  pub tells : TellsNotes old told left
  pub all_notes : IsAllTold left
  pub written : text ≡
      codes "{\"closed\":true" ++ member_text (codes "release") (map name_text names) ++ member_text (codes "notes") (map told_text told) ++
      late_text (is_some left.untold)
      ++ codes "}"
  pub closed : IsSessionClosed new

-- sessions --------------------------------------------------------------------------------------------

-- lines that are sent one after another, and what they hand in and release
pub data SendsLines : Session → List NameAct → Session → Type 0 where
  no_line : {s : Session} → SendsLines s [] s
  one_line : {old last : Session} {more : List NameAct} (line text : List ℕ) (new : Session) → (sent : Sends old line text new) → SendsLines new more last →
      SendsLines old (sent.acts ++ more) last

-- before the first line no name is bound
pub record IsNewSession (s : Session) : Type 0 where
  pub history : s.book.history ≡ []
  pub given : s.book.given ≡ 0
  pub nodes : AreNone s.nodes
  pub hubs : AreNone s.hubs
  pub resources : AreNone s.resources
  pub leases : AreNone s.leases
  pub untold : s.untold ≡ None
  pub unnamed : s.unnamed ≡ None
