-- What a command asks that opens a node or connects a hub, and which names it gives.
use Rattle.std.specs.Prelude.{◌≡◌, ℕ, ◌+◌, ◌-◌, ◌++◌, ◌||◌, Bool, false, true, List, [], ◌∷◌, codes, map, Option, Some, None, length, is_some}
use Rattle.std.specs.Prelude.{option_map, option_and_then}
use Rattle.std.specs.Str.{bytes_eq}
use Rattle.std.specs.Option.{option_map_or}
use Rattle.rx_event.specs.declared.event.Kind.{Kind}
use Rattle.rx_event.specs.declared.event.Kind.TheVariants.{Leaf, Pass, Flat, Switch, Until, Sub}
use Rattle.rx_event.specs.declared.event.Event.TheVariants.{Accept}
use Rattle.rx_event.specs.declared.event.Place.{Place}
use Rattle.rx_event.specs.declared.refusal.Refusal.{Refusal}
use Rattle.rx_event.specs.declared.refusal.Refusal.TheVariants.{Full}
use Rattle.rx_event.specs.Calls.{Opening, OpeningUsing, Holding}
use Rattle.rx_event.specs.Causes.{is_over, added_by, opening_causes, by_key}
use Rattle.rx_event.specs.Refusals.{first_cause}
use Rattle.rx_scenario.specs.Scenario.{Name, Site, root, source, inner, notifier, Sort, leaf, pass, flat, switch, until, sub}
use Rattle.rx_scenario.specs.Scenario.{open_node}
use Rattle.rx_slots.specs.declared.Key.{Key}
use Rattle.rx_book.specs.declared.answer.At.{At}
use Rattle.rx_book.specs.declared.answer.At.TheVariants.{Root as AtRoot, Source as AtSource, Inner as AtInner, Notifier as AtNotifier}
use Rattle.rx_event.specs.Gone.{goes, AreJust}
use Rattle.rx_book.specs.State.{State}
use Rattle.rx_book.specs.Requests.{Request, open_request, place_of, is_known_place}
use Rattle.rx_book.specs.Answers.{Accepts, connection_made}
use Rattle.rx_line.specs.declared.names.Names.{Names}
use Rattle.rx_line.specs.declared.outcome.Outcome.{Outcome}
use Rattle.rx_line.specs.Orders.{Task, plain, open_holding}
use Rattle.rx_line.specs.Pieces.{ok_text}
use Rattle.rx_live.specs.Session.{Session, is_node_in, node_by_name, hub_by_name, has_resource}
use Rattle.rx_live.specs.Given.{IsAlike, NamesOne, GivesBy, hold_tagged}

-- the place that a site stands for
abbrev pub place_at : Session → Site → Option At
place_at s root = Some AtRoot
place_at s (source name) = option_map AtSource (node_by_name s name)
place_at s (inner name) = option_map AtInner (node_by_name s name)
place_at s (notifier name) = option_map AtNotifier (node_by_name s name)

-- the kind that a sort stands for
abbrev pub kind_of_sort : Session → Sort → Option Kind
kind_of_sort s leaf = Some Leaf
kind_of_sort s pass = Some Pass
kind_of_sort s flat = Some Flat
kind_of_sort s switch = Some Switch
kind_of_sort s until = Some Until
kind_of_sort s (sub hub connection) = option_map Sub (hub_by_name s hub)

-- the name for the connection that a subscriber's opening may make
abbrev pub connection_asked : Sort → Option Name
connection_asked leaf = None
connection_asked pass = None
connection_asked flat = None
connection_asked switch = None
connection_asked until = None
connection_asked (sub hub connection) = connection

-- what is asked ---------------------------------------------------------------------------------------

abbrev pub open_asked : Session → Site → Sort → Option Request
open_asked s site sort = option_and_then (λ at. option_map (open_request s.book at) (kind_of_sort s sort)) (place_at s site)

-- what the book holds in the place of a resource is fresh, and its tag is the place of its acceptance
abbrev pub using_at : State → At → Request
using_at book at =
    record { call = OpeningUsing (place_of at) (length book.history + 1); is_known = is_known_place book.keys at; is_fresh = true }

abbrev pub using_asked : Session → Site → Option Request
using_asked s site = option_map (using_at s.book) (place_at s site)

-- a node that is to hold a resource from its opening on: where, and what it does
pub record Holder : Type 0 where
  pub place : At
  pub kind : Kind

abbrev pub holder_at : At → Kind → Holder
holder_at at kind = record { place = at; kind = kind }

abbrev pub holder_asked : Session → Site → Sort → Option Holder
holder_asked s site sort = option_and_then (λ at. option_map (holder_at at) (kind_of_sort s sort)) (place_at s site)

-- what stands against it: what does against the opening, and `Full` where there may not be the events of both
abbrev pub opening_with_causes : State → Place → Kind → Refusal → Bool
opening_with_causes s place kind Full =
    is_over s.base s.history s.limit (added_by s.history (Opening place kind) + added_by s.history (Holding (length s.history) 0))
opening_with_causes s place kind why = opening_causes s.base s.history s.limit place kind why

abbrev pub holder_causes : State → Holder → Refusal → Bool
holder_causes s asked = by_key (is_known_place s.keys asked.place) (opening_with_causes s (place_of asked.place) asked.kind)

-- what the book does then: it opens the node, with all that this forces, and holds what is fresh there, which comes last; its tag is the
-- node's number
pub record OpensHolder (old : State) (asked : Holder) (new : State) : Type 0 where
  pub none : first_cause (holder_causes old asked) ≡ None
  pub middle : State
  pub opens : Accepts old (open_request old asked.place asked.kind) middle
  pub key : Key
  pub is : key.number ≡ length old.history
  pub holds : Accepts middle (hold_tagged middle key key.number) (record new { closed = [] })
  pub closed : AreJust (goes old.history new.history) (map (λ k. k.number) new.closed)
  pub last : new.history ≡ middle.history ++ Accept key.number key.number ∷ []

abbrev pub GivesHolder : Session → Option Holder → (taken : Bool) → (Session → Type 0) → Outcome → Session → Type 0
GivesHolder = GivesBy holder_causes OpensHolder

-- which names are taken --------------------------------------------------------------------------------

abbrev pub is_node : Session → Name → Bool
is_node s name = is_node_in s.untold s.book s.nodes name

abbrev pub is_open_taken : Session → Name → Option Name → Bool
is_open_taken s name connection = is_node s name || option_map_or (bytes_eq name) connection false || option_map_or (is_node s) connection false

abbrev pub is_using_taken : Session → (name res : Name) → Bool
is_using_taken s name res = is_node s name || has_resource s res

abbrev pub is_holder_taken : Session → Name → Option Name → (res : Name) → Bool
is_holder_taken s name connection res = is_open_taken s name connection || has_resource s res

-- what is bound ----------------------------------------------------------------------------------------

-- a name for a node that was made, where there are both
abbrev pub BindsMade : Names → Option Name → Option ℕ → Names → Type 0
BindsMade old (Some name) (Some number) new = NamesOne old name number new
BindsMade old (Some name) None new = new ≡ old
BindsMade old None made new = new ≡ old

pub record BindsNode (old : Session) (name : Name) (connection : Option Name) (new : Session) : Type 0 where
  -- the names that are left as some of closed nodes are forgotten
  pub nodes : Names
  pub alike : IsAlike old (record old { nodes = nodes })
  pub with_node : Names
  pub node : NamesOne nodes name (length old.book.history) with_node
  pub made : BindsMade with_node connection (connection_made old.book.history new.book.history) new.nodes
  pub rest : new ≡ record old { book = new.book; nodes = new.nodes }

pub record BindsUsing (old : Session) (name res : Name) (new : Session) : Type 0 where
  pub nodes : Names
  pub alike : IsAlike old (record old { nodes = nodes })
  pub node : NamesOne nodes name (length old.book.history) new.nodes
  pub resource : NamesOne old.resources res (length old.book.history + 1) new.resources
  pub rest : new ≡ record old { book = new.book; nodes = new.nodes; resources = new.resources }

-- as an opening alone binds them, and the name of what was accepted last
pub record BindsHolder (old : Session) (name : Name) (connection : Option Name) (res : Name) (new : Session) : Type 0 where
  pub opened : BindsNode old name connection (record new { resources = old.resources })
  pub resource : NamesOne old.resources res (length new.book.history - 1) new.resources

pub record BindsConnection (old : Session) (name : Option Name) (new : Session) : Type 0 where
  pub nodes : Names
  pub alike : IsAlike old (record old { nodes = nodes })
  pub made : BindsMade nodes name (Some (length old.book.history)) new.nodes
  pub rest : new ≡ record old { book = new.book; nodes = new.nodes }

-- what is answered ------------------------------------------------------------------------------------

-- a connection was made, with the name that it got, if it got one
abbrev pub connected_text : Option Name → List ℕ
connected_text None = codes ",\"connected\":true"
connected_text (Some name) = codes ",\"connected\":true,\"connection\":\"" ++ name ++ codes "\""

abbrev pub connected_as : Sort → List ℕ
connected_as leaf = []
connected_as pass = []
connected_as flat = []
connected_as switch = []
connected_as until = []
connected_as (sub hub connection) = connected_text connection

-- what is answered to the opening of a subscriber that made a connection
abbrev pub connected_by : Task → List ℕ
connected_by (plain (open_node name site sort)) = connected_as sort
connected_by (open_holding name site sort res) = connected_as sort
connected_by _ = []

abbrev pub said_if : Bool → List ℕ → List ℕ
said_if true text = text
said_if false text = []

-- the front of the answer to a task that was carried out: its place, and whether its opening made a connection
abbrev pub answer_front_text : (old : Session) → Task → (new : Session) → List ℕ
answer_front_text old t new =
    ok_text (length old.book.history) ++ said_if (is_some (connection_made old.book.history new.book.history)) (connected_by t)
