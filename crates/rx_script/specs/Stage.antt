-- Where a scenario is while it runs.
use Rattle.std.specs.Prelude.{ℕ, ◌+◌, Bool, true, false, ◌||◌, Option, Some, None, List, [], ◌∷◌}
use Rattle.std.specs.Prelude.{length, drop, slice_get, option_map, option_and_then, if◌then◌else◌}
use Rattle.std.specs.Str.{bytes_eq}
use Rattle.std.specs.Option.{option_map_or}
use Rattle.rx_event.specs.declared.event.Place.{Place}
use Rattle.rx_event.specs.declared.event.Place.TheVariants.{Root, Source, Inner, Notifier}
use Rattle.rx_event.specs.declared.event.Kind.{Kind}
use Rattle.rx_event.specs.declared.event.Kind.TheVariants.{Leaf, Pass, Flat, Switch, Until, Sub}
use Rattle.rx_event.specs.declared.event.Event.{Event}
use Rattle.rx_event.specs.Calls.{Call, Opening, OpeningUsing, Holding, Applying, Removing, Leasing, GivingBack}
use Rattle.rx_event.specs.Calls.{Emitting, Ending, Aborting, Declining, Failing, Disposing, Publishing, Connecting, Disconnecting}
use Rattle.rx_resource.specs.declared.Resource.{Ghosts}
use Rattle.rx_book.specs.Requests.{is_fresh_in}
use Rattle.rx_book.specs.Answers.{connection_made}
use Rattle.rx_agenda.specs.declared.answer.Cause.{Cause}
use Rattle.rx_agenda.specs.declared.answer.Cause.TheVariants.{NoName, NameTaken, NoStock}
use Rattle.rx_agenda.specs.Bindings.{Binding, bound, is_unbound, is_bound, with_binding}
use Rattle.rx_scenario.specs.Scenario.{Name, Site, root, source, inner, notifier, Sort, leaf, pass, flat, switch}
use Rattle.rx_scenario.specs.Scenario.{until, sub, Command, using, open_node, hold, apply, remove, lease, give_back}
use Rattle.rx_scenario.specs.Scenario.{next, end, abort, decline, fail, dispose, make_hub, connect, disconnect, drain, checkpoint}

-- a resource of the stock: its tag, and whether a book would take it
pub record Ware : Type 0 where
  pub tag : ℕ
  pub is_fresh : Bool

-- a book takes a resource that was neither released nor used
abbrev pub ware_of : {T : Type 0} → Ghosts T → T → Ware
ware_of g x = record { tag = g.tag_of x; is_fresh = is_fresh_in g x }

-- what has happened from the first event on, how many events came before the last checkpoint, what the names of nodes, of hubs, of
-- resources and of leases stand for, in order of binding, and what is left of the stock
pub record Stage : Type 0 where
  pub history : List Event
  pub checked : ℕ
  pub nodes : List Binding
  pub hubs : List Binding
  pub resources : List Binding
  pub leases : List Binding
  pub stock : List Ware

-- before the first step
abbrev pub start : List Ware → Stage
start stock = record { history = []; checked = 0; nodes = []; hubs = []; resources = []; leases = []; stock = stock }

-- the causes of the scenario's own -----------------------------------------------------------------

abbrev pub is_unbound_site : Stage → Site → Bool
is_unbound_site s root = false
is_unbound_site s (source name) = is_unbound s.nodes name
is_unbound_site s (inner name) = is_unbound s.nodes name
is_unbound_site s (notifier name) = is_unbound s.nodes name

-- a subscriber is opened by the name of its hub
abbrev pub is_unbound_hub : Stage → Sort → Bool
is_unbound_hub s (sub hub connection) = is_unbound s.hubs hub
is_unbound_hub s _ = false

-- it uses a name that is not bound
abbrev pub lacks_name : Stage → Command → Bool
lacks_name s (using name site res) = is_unbound_site s site
lacks_name s (open_node name site sort) = is_unbound_site s site || is_unbound_hub s sort
lacks_name s (hold node res) = is_unbound s.nodes node
lacks_name s (apply res word) = is_unbound s.resources res
lacks_name s (remove res) = is_unbound s.resources res
lacks_name s (lease res name) = is_unbound s.resources res
lacks_name s (give_back name) = is_unbound s.leases name
lacks_name s (next node value) = is_unbound s.nodes node
lacks_name s (end node t) = is_unbound s.nodes node
lacks_name s (abort node code) = is_unbound s.nodes node
lacks_name s (decline node) = is_unbound s.nodes node
lacks_name s (fail node code) = is_unbound s.nodes node
lacks_name s (dispose node) = is_unbound s.nodes node
lacks_name s (make_hub name mode) = false
lacks_name s (connect hub name) = is_unbound s.hubs hub
lacks_name s (disconnect hub) = is_unbound s.hubs hub
lacks_name s drain = false
lacks_name s checkpoint = false

-- the name for the connection that the opening of a subscriber makes, if it is given one
abbrev pub connection_name : Sort → Option Name
connection_name (sub hub connection) = connection
connection_name _ = None

-- it would bind a name that is bound, or one name twice; nodes, hubs, resources and leases have a space of names each
abbrev pub takes_name : Stage → Command → Bool
takes_name s (using name site res) = is_bound s.nodes name || is_bound s.resources res
takes_name s (open_node name site sort) = is_bound s.nodes name || option_map_or (λ c. is_bound s.nodes c || bytes_eq name c) (connection_name sort) false
takes_name s (hold node res) = is_bound s.resources res
takes_name s (apply res word) = false
takes_name s (remove res) = false
takes_name s (lease res name) = is_bound s.leases name
takes_name s (give_back name) = false
takes_name s (next node value) = false
takes_name s (end node t) = false
takes_name s (abort node code) = false
takes_name s (decline node) = false
takes_name s (fail node code) = false
takes_name s (dispose node) = false
takes_name s (make_hub name mode) = is_bound s.hubs name
takes_name s (connect hub name) = option_map_or (is_bound s.nodes) name false
takes_name s (disconnect hub) = false
takes_name s drain = false
takes_name s checkpoint = false

abbrev pub has_no_ware : List Ware → Bool
has_no_ware [] = true
has_no_ware (ware ∷ stock) = false

-- it takes a resource of the stock, and none is left
abbrev pub lacks_stock : Stage → Command → Bool
lacks_stock s (using name site res) = has_no_ware s.stock
lacks_stock s (open_node name site sort) = false
lacks_stock s (hold node res) = has_no_ware s.stock
lacks_stock s (apply res word) = false
lacks_stock s (remove res) = false
lacks_stock s (lease res name) = false
lacks_stock s (give_back name) = false
lacks_stock s (next node value) = false
lacks_stock s (end node t) = false
lacks_stock s (abort node code) = false
lacks_stock s (decline node) = false
lacks_stock s (fail node code) = false
lacks_stock s (dispose node) = false
lacks_stock s (make_hub name mode) = false
lacks_stock s (connect hub name) = false
lacks_stock s (disconnect hub) = false
lacks_stock s drain = false
lacks_stock s checkpoint = false

-- the first of these that stands
abbrev pub own_cause : Stage → Command → Option Cause
own_cause s step =
    if lacks_name s step then Some NoName
    else if takes_name s step then Some NameTaken
    else if lacks_stock s step then Some NoStock
    else None

-- the call of the book -----------------------------------------------------------------------------

abbrev pub place_at : Stage → Site → Option Place
place_at s root = Some Root
place_at s (source name) = option_map Source (bound s.nodes name)
place_at s (inner name) = option_map Inner (bound s.nodes name)
place_at s (notifier name) = option_map Notifier (bound s.nodes name)

-- the kind of the node, with a hub's number in place of its name
abbrev pub kind_at_stage : Stage → Sort → Option Kind
kind_at_stage s leaf = Some Leaf
kind_at_stage s pass = Some Pass
kind_at_stage s flat = Some Flat
kind_at_stage s switch = Some Switch
kind_at_stage s until = Some Until
kind_at_stage s (sub hub connection) = option_map Sub (bound s.hubs hub)

-- the next resource of the stock
abbrev pub front : Stage → Option Ware
front s = slice_get s.stock 0

abbrev pub front_is_fresh : Stage → Bool
front_is_fresh s = option_map_or (λ w. w.is_fresh) (front s) true

-- the call that a step makes, with numbers in place of names
abbrev pub call_of : Stage → Command → Option Call
call_of s (using name site res) = option_and_then (λ place. option_map (λ w. OpeningUsing place w.tag) (front s)) (place_at s site)
call_of s (open_node name site sort) = option_and_then (λ place. option_map (Opening place) (kind_at_stage s sort)) (place_at s site)
call_of s (hold node res) = option_and_then (λ n. option_map (λ w. Holding n w.tag) (front s)) (bound s.nodes node)
call_of s (apply res word) = option_map Applying (bound s.resources res)
call_of s (remove res) = option_map Removing (bound s.resources res)
call_of s (lease res name) = option_map Leasing (bound s.resources res)
call_of s (give_back name) = option_map GivingBack (bound s.leases name)
call_of s (next node value) = option_map (λ n. Emitting n value) (bound s.nodes node)
call_of s (end node t) = option_map (λ n. Ending n t) (bound s.nodes node)
call_of s (abort node code) = option_map (λ n. Aborting n code) (bound s.nodes node)
call_of s (decline node) = option_map Declining (bound s.nodes node)
call_of s (fail node code) = option_map (λ n. Failing n code) (bound s.nodes node)
call_of s (dispose node) = option_map Disposing (bound s.nodes node)
call_of s (make_hub name mode) = Some (Publishing mode)
call_of s (connect hub name) = option_map Connecting (bound s.hubs hub)
call_of s (disconnect hub) = option_map Disconnecting (bound s.hubs hub)
call_of s drain = None
call_of s checkpoint = None

-- what follows -------------------------------------------------------------------------------------

-- a connection that was made gets its name, where there are both
abbrev pub with_connection_bound : List Binding → Option Name → Option ℕ → List Binding
with_connection_bound bindings (Some name) (Some number) = with_binding bindings name number
with_connection_bound bindings _ _ = bindings

-- after an accepted step that took the history to k: a node or a hub is numbered by the place of the event that made it, a
-- resource by the place of its acceptance, and a lease by the place where it was given out. The connection of a subscriber's hub is
-- named where the history has made one. A checkpoint comes after all events so far
abbrev pub after : Stage → Command → List Event → Stage
after s (using name site res) k = record s {
  history = k;
  nodes = with_binding s.nodes name (length s.history);
  resources = with_binding s.resources res (length s.history + 1);
  stock = drop 1 s.stock;
}
after s (open_node name site sort) k =
    record s { history = k; nodes = with_connection_bound (with_binding s.nodes name (length s.history)) (connection_name sort) (connection_made s.history k) }
after s (hold node res) k = record s { history = k; resources = with_binding s.resources res (length s.history); stock = drop 1 s.stock }
after s (apply res word) k = record s { history = k }
after s (remove res) k = record s { history = k }
after s (lease res name) k = record s { history = k; leases = with_binding s.leases name (length s.history) }
after s (give_back name) k = record s { history = k }
after s (next node value) k = record s { history = k }
after s (end node t) k = record s { history = k }
after s (abort node code) k = record s { history = k }
after s (decline node) k = record s { history = k }
after s (fail node code) k = record s { history = k }
after s (dispose node) k = record s { history = k }
after s (make_hub name mode) k = record s { history = k; hubs = with_binding s.hubs name (length s.history) }
after s (connect hub name) k = record s { history = k; nodes = with_connection_bound s.nodes name (Some (length s.history)) }
after s (disconnect hub) k = record s { history = k }
after s drain k = record s { history = k }
after s checkpoint k = record s { history = k; checked = length k }
