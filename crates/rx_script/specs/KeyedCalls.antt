-- The calls of a book that commands make as values, and the names that these bind. No public clause cites this module.
use Rattle.std.specs.Prelude.{ℕ, Bool, true, false, ◌||◌, Option, Some, None, option_map, option_and_then, is_some, List, [], ◌∷◌, ◌++◌, String}
use Rattle.std.specs.declared.alloc.Global.{Global}
use Rattle.rx_book.specs.declared.call.Call.{Call}
use Rattle.rx_book.specs.declared.call.Call.TheVariants.{Open, Next, End, Abort, Decline, Fail, Dispose, Apply, Remove, Lease, GiveBack}
use Rattle.rx_book.specs.declared.call.Call.TheVariants.{Hub, Connect, Disconnect}
use Rattle.rx_book.specs.declared.answer.Answer.{Answer}
use Rattle.rx_book.specs.declared.answer.Answer.TheVariants.{Place, Opened, Connected, Leased}
use Rattle.rx_slots.specs.declared.Key.{Key}
use Rattle.rx_ground.specs.declared.leases.LeaseKey.{LeaseKey}
use Rattle.rx_scenario.specs.declared.scenario.Sort.{Sort}
use Rattle.rx_scenario.specs.declared.scenario.Sort.TheVariants.{Sub}
use Rattle.rx_scenario.specs.declared.scenario.Command.{Command as CommandInCode}
use Rattle.rx_scenario.specs.declared.scenario.Command.TheVariants.{Open as OpenThere, Lease as LeaseThere, Hub as HubThere, Connect as ConnectThere}
use Rattle.rx_scenario.specs.Scenario.{Command, open_node, apply, remove, lease, give_back, next, end, abort, decline, fail, dispose}
use Rattle.rx_scenario.specs.Scenario.{using, hold, make_hub, connect, disconnect, drain, checkpoint}
use Rattle.rx_agenda.specs.Names.{key_named}
use Rattle.rx_agenda.specs.declared.names.Named.{Named}
use Rattle.rx_script.specs.declared.engine.Engine.{Engine}
use Rattle.rx_script.specs.Stage.{connection_name}
use Rattle.rx_script.specs.Engine.{at_of, kind_by_hubs, is_connection_bound, is_taken_beside, with_named}

-- it makes a call that hands no resource in
abbrev pub is_asked : Command → Bool
is_asked (using name site res) = false
is_asked (hold node res) = false
is_asked drain = false
is_asked checkpoint = false
is_asked _ = true

-- that call, with keys in place of names; None where a name is not bound
abbrev pub keyed_call : {R : Type 0} → Engine R → Command → Option Call
keyed_call e (open_node name site sort) = option_and_then (λ place. option_map (Open place) (kind_by_hubs e.hubs sort)) (at_of e.nodes site)
keyed_call e (apply res word) = option_map (λ k. Apply k word) (key_named e.resources res)
keyed_call e (remove res) = option_map Remove (key_named e.resources res)
keyed_call e (lease res name) = option_map Lease (key_named e.resources res)
keyed_call e (give_back name) = option_map GiveBack (key_named e.leases name)
keyed_call e (next node value) = option_map (λ k. Next k value) (key_named e.nodes node)
keyed_call e (end node t) = option_map (λ k. End k t) (key_named e.nodes node)
keyed_call e (abort node code) = option_map (λ k. Abort k code) (key_named e.nodes node)
keyed_call e (decline node) = option_map Decline (key_named e.nodes node)
keyed_call e (fail node code) = option_map (λ k. Fail k code) (key_named e.nodes node)
keyed_call e (dispose node) = option_map Dispose (key_named e.nodes node)
keyed_call e (make_hub name mode) = Some (Hub mode)
keyed_call e (connect hub name) = option_map Connect (key_named e.hubs hub)
keyed_call e (disconnect hub) = option_map Disconnect (key_named e.hubs hub)
keyed_call e _ = None

-- it would bind a name that is bound, or one name twice
abbrev pub rebinds : List (Named Key) → List (Named ℕ) → List (Named LeaseKey) → Command → Bool
rebinds nodes hubs leases (open_node name site sort) = is_some (key_named nodes name) || is_taken_beside nodes name (connection_name sort)
rebinds nodes hubs leases (lease res name) = is_some (key_named leases name)
rebinds nodes hubs leases (make_hub name mode) = is_some (key_named hubs name)
rebinds nodes hubs leases (connect hub name) = is_connection_bound nodes name
rebinds nodes hubs leases _ = false

-- the name for the connection that the opening of a subscriber makes, if it is given one
abbrev pub connection_of : Sort → Option (String Global)
connection_of (Sub hub connection) = connection
connection_of _ = None

-- what the call gave has the name that the command binds
abbrev pub with_given : {R : Type 0} → Engine R → CommandInCode → Answer → Engine R
with_given e (OpenThere name site sort) (Opened o) =
    record e { nodes = with_named (e.nodes ++ record { name = name; key = o.key } ∷ []) (connection_of sort) o.connected }
with_given e (LeaseThere res name) (Leased k) = record e { leases = e.leases ++ record { name = name; key = k } ∷ [] }
with_given e (HubThere name mode) (Place number) = record e { hubs = e.hubs ++ record { name = name; key = number } ∷ [] }
with_given e (ConnectThere hub name) (Connected k) = record e { nodes = with_named e.nodes name (Some k) }
with_given e _ _ = e
