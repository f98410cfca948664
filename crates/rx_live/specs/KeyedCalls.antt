-- The calls that commands make as values, where no name is given or freed. No public clause cites this module.
use Rattle.std.specs.Prelude.{Bool, true, false, Option, None, option_map}
use Rattle.rx_book.specs.declared.call.Call.{Call}
use Rattle.rx_book.specs.declared.call.Call.TheVariants.{Next, End, Abort, Decline, Fail, Dispose, Apply, Remove, Disconnect}
use Rattle.rx_scenario.specs.Scenario.{Command, apply, remove, next, end, abort, decline, fail, dispose, disconnect}
use Rattle.rx_scenario.specs.Scenario.{using, open_node, hold, lease, give_back, make_hub, connect, drain, checkpoint}
use Rattle.rx_live.specs.Session.{Session, node_by_name, resource_by_name, hub_by_name}

-- it makes a call that leaves all names bound as they are
abbrev pub keeps_names : Command → Bool
keeps_names (using name site res) = false
keeps_names (open_node name site sort) = false
keeps_names (hold node res) = false
keeps_names (lease res name) = false
keeps_names (give_back name) = false
keeps_names (make_hub name mode) = false
keeps_names (connect hub name) = false
keeps_names drain = false
keeps_names checkpoint = false
keeps_names _ = true

-- that call, with keys in place of names; None where a name is not bound
abbrev pub call_by_keys : Session → Command → Option Call
call_by_keys s (apply res word) = option_map (λ k. Apply k word) (resource_by_name s res)
call_by_keys s (remove res) = option_map Remove (resource_by_name s res)
call_by_keys s (next node value) = option_map (λ k. Next k value) (node_by_name s node)
call_by_keys s (end node terminal) = option_map (λ k. End k terminal) (node_by_name s node)
call_by_keys s (abort node code) = option_map (λ k. Abort k code) (node_by_name s node)
call_by_keys s (decline node) = option_map Decline (node_by_name s node)
call_by_keys s (fail node code) = option_map (λ k. Fail k code) (node_by_name s node)
call_by_keys s (dispose node) = option_map Dispose (node_by_name s node)
call_by_keys s (disconnect hub) = option_map Disconnect (hub_by_name s hub)
call_by_keys s _ = None
