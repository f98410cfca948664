-- The rules of hubs by a hub's oldest and youngest subscriber alone. No public clause cites this module.
use Rattle.std.specs.Prelude.{false, ◌&&◌, nat_lt, if◌then◌else◌, is_none, Option, Some, None, option_map}
use Rattle.std.specs.Option.{option_map_or}
use Rattle.std.proofs.Math.Bool.{not}
use Rattle.rx_slots.specs.declared.Key.{Key}
use Rattle.rx_hub.specs.declared.hub.HubDue.{HubDue}
use Rattle.rx_hub.specs.declared.hub.HubDue.TheVariants.{Connect as Connecting, End, Close}
use Rattle.rx_hub.specs.declared.hub.LastEnd.{LastEnd}
use Rattle.rx_hub.specs.declared.hub.Published.{Published}
use Rattle.rx_hub.specs.declared.forcing.Rule.{Rule}
use Rattle.rx_hub.specs.declared.forcing.Rule.TheVariants.{Connect, Other}
use Rattle.rx_hub.specs.Due.{is_auto, is_cut, connect_of, due_of}
use Rattle.rx_hub.specs.Hubs.{Hub}

abbrev pub connect_by : Published → Option Key → Option HubDue
connect_by hub youngest =
    if is_auto hub.mode && is_none hub.connection && option_map_or (λ key. not (is_cut hub.last_end key)) youngest false
    then Some (Connecting hub.number) else None

abbrev pub cut_by : Option LastEnd → Key → Option HubDue
cut_by None key = None
cut_by (Some e) key = if nat_lt key.number e.place then Some (End key e.terminal) else None

abbrev pub due_by : Published → Option Key → Option HubDue
due_by hub None = if is_auto hub.mode then option_map (λ (c : Key). Close c) hub.connection else None
due_by hub (Some key) = cut_by hub.last_end key

abbrev pub given_by : Rule → Hub → Option HubDue
given_by Connect hub = connect_of hub
given_by Other hub = due_of hub
