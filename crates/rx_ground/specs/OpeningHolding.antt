-- Opening a node of any kind that holds a resource from then on: what stands against it, and what it wants room for.
use Rattle.std.specs.Prelude.{ℕ, ◌+◌, Bool, false, List, Option, length}
use Rattle.std.proofs.Math.Bool.{not}
use Rattle.rx_event.specs.declared.event.Place.{Place}
use Rattle.rx_event.specs.declared.event.Kind.{Kind}
use Rattle.rx_event.specs.declared.event.Event.{Event}
use Rattle.rx_event.specs.declared.refusal.Refusal.{Refusal}
use Rattle.rx_event.specs.declared.refusal.Refusal.TheVariants.{Full, Gone, WrongKind, PlaceTaken, NothingOwed, NoHub, HubOrder, NotFresh, TooMany}
use Rattle.rx_event.specs.Kept.{Kept}
use Rattle.rx_event.specs.Calls.{Opening, Holding}
use Rattle.rx_event.specs.Causes.{is_without_hub, is_gone, is_wrong_place, is_taken_place, is_unowed_place, is_out_of_order, is_crowded, is_over}
use Rattle.rx_event.specs.Causes.{nodes_opened, added_by, by_key}
use Rattle.rx_event.specs.Refusals.{first_cause}
use Rattle.rx_register.specs.Paid.{notes_added}
use Rattle.rx_ground.specs.declared.base.Wanted.{Wanted}
use Rattle.rx_ground.specs.Costs.{nodes_added, resources_added}
use Rattle.rx_ground.specs.Shown.{Ground}

-- the events and reservations of the opening, and with them those of the holding
abbrev pub added_holding : List Event → Place → Kind → ℕ
added_holding h place kind = added_by h (Opening place kind) + added_by h (Holding (length h) 0)

-- the causes against the opening, that the resource is not fresh, and that there may not be so many events
abbrev pub opening_holding_causes : Kept → List Event → ℕ → Bool → Place → Kind → Refusal → Bool
opening_holding_causes base h limit is_fresh place kind NoHub = is_without_hub h kind
opening_holding_causes base h limit is_fresh place kind Gone = is_gone h place
opening_holding_causes base h limit is_fresh place kind WrongKind = is_wrong_place h place
opening_holding_causes base h limit is_fresh place kind PlaceTaken = is_taken_place base h place
opening_holding_causes base h limit is_fresh place kind NothingOwed = is_unowed_place base h place
opening_holding_causes base h limit is_fresh place kind HubOrder = is_out_of_order h place kind
opening_holding_causes base h limit is_fresh place kind NotFresh = not is_fresh
opening_holding_causes base h limit is_fresh place kind TooMany = is_crowded h (nodes_opened h kind)
opening_holding_causes base h limit is_fresh place kind Full = is_over base h limit (added_holding h place kind)
opening_holding_causes base h limit is_fresh place kind _ = false

-- what both want room for
abbrev pub opening_holding_cost : List Event → Place → Kind → Wanted
opening_holding_cost h place kind = record {
  events = added_holding h place kind;
  notes = notes_added h (Opening place kind);
  nodes = nodes_added h (Opening place kind);
  resources = resources_added (Holding (length h) 0);
  hubs = 0;
  leases = 0;
}

-- what stands first against it on a ground, where the key of the node above is known or not
abbrev pub first_holding : {T : Type 0} → Ground T → (is_known is_fresh : Bool) → Place → Kind → Option Refusal
first_holding b is_known is_fresh place kind =
    first_cause (by_key is_known (opening_holding_causes b.register.base b.register.history b.register.limit is_fresh place kind))
