-- What hubs have to do, by their records: an automatic hub connects once it has a subscriber (RefCount), a subscriber ends as
-- the connection ended that it had (Publish), and a connection closes that has no subscriber left (RefCount).
use Rattle.std.specs.Prelude.{◌≡◌, ℕ, Bool, true, false, ◌&&◌, nat_lt, if◌then◌else◌, is_none, List, [], ◌∷◌, Option, Some, None, IsTrue, option_map, slice_get}
use Rattle.std.specs.List.{list_any}
use Rattle.std.specs.Option.{option_map_or, option_or}
use Rattle.std.proofs.Math.Bool.{not}
use Rattle.rx_event.specs.declared.event.Event.{Event}
use Rattle.rx_event.specs.declared.event.Event.TheVariants.{Connect as Connecting, End as Ending, Close as Closing}
use Rattle.rx_event.specs.declared.event.Mode.{Mode}
use Rattle.rx_event.specs.declared.event.Mode.TheVariants.{Auto, Manual}
use Rattle.rx_slots.specs.declared.Key.{Key}
use Rattle.rx_tree.specs.Tree.{is_on}
use Rattle.rx_hub.specs.declared.hub.HubDue.{HubDue}
use Rattle.rx_hub.specs.declared.hub.HubDue.TheVariants.{Connect, End, Close}
use Rattle.rx_hub.specs.declared.hub.LastEnd.{LastEnd}
use Rattle.rx_hub.specs.Hubs.{Hub, find_hub}

-- the event that it is
abbrev pub event_of : HubDue → Event
event_of (Connect number) = Connecting number
event_of (End key terminal) = Ending key.number terminal
event_of (Close key) = Closing key.number

abbrev pub is_auto : Mode → Bool
is_auto Auto = true
is_auto Manual = false

-- a subscriber is older than the last end
abbrev pub is_cut : Option LastEnd → Key → Bool
is_cut last key = option_map_or (λ (e : LastEnd). nat_lt key.number e.place) last false

-- a hub with RefCount has a subscriber that does not end, and no connection
abbrev pub waits : Hub → Bool
waits hub = is_auto hub.mode && is_none hub.connection && list_any (λ key. not (is_cut hub.last_end key)) hub.subscribers

abbrev pub connect_of : Hub → Option HubDue
connect_of hub = if waits hub then Some (Connect hub.number) else None

-- the first subscriber ends as the connection did: the others are younger
abbrev pub cut_of : Option LastEnd → List Key → Option HubDue
cut_of None keys = None
cut_of (Some e) [] = None
cut_of (Some e) (k ∷ ks) = if nat_lt k.number e.place then Some (End k e.terminal) else None

-- the connection closes of a hub with RefCount that nobody is subscribed to
abbrev pub left_of : Bool → Option Key → List Key → Option HubDue
left_of auto connection [] = if auto then option_map (λ (c : Key). Close c) connection else None
left_of auto connection (k ∷ ks) = None

abbrev pub due_of : Hub → Option HubDue
due_of hub = option_or (cut_of hub.last_end hub.subscribers) (left_of (is_auto hub.mode) hub.connection hub.subscribers)

-- no hub waits for a connection
abbrev pub NoneWaits : List Hub → Type 0
NoneWaits hubs = (i : ℕ) (hub : Hub) → slice_get hubs i ≡ Some hub → connect_of hub ≡ None

-- nothing is due at any hub
pub record IsQuiet (hubs : List Hub) : Type 0 where
  pub connected : NoneWaits hubs
  pub quiet : (i : ℕ) (hub : Hub) → slice_get hubs i ≡ Some hub → due_of hub ≡ None

-- this is due at some hub: a Connect, or what else there is where no hub waits for a connection
pub data IsDueIn (hubs : List Hub) : HubDue → Type 0 where
  connects : (i : ℕ) (hub : Hub) {d : HubDue} → slice_get hubs i ≡ Some hub → connect_of hub ≡ Some d → IsDueIn hubs d
  acts : (i : ℕ) (hub : Hub) {d : HubDue} → NoneWaits hubs → slice_get hubs i ≡ Some hub → due_of hub ≡ Some d → IsDueIn hubs d

-- it is of this hub: one with RefCount and no connection connects, its own subscriber ends, its own connection closes
abbrev pub IsOf : Hub → HubDue → Type 0
IsOf hub (Connect number) = (hub.number ≡ number) × (hub.mode ≡ Auto) × (hub.connection ≡ None)
IsOf hub (End key terminal) = IsTrue (is_on key hub.subscribers)
IsOf hub (Close key) = hub.connection ≡ Some key

-- it is of a hub that is there
pub record ConcernsHub (hubs : List Hub) (d : HubDue) : Type 0 where
  pub hub : Hub
  pub there : find_hub hubs hub.number ≡ Some hub
  pub own : IsOf hub d
