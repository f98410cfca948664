-- The base of a stored history, and which stored histories agree. b is the base, h the list that base and events read as.
use Rattle.std.specs.Prelude.{◌≡◌, ◌||◌, if◌then◌else◌}
use Rattle.rx_event.specs.Imports.{ℕ, Bool, Some, List, [], map, filter, length, slice_get, IsTrue, false, option_map_or, Terminal}
use Rattle.rx_event.specs.Imports.{Error, Mode, Event, Hub, Connect, Accept, Lease, Close}
use Rattle.rx_event.specs.declared.base.BaseHub.{BaseHub}
use Rattle.rx_event.specs.declared.base.BaseNode.{BaseNode}
use Rattle.rx_event.specs.declared.base.BaseResource.{BaseResource}
use Rattle.rx_event.specs.declared.base.BaseLease.{BaseLease}
use Rattle.rx_event.specs.declared.base.BaseState.{BaseState}
use Rattle.rx_event.specs.declared.base.BaseState.TheVariants.{Owned, Leased, Waiting}
use Rattle.rx_event.specs.Kept.{Kept}
use Rattle.rx_event.specs.Events.{is_merging, is_until, is_mirroring, is_auto_hub}
use Rattle.rx_event.specs.Tree.{at, places, hubs, parent, is_open, open_nodes, open_subscribers}
use Rattle.rx_event.specs.Resources.{is_owned, is_out, is_held, is_waiting, uses, accepted_by}
use Rattle.rx_event.specs.Moments.{is_fired, owed}
use Rattle.rx_event.specs.Opened.{source_opened, notifier_opened}
use Rattle.rx_event.specs.Marks.{source_completed}
use Rattle.rx_event.specs.Totals.{item_count, accepted_count, taken_count}
use Rattle.rx_event.specs.Forced.{ChildEnded, SourceEnded}
use Rattle.rx_event.specs.Renumbered.{IsRead}

-- the base of a history ------------------------------------------------------------------------------

abbrev pub event_or : List Event → ℕ → Event
event_or h n = option_map_or (λ e. e) (slice_get h n) (Close n)

abbrev pub keep_node : Kept → List Event → ℕ → BaseNode
keep_node b h n =
    record {
      number = n;
      made = event_or h n;
      source_opened = source_opened b h n;
      notifier_opened = notifier_opened b h n;
      source_completed = source_completed b h n;
      owed = owed b h n;
    }

abbrev pub mode_of : Event → Mode
mode_of (Hub mode) = mode
mode_of _ = Rattle.rx_event.specs.declared.event.Mode.TheVariants.Manual

abbrev pub keep_hub : List Event → ℕ → BaseHub
keep_hub h n = record { number = n; mode = mode_of (event_or h n) }

abbrev pub accept_node : Event → ℕ
accept_node (Accept node tag) = node
accept_node _ = 0

abbrev pub accept_tag : Event → ℕ
accept_tag (Accept node tag) = tag
accept_tag _ = 0

-- held by its node, held by leases alone, or waiting
abbrev pub state_of : List Event → ℕ → BaseState
state_of h r = if is_owned h r then Owned else (if is_held h r then Leased else Waiting)

abbrev pub keep_resource : Kept → List Event → ℕ → BaseResource
keep_resource b h r =
    record {
      number = r;
      node = option_map_or accept_node (accepted_by b h r) 0;
      tag = option_map_or accept_tag (accepted_by b h r) 0;
      uses = uses b h r;
      state = state_of h r;
    }

abbrev pub lease_resource : Event → ℕ
lease_resource (Lease r) = r
lease_resource _ = 0

abbrev pub keep_lease : List Event → ℕ → BaseLease
keep_lease h l = record { number = l; resource = lease_resource (event_or h l) }

abbrev pub is_untaken : List Event → ℕ → Bool
is_untaken h r = is_held h r || is_waiting h r

-- of a stored history: each open node, each hub, each resource that is not taken and each lease that is out, by rising number
unfoldable pub base_of : Kept → List Event → Kept
base_of b h =
    record {
      at_length = length h;
      items = item_count b h;
      accepted = accepted_count b h;
      taken = taken_count b h;
      hubs = map (keep_hub h) (hubs h);
      nodes = map (keep_node b h) (open_nodes h);
      resources = map (keep_resource b h) (filter (is_untaken h) (places h));
      leases = map (keep_lease h) (filter (is_out h) (places h));
    }

-- the rules, each by its own line ---------------------------------------------------------------------

abbrev pub Mirrors : List Event → ℕ → Terminal → Type 0
Mirrors h p t = IsTrue (is_open h p) × IsTrue (at is_mirroring h p) × ChildEnded h p t

abbrev pub Fires : List Event → ℕ → Type 0
Fires h u = IsTrue (is_open h u) × IsTrue (at is_until h u) × IsTrue (is_fired h u)

abbrev pub Fails : List Event → ℕ → ℕ → Type 0
Fails h f c = IsTrue (is_open h f) × IsTrue (at is_merging h f) × ChildEnded h f (Error c)

-- a FlatMap or Switch completes
pub record Completes (b : Kept) (h : List Event) (f : ℕ) : Type 0 where
  pub alive : IsTrue (is_open h f)
  pub merging : IsTrue (at is_merging h f)
  pub fails_not : (c : ℕ) → ¬ Fails h f c
  pub source : IsTrue (source_completed b h f)
  pub childless : (c : ℕ) → parent h c ≡ Some f → is_open h c ≡ false
  pub paid : owed b h f ≡ 0

abbrev pub Cuts : List Event → ℕ → Terminal → Type 0
Cuts h s t = IsTrue (is_open h s) × SourceEnded h s t

pub record Leaves (h : List Event) (c : ℕ) : Type 0 where
  pub hub : ℕ
  pub alive : IsTrue (is_open h c)
  pub connects : slice_get h c ≡ Some (Connect hub)
  pub auto : IsTrue (at is_auto_hub h hub)
  pub unsubscribed : open_subscribers h hub ≡ []

-- agreement ---------------------------------------------------------------------------------------------

-- Two stored histories agree: each reads as the other, by the same numbers, and the same is held, waits, is out and was counted.
-- What each rule gives follows (`rules` in Claims/Checkpoints)
pub record Agree (b : Kept) (h : List Event) (c : Kept) (k : List Event) : Type 0 where
  pub same_length : length h ≡ length k
  pub there : IsRead b c (λ n. n) (λ n. n) h k
  pub back : IsRead c b (λ n. n) (λ n. n) k h
  pub owned : (r : ℕ) → is_owned h r ≡ is_owned k r
  pub held : (r : ℕ) → is_held h r ≡ is_held k r
  pub waiting : (r : ℕ) → is_waiting h r ≡ is_waiting k r
  pub accepts : (r : ℕ) → IsTrue (is_untaken h r) → accepted_by b h r ≡ accepted_by c k r
  pub used : (r : ℕ) → IsTrue (is_untaken h r) → uses b h r ≡ uses c k r
  pub out : (l : ℕ) → is_out h l ≡ is_out k l
  pub leased : (l : ℕ) → IsTrue (is_out h l) → slice_get h l ≡ slice_get k l
  pub item_total : item_count b h ≡ item_count c k
  pub accepted_total : accepted_count b h ≡ accepted_count c k
  pub taken_total : taken_count b h ≡ taken_count c k
