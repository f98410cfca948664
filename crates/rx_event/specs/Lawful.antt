-- Which histories there are, and what one call adds to one.
use Rattle.std.specs.Prelude.{◌≡◌, ◌+◌, ◌<◌, ◌≤◌, ◌∷◌, ◌++◌}
use Rattle.rx_event.specs.Imports.{ℕ, Some, None, List, [], length, slice_get, take, count_by, IsTrue, false, AllByRecursion}
use Rattle.rx_event.specs.Imports.{Terminal, Place, Root, Source, Inner, Notifier, Kind, Pass, Event, Open, Connect, Accept, Lease, End}
use Rattle.rx_event.specs.Events.{has_source, is_merging, is_until, is_switch, is_source_of, is_inner_of, is_connect_of, makes_hub, makes_node, makes_resource}
use Rattle.rx_event.specs.Events.{parent_named, is_making, pays}
use Rattle.rx_event.specs.Kept.{Kept, shown, stored, node_kept, resource_kept}
use Rattle.rx_event.specs.Tree.{at, is_open}
use Rattle.rx_event.specs.Resources.{is_owned, accepted_by, uses}
use Rattle.rx_event.specs.Moments.{moments_after, projected_by, owed}
use Rattle.rx_event.specs.Totals.{accepted_count, held_count, waiting_count, taken_count}
use Rattle.rx_event.specs.Forced.{IsDue, IsForced, IsSettled}
use Rattle.rx_event.specs.Allowed.{IsHubbed, IsAllowed}

-- the event may come next: it is forced, or a caller's after a settled history, or (Using) the acceptance of the resource that
-- a mirroring node was opened with, directly after that opening
pub data MayFollow (b : Kept) (h : List Event) : Event → Type 0 where
  forced : {e : Event} → IsForced b h e → MayFollow b h e
  allowed : {e : Event} → IsSettled b h → IsAllowed b h e → MayFollow b h e
  opened_with : {n tag : ℕ} {place : Place} → slice_get h n ≡ Some (Open place Pass) → length h ≡ n + 1 → IsTrue (is_open h n) → MayFollow b h (Accept n tag)

-- the place is one below a node of a kind that has it
abbrev pub HasPlace : List Event → Place → Type 0
HasPlace h Root = Unit {0}
HasPlace h (Source p) = IsTrue (at has_source h p)
HasPlace h (Inner p) = IsTrue (at is_merging h p)
HasPlace h (Notifier p) = IsTrue (at is_until h p)

-- what a base has to be
pub record Started (base : Kept) : Type 0 where
  pub names : (n p : ℕ) (e : Event) → slice_get (shown base) n ≡ Some e → parent_named e ≡ Some p → IsTrue (is_open (take n (shown base)) p)
  pub placed : (n : ℕ) (place : Place) (kind : Kind) → slice_get (shown base) n ≡ Some (Open place kind) → HasPlace (take n (shown base)) place
  pub hubbed : (n : ℕ) (place : Place) (kind : Kind) → slice_get (shown base) n ≡ Some (Open place kind) → IsHubbed (take n (shown base)) place kind
  pub connects : (c g : ℕ) → slice_get (shown base) c ≡ Some (Connect g) → IsTrue (at makes_hub (take c (shown base)) g)
  pub accepts : (r n tag : ℕ) → slice_get (shown base) r ≡ Some (Accept n tag) → n ≤ r
  pub holds : (r n tag : ℕ) → slice_get (shown base) r ≡ Some (Accept n tag) → n < r → IsTrue (is_open (shown base) n)
  pub one_source : (f x y : ℕ) → IsTrue (at (is_source_of f) (shown base) x) → IsTrue (at (is_source_of f) (shown base) y) → x ≡ y
  pub leases : (l r : ℕ) → slice_get (shown base) l ≡ Some (Lease r) → IsTrue (at makes_resource (take l (shown base)) r)
  pub one_inner : (f x y : ℕ) → IsTrue (at is_switch (shown base) f) → IsTrue (at (is_inner_of f) (shown base) x) → IsTrue (is_open (shown base) x) →
      IsTrue (at (is_inner_of f) (shown base) y) → IsTrue (is_open (shown base) y) → x ≡ y
  pub one_connection : (g x y : ℕ) → IsTrue (at (is_connect_of g) (shown base) x) → IsTrue (is_open (shown base) x) →
      IsTrue (at (is_connect_of g) (shown base) y) → IsTrue (is_open (shown base) y) → x ≡ y
  pub unused : (r : ℕ) → length (shown base) ≤ r → uses base (shown base) r ≡ 0
  pub parts : accepted_count base (shown base) ≡ held_count (shown base) + waiting_count (shown base) + taken_count base (shown base)
  pub unkept : (n : ℕ) → length (shown base) ≤ n → node_kept base n ≡ None
  pub paid : (f : ℕ) → count_by (pays f) (shown base) ≤ projected_by base (shown base) f
  -- what is no FlatMap or Switch owes nothing
  pub plain : (f : ℕ) → IsTrue (is_open (shown base) f) → at is_merging (shown base) f ≡ false → owed base (shown base) f ≡ 0
  pub settled : IsSettled base (shown base)
  pub alive : (n : ℕ) (e : Event) → slice_get (shown base) n ≡ Some e → IsTrue (makes_node e) → IsTrue (is_open (shown base) n)
  -- nothing happens in what it shows, and its records of resources are below its length and read as what accepted them
  pub making : (i : ℕ) (e : Event) → slice_get (shown base) i ≡ Some e → IsTrue (is_making e)
  pub unnumbered : (r : ℕ) → length (shown base) ≤ r → resource_kept base r ≡ None
  pub reads_owned : (r : ℕ) → IsTrue (is_owned (shown base) r) → accepted_by base (shown base) r ≡ slice_get (shown base) r
  pub undue : (n : ℕ) (t : Terminal) → ¬ IsDue base (shown base) (End n t)

-- each event may follow those before it
pub record IsLawful (b : Kept) (h : List Event) : Type 0 where
  pub started : Started b
  pub since : List Event
  pub reads : h ≡ stored b since
  pub each : AllByRecursion (λ m. MayFollow b m.before m.event) (moments_after (shown b) since)

-- a history, and then events each forced in the history before it
pub data IsForcedOn (b : Kept) : List Event → List Event → Type 0 where
  stays : {h : List Event} → IsForcedOn b h h
  more : {h k : List Event} {e : Event} → IsForcedOn b h k → IsForced b k e → IsForcedOn b h (k ++ e ∷ [])

-- one step from h to k: a caller's event or two, and then all that they force
pub record IsStep (b : Kept) (h outside k : List Event) : Type 0 where
  pub forced : IsForcedOn b (h ++ outside) k
  pub lawful : IsLawful b k
  pub settled : IsSettled b k
