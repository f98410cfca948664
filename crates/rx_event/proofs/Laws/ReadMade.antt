-- One number more, and which numbers an event names.
use Rattle.rx_event.proofs.Laws.Common.{◌≡◌, ℕ, ◌<◌, true, List, length, take, Some, cond, slice_get, refl, ap, ◌==◌, arith, subst, length-take-le}
use Rattle.rx_event.proofs.Laws.Common.{false≢true, eq-eqb, ne_eqb, slice_get_within, Kept, shown, Place, Root, Source, Inner, Notifier, Kind, Sub, Event}
use Rattle.rx_event.proofs.Laws.Common.{Open, Connect, makes_node, makes_hub, at, Started, MayFollow, IsLawful, event_by, place_by}
use Rattle.rx_event.specs.Renumbered.{kind_by}
use Rattle.rx_event.proofs.Laws.Places.{at_within}
use Rattle.rx_event.proofs.Laws.Openness.{is_open_within}
use Rattle.rx_event.proofs.Laws.Lawful.{in_base, since_base, FoundAt, found_at}
use Rattle.rx_event.proofs.Laws.Steps.{may_name}
use Rattle.rx_event.proofs.Laws.Hubs.{may_subscribe, may_connect_hub}
use Rattle.rx_event.proofs.Laws.TreeRead.{IsTreeRead, hub_made}
use Rattle.rx_event.proofs.Laws.TreeAfterEvent.{NamesOpen}
use Rattle.std.proofs.Common.{rules}

-- one number more -------------------------------------------------------------------------------------------------

-- the numbers as before, and n as m
abbrev pub with_number : ℕ → ℕ → (ℕ → ℕ) → ℕ → ℕ
with_number n m r k = cond (k == n) m (r k)

pub number_new : (n m : ℕ) (r : ℕ → ℕ) → with_number n m r n ≡ m
number_new n m r = ap (λ b. cond b m (r n)) (eq-eqb n n refl)

pub number_old : (n m : ℕ) (r : ℕ → ℕ) (k : ℕ) → k < n → with_number n m r k ≡ r k
number_old n m r k l = ap (λ b. cond b m (r k)) (ne_eqb k n (omega arith))

-- an opening that names an open node and a hub that is there names older numbers alone
pub near_open : (r q : ℕ → ℕ) (h : List Event) (place : Place) (kind : Kind) → ((k : ℕ) → k < length h → q k ≡ r k) → NamesOpen h (Open place kind) →
    ((g : ℕ) → kind ≡ Sub g → at makes_hub h g ≡ true) → event_by q (Open place kind) ≡ event_by r (Open place kind)
near_open r q h place kind same names hubs = λ i. Open (place_same place names i) (kind_same kind hubs i) where
  place_same : (p : Place) → NamesOpen h (Open p kind) → place_by q p ≡ place_by r p
  place_same Root names = refl
  place_same (Source p) names = ap Source (same p (is_open_within h p (names p refl)))
  place_same (Inner p) names = ap Inner (same p (is_open_within h p (names p refl)))
  place_same (Notifier p) names = ap Notifier (same p (is_open_within h p (names p refl)))

  kind_same : (k : Kind) → ((g : ℕ) → k ≡ Sub g → at makes_hub h g ≡ true) → kind_by q k ≡ kind_by r k
  kind_same (Sub g) hubs = ap Sub (same g (at_within makes_hub h g (hubs g refl)))
  kind_same _ hubs = refl

-- and reads back as itself
pub open_undone : {r s : ℕ → ℕ} {h c : List Event} → IsTreeRead r s h c → (place : Place) (kind : Kind) → NamesOpen h (Open place kind) →
    ((g : ℕ) → kind ≡ Sub g → at makes_hub h g ≡ true) → event_by s (event_by r (Open place kind)) ≡ Open place kind
open_undone {r} {s} {h} there place kind names hubs = λ i. Open (place_undone place names i) (kind_undone kind hubs i) where
  place_undone : (p : Place) → NamesOpen h (Open p kind) → place_by s (place_by r p) ≡ p
  place_undone x0 names = search rules

  kind_undone : (k : Kind) → ((g : ℕ) → k ≡ Sub g → at makes_hub h g ≡ true) → kind_by s (kind_by r k) ≡ k
  kind_undone (Sub g) hubs = let hub = hub_made h g (hubs g refl) in ap Sub (there.hub_undone g hub.0 hub.1)
  kind_undone _ hubs = refl

pub may_hub : (base : Kept) → {h : List Event} {place : Place} {kind : Kind} → MayFollow base h (Open place kind) → (g : ℕ) → kind ≡ Sub g →
    at makes_hub h g ≡ true
may_hub base {h} {place} next g is = (may_subscribe base (subst (λ (k : Kind). MayFollow base h (Open place k)) is next)).0

-- an event that may follow names older numbers alone
pub event_by_below : (base : Kept) → (r q : ℕ → ℕ) (h : List Event) (e : Event) → ((k : ℕ) → k < length h → q k ≡ r k) → MayFollow base h e →
    makes_node e ≡ true → event_by q e ≡ event_by r e
event_by_below base r q h (Open place kind) same next node = near_open r q h place kind same (λ p named. may_name base next named) (may_hub base next)
event_by_below base r q h (Connect g) same next node = ap Connect (same g (at_within makes_hub h g (may_connect_hub base next)))
event_by_below base r q h _ same next node = absurd (false≢true node)

-- and so does an event that stands in a lawful history
place_below : {base : Kept} → (r q : ℕ → ℕ) (h : List Event) (n : ℕ) {p : Place} {kind : Kind} → Started base → ((k : ℕ) → k < length h → q k ≡ r k) →
    n < length h → slice_get (shown base) n ≡ Some (Open p kind) → place_by q p ≡ place_by r p
place_below {base} r q h n {p} {kind} started same l found = search (rules, take, is_open_within, slice_get_within, length-take-le, slice_get)

pub names_below : {base : Kept} → (r q : ℕ → ℕ) {h : List Event} (n : ℕ) (e : Event) → IsLawful base h → ((k : ℕ) → k < length h → q k ≡ r k) →
    slice_get h n ≡ Some e → makes_node e ≡ true → event_by q e ≡ event_by r e
names_below {base} r q {h} n e law same at_n node = by_case (found_at base h law n e at_n) where
  l : n < length h
  l = slice_get_within h n e at_n

  short : length (take n h) ≡ n
  short = length-take-le n h (let w = l in omega arith)

  hub_near : (g : ℕ) → n < length (shown base) → at makes_hub (take n (shown base)) g ≡ true → q g ≡ r g
  hub_near g s hub =
      same g (let w = at_within makes_hub (take n (shown base)) g hub in let t = length-take-le n (shown base) (omega arith) in let x = l in omega arith)

  kind_below : (p : Place) (k : Kind) → slice_get (shown base) n ≡ Some (Open p k) → kind_by q k ≡ kind_by r k
  kind_below p (Sub g) found = ap Sub (hub_near g (slice_get_within (shown base) n _ found) (law.started.hubbed n p (Sub g) found).0)
  kind_below p _ found = refl

  by_base : (x : Event) → slice_get (shown base) n ≡ Some x → makes_node x ≡ true → event_by q x ≡ event_by r x
  by_base (Open p kind) found made = λ i. Open (place_below r q h n law.started same l found i) (kind_below p kind found i)
  by_base (Connect g) found made = ap Connect (hub_near g (slice_get_within (shown base) n _ found) (law.started.connects n g found))
  by_base _ found made = absurd (false≢true made)

  by_case : FoundAt base h n e → event_by q e ≡ event_by r e
  by_case (in_base found front) = by_base e found node
  by_case (since_base next) = event_by_below base r q (take n h) e (λ k j. same k (let w = l in let t = short in omega arith)) next node
