-- What is promised of connections, one event after the other: by which of them all is told, and what each event changes.
use Rattle.std.specs.Prelude.{◌≡◌, ◌↔◌, ◌⊎◌, ◌<◌, ◌≤◌, ◌&&◌, ◌∷◌, ◌++◌, if◌then◌else◌}
use Rattle.rx_event.specs.Claims.Imports.{ℕ, zero, suc, Bool, false, Some, List, [], length, slice_get, sum_by}
use Rattle.rx_event.specs.Claims.Imports.{IsTrue, Terminal, Event, Connect, End, Close, Kept, is_connect_of, is_subscriber_of, hub_subscribed}
use Rattle.rx_event.specs.Claims.Imports.{at, is_open, open_subscribers, SourceEnded, IsDue, IsConnectDue, MayFollow, IsLawful}

-- the event at the place ends a connection of g so
pub record EndsConnection (h : List Event) (g place : ℕ) (t : Terminal) : Type 0 where
  pub connection : ℕ
  pub connects : slice_get h connection ≡ Some (Connect g)
  pub ended : slice_get h place ≡ Some (End connection t)

-- and no later one ends a connection of g
pub record EndsLast (h : List Event) (g place : ℕ) (t : Terminal) : Type 0 where
  pub ends : EndsConnection h g place t
  pub last : (i : ℕ) (u : Terminal) → EndsConnection h g i u → i ≤ place

-- why a connection is due to be closed after the event: it was before, a subscriber has gone, or it is new
pub data HowLeft (b : Kept) (h : List Event) (e : Event) (c : ℕ) : Type 0 where
  left_before : IsDue b h (Close c) → HowLeft b h e c
  subscriber_gone : (g s : ℕ) → slice_get h c ≡ Some (Connect g) → IsTrue (at (is_subscriber_of g) h s) → IsTrue (is_open h s) →
      is_open (h ++ e ∷ []) s ≡ false → HowLeft b h e c
  connected_now : (g : ℕ) → e ≡ Connect g → c ≡ length h → HowLeft b h e c

-- the event ends a connection of the hub of s so
pub record EndsSource (h : List Event) (e : Event) (s : ℕ) (t : Terminal) : Type 0 where
  pub hub : ℕ
  pub connection : ℕ
  pub subscribes : IsTrue (at (is_subscriber_of hub) h s)
  pub connects : slice_get h connection ≡ Some (Connect hub)
  pub ends : e ≡ End connection t

-- the last connection of a hub and its last end tell all others
pub record LastConnectionTells (base : Kept) : Type 0 where
  -- what is open is the last one
  pub last : (h : List Event) → IsLawful base h → (g c d : ℕ) → IsTrue (at (is_connect_of g) h c) → IsTrue (is_open h c) →
      IsTrue (at (is_connect_of g) h d) → d ≤ c
  -- an open subscriber is cut by the last end, where that stands after it, and by no other
  pub cut : {h : List Event} → IsLawful base h → {g place : ℕ} {t : Terminal} → EndsLast h g place t → (s : ℕ) (u : Terminal) →
      IsTrue (at (is_subscriber_of g) h s) → IsTrue (is_open h s) → SourceEnded h s u ↔ ((s < place) × (u ≡ t))

-- what an event changes of who is cut, who waits and which connection nobody uses
pub record ConnectionChanges (base : Kept) : Type 0 where
  pub cut : (h : List Event) (e : Event) → IsLawful base h → MayFollow base h e → (s : ℕ) (t : Terminal) →
      SourceEnded (h ++ e ∷ []) s t → SourceEnded h s t ⊎ EndsSource h e s t
  -- what waits is the hub of the new subscriber, or waited before
  pub waits : (h : List Event) (e : Event) → IsLawful base h → MayFollow base h e → (g : ℕ) →
      IsConnectDue (h ++ e ∷ []) g → IsConnectDue h g ⊎ (hub_subscribed e ≡ Some g)
  pub left : (h : List Event) (e : Event) → IsLawful base h → MayFollow base h e → (c : ℕ) →
      IsDue base (h ++ e ∷ []) (Close c) → HowLeft base h e c

-- the numbers below the bound that pass the test, falling
abbrev pub falling : (ℕ → Bool) → ℕ → List ℕ
falling passes zero = []
falling passes (suc n) = if passes n then n ∷ falling passes n else falling passes n

-- the open subscribers of a hub may be gone over from the last to the first
pub record SubscribersFall : Type 0 where
  pub sums : (h : List Event) (g : ℕ) (number : ℕ → ℕ) →
      sum_by number (falling (λ n. at (is_subscriber_of g) h n && is_open h n) (length h)) ≡ sum_by number (open_subscribers h g)
