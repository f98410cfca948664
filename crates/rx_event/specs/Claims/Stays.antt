-- What is promised of what stays open through what is forced, and of events that force nothing.
use Rattle.std.specs.Prelude.{◌≡◌, ◌∷◌, ◌++◌}
use Rattle.rx_event.specs.Claims.Imports.{ℕ, Bool, true, false, Some, None, List, [], length, slice_get, IsTrue, list_any, Terminal, Place}
use Rattle.rx_event.specs.Claims.Imports.{Kind, Pass, Sub, Event, Open, Connect, Accept, Decline, End, Kept, hub_subscribed, is_open, is_firing_of, stops_of}
use Rattle.rx_event.specs.Claims.Imports.{marks_of, due_at, IsDue, IsForced, IsSettled, MayFollow, IsLawful, IsForcedOn}

-- the event ends a node, or declines what a FlatMap or Switch owes
abbrev pub ends_or_declines : Event → Bool
ends_or_declines (End n t) = true
ends_or_declines (Decline f) = true
ends_or_declines _ = false

-- it fires no TakeUntil
abbrev pub FiresNone : List Event → Event → Type 0
FiresNone h e = (u : ℕ) → list_any (is_firing_of u) (stops_of h e) ≡ false

-- all that was open is open after it
abbrev pub ClosesNone : List Event → Event → Type 0
ClosesNone h e = (n : ℕ) → IsTrue (is_open h n) → IsTrue (is_open (h ++ e ∷ []) n)

-- what a subscriber of g leaves to be done: nothing, or just that g is connected, and after that nothing
pub data ConnectsAtMost (base : Kept) (h : List Event) (g : ℕ) : Type 0 where
  is_done : IsSettled base h → ConnectsAtMost base h g
  is_waiting_for : IsForced base h (Connect g) → ((e : Event) → IsForced base h e → e ≡ Connect g) →
      IsSettled base (h ++ Connect g ∷ []) → ConnectsAtMost base h g

-- an event that ends and declines nothing and fires none leaves little to be done
pub record CalmForcesLittle (base : Kept) : Type 0 where
  -- it makes no node due to end
  pub ended : {h : List Event} {e : Event} → IsLawful base h → MayFollow base h e → ends_or_declines e ≡ false → FiresNone h e →
      {n : ℕ} {t : Terminal} → IsDue base (h ++ e ∷ []) (End n t) → IsDue base h (End n t)
  -- so no marks of an open node give an event
  pub quiet : {h : List Event} {e : Event} → IsLawful base h → MayFollow base h e → IsSettled base h → ends_or_declines e ≡ false →
      FiresNone h e → (n : ℕ) {made : Event} → IsTrue (is_open (h ++ e ∷ []) n) →
      slice_get (h ++ e ∷ []) n ≡ Some made → due_at made (marks_of base (h ++ e ∷ []) n) n ≡ None
  -- where it closes nothing and subscribes to no hub either, nothing is left to be done
  pub settled : {h : List Event} {e : Event} → IsLawful base h → MayFollow base h e → IsSettled base h → ends_or_declines e ≡ false →
      FiresNone h e → ClosesNone h e → hub_subscribed e ≡ None → IsSettled base (h ++ e ∷ [])
  -- and after a subscriber the connection of its hub alone
  pub subscribed : {h : List Event} {place : Place} {g : ℕ} → IsLawful base h → MayFollow base h (Open place (Sub g)) →
      ClosesNone h (Open place (Sub g)) → ConnectsAtMost base (h ++ Open place (Sub g) ∷ []) g

-- what a caller opens stays open through all that is forced after it
pub record OpenedStays (base : Kept) : Type 0 where
  -- also what takes the place of a Switch's open inner
  pub opened : (h k : List Event) (place : Place) (kind : Kind) → IsLawful base h → MayFollow base h (Open place kind) →
      IsForcedOn base (h ++ Open place kind ∷ []) k → IsTrue (is_open k (length h))
  -- with its resource (Using)
  pub opened_using : (h k : List Event) (place : Place) (tag : ℕ) → IsLawful base h → MayFollow base h (Open place Pass) →
      IsForcedOn base (h ++ Open place Pass ∷ Accept (length h) tag ∷ []) k → IsTrue (is_open k (length h))
  -- a connection
  pub connected : (h k : List Event) (g : ℕ) → IsLawful base h → IsSettled base h → MayFollow base h (Connect g) →
      IsForcedOn base (h ++ Connect g ∷ []) k → IsTrue (is_open k (length h))
  -- and so does the node at which it hands in a resource
  pub accepted : (h k : List Event) (n tag : ℕ) → IsLawful base h → MayFollow base h (Accept n tag) →
      IsForcedOn base (h ++ Accept n tag ∷ []) k → IsTrue (is_open k n)
