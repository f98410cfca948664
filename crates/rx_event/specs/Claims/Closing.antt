-- What is promised of closing everything: a caller unsubscribes its roots and disconnects what it connected, and the rest goes
-- by itself.
use Rattle.std.specs.Prelude.{◌≡◌, ◌+◌, ◌≤◌, ◌&&◌, ◌∷◌, ◌++◌}
use Rattle.rx_event.specs.Claims.Imports.{ℕ, Bool, false, Some, List, [], slice_get, count_by, IsTrue, not, list_all, Event}
use Rattle.rx_event.specs.Claims.Imports.{Connect, Close, Kept, makes_node, makes_hub, is_root, is_manual_hub, at, places, is_open, open_connections}
use Rattle.rx_event.specs.Claims.Imports.{open_count, IsSettled, IsForcedOn, IsLawful}

-- an open root
abbrev pub is_open_root : List Event → ℕ → Bool
is_open_root h n = is_open h n && at is_root h n

-- the event connects a hub that a caller connects
abbrev pub is_manual_connect : List Event → Event → Bool
is_manual_connect h (Connect g) = at is_manual_hub h g
is_manual_connect h _ = false

-- an open connection of such a hub
abbrev pub is_manual_connection : List Event → ℕ → Bool
is_manual_connection h c = is_open h c && at (is_manual_connect h) h c

abbrev pub open_root_count : List Event → ℕ
open_root_count h = count_by (is_open_root h) (places h)

abbrev pub manual_connection_count : List Event → ℕ
manual_connection_count h = count_by (is_manual_connection h) (places h)

-- a caller holds nothing open: no root is open, and no hub that a caller connects is connected
pub record IsLetGo (h : List Event) : Type 0 where
  pub unsubscribed : (n : ℕ) → is_open_root h n ≡ false
  pub disconnected : (g : ℕ) → IsTrue (at is_manual_hub h g) → open_connections h g ≡ []

-- then nothing is open, once nothing is forced (RefCount: it disconnects when the last observer unsubscribes)
pub record NothingStaysOpen (base : Kept) : Type 0 where
  pub none : (h : List Event) → IsLawful base h → IsSettled base h → IsLetGo h → (n : ℕ) → is_open h n ≡ false
  pub empty : (h : List Event) → IsLawful base h → IsSettled base h → IsLetGo h → open_count h ≡ 0
  pub counted : (h : List Event) → open_root_count h ≡ 0 → manual_connection_count h ≡ 0 → IsLetGo h

-- neither a node nor a hub
abbrev pub makes_neither : Event → Bool
makes_neither e = not (makes_node e) && not (makes_hub e)

-- the history goes on by events that make neither, and then by all that they force
pub record MakesNeither (base : Kept) (old new : List Event) : Type 0 where
  pub outside : List Event
  pub neither : IsTrue (list_all makes_neither outside)
  pub forced : IsForcedOn base (old ++ outside) new

-- this opens no root, and connects no hub that a caller connects
pub record NothingOpensAnew (base : Kept) : Type 0 where
  pub roots : (h k : List Event) → MakesNeither base h k → (n : ℕ) → IsTrue (is_open_root k n) → IsTrue (is_open_root h n)
  pub connections : (h k : List Event) → MakesNeither base h k → (c : ℕ) → IsTrue (is_manual_connection k c) →
      IsTrue (is_manual_connection h c)
  pub root_count : (h k : List Event) → MakesNeither base h k → open_root_count k ≤ open_root_count h
  pub connection_count : (h k : List Event) → MakesNeither base h k → manual_connection_count k ≤ manual_connection_count h
  pub unconnected : (h k : List Event) → MakesNeither base h k → (g : ℕ) → IsTrue (at is_manual_hub h g) →
      open_connections h g ≡ [] → open_connections k g ≡ []
  pub let_go : (h k : List Event) → MakesNeither base h k → IsLetGo h → IsLetGo k

-- and where a root or such a connection is closed there is one less at least
pub record ClosingLeavesLess (base : Kept) : Type 0 where
  pub root : (h k : List Event) (n : ℕ) → IsTrue (is_open_root h n) → IsForcedOn base (h ++ Close n ∷ []) k →
      open_root_count k + 1 ≤ open_root_count h
  pub connection : (h k : List Event) (c : ℕ) → IsTrue (is_manual_connection h c) →
      IsForcedOn base (h ++ Close c ∷ []) k → manual_connection_count k + 1 ≤ manual_connection_count h
  -- the hub is connected no more
  pub hub : {h k : List Event} {g : ℕ} (c : ℕ) → IsLawful base h → IsTrue (at is_manual_hub h g) → IsTrue (is_open h c) →
      slice_get h c ≡ Some (Connect g) → IsForcedOn base (h ++ Close c ∷ []) k → open_connections k g ≡ []
