-- What is promised of the debt.
use Rattle.std.specs.Prelude.{◌≡◌, ◌+◌, ◌≤◌, ◌∷◌, ◌++◌}
use Rattle.rx_event.specs.Claims.Imports.{ℕ, ℤ, false, List, [], count_by, Terminal, Root, Source, Inner, Notifier, Kind, Mode}
use Rattle.rx_event.specs.Claims.Imports.{Event, Open, Hub, Connect, Accept, Use, Remove, Lease, Return, Item, Decline, End, Close, Take, Kept, is_switch, at}
use Rattle.rx_event.specs.Claims.Imports.{stops, is_projection, open_count, owned_count, held_count, lease_count, waiting_count, owed_count, debt, MayFollow}
use Rattle.rx_event.specs.Claims.Imports.{IsLawful}

-- the debt after one more event
pub record DebtChanges (base : Kept) : Type 0 where
  -- twice what is owned and once what is held by leases alone: once what is owned, and once what is held
  pub counts : (h : List Event) →
      debt base h ≡ open_count h + owned_count h + held_count h + waiting_count h + lease_count h + owed_count base h
  pub root : (h : List Event) (kind : Kind) → IsLawful base h → MayFollow base h (Open Root kind) →
      debt base (h ++ Open Root kind ∷ []) ≡ debt base h + 1
  pub source : (h : List Event) (p : ℕ) (kind : Kind) → IsLawful base h → MayFollow base h (Open (Source p) kind) →
      debt base (h ++ Open (Source p) kind ∷ []) ≡ debt base h + 1
  pub notifier : (h : List Event) (p : ℕ) (kind : Kind) → IsLawful base h → MayFollow base h (Open (Notifier p) kind) →
      debt base (h ++ Open (Notifier p) kind ∷ []) ≡ debt base h + 1
  pub flat_inner : (h : List Event) (f : ℕ) (kind : Kind) → IsLawful base h → MayFollow base h (Open (Inner f) kind) →
      at is_switch h f ≡ false → debt base (h ++ Open (Inner f) kind ∷ []) ≡ debt base h
  pub inner : (h : List Event) (f : ℕ) (kind : Kind) → IsLawful base h → MayFollow base h (Open (Inner f) kind) →
      debt base (h ++ Open (Inner f) kind ∷ []) ≤ debt base h
  pub hub : (h : List Event) (mode : Mode) → IsLawful base h → MayFollow base h (Hub mode) → debt base (h ++ Hub mode ∷ []) ≡ debt base h
  pub connected : (h : List Event) (g : ℕ) → IsLawful base h → MayFollow base h (Connect g) →
      debt base (h ++ Connect g ∷ []) ≡ debt base h + 1
  pub accepted : (h : List Event) (n tag : ℕ) → IsLawful base h → MayFollow base h (Accept n tag) →
      debt base (h ++ Accept n tag ∷ []) ≡ debt base h + 2
  pub used : (h : List Event) (r : ℕ) → IsLawful base h → MayFollow base h (Use r) → debt base (h ++ Use r ∷ []) ≡ debt base h
  pub removed : (h : List Event) (r : ℕ) → IsLawful base h → MayFollow base h (Remove r) → debt base (h ++ Remove r ∷ []) + 1 ≡ debt base h
  pub leased : (h : List Event) (r : ℕ) → IsLawful base h → MayFollow base h (Lease r) → debt base (h ++ Lease r ∷ []) ≡ debt base h + 1
  pub returned : (h : List Event) (l : ℕ) → IsLawful base h → MayFollow base h (Return l) →
      debt base (h ++ Return l ∷ []) + 1 ≡ debt base h
  pub item : (h : List Event) (l : ℕ) (value : ℤ) → IsLawful base h → MayFollow base h (Item l value) →
      debt base (h ++ Item l value ∷ []) ≡ debt base h + count_by is_projection (stops h l)
  pub declined : (h : List Event) (f : ℕ) → IsLawful base h → MayFollow base h (Decline f) →
      debt base (h ++ Decline f ∷ []) + 1 ≡ debt base h
  pub ended : (h : List Event) (c : ℕ) (t : Terminal) → IsLawful base h → MayFollow base h (End c t) →
      debt base (h ++ End c t ∷ []) + 1 ≤ debt base h
  pub closed : (h : List Event) (c : ℕ) → IsLawful base h → MayFollow base h (Close c) → debt base (h ++ Close c ∷ []) + 1 ≤ debt base h
  pub taken : (h : List Event) (r : ℕ) → IsLawful base h → MayFollow base h (Take r) → debt base (h ++ Take r ∷ []) + 1 ≡ debt base h
