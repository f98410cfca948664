-- What is promised of nodes.
use Rattle.std.specs.Prelude.{◌≡◌, ◌<◌, ◌&&◌, ◌∷◌, ◌++◌}
use Rattle.rx_event.specs.Claims.Imports.{ℕ, false, Some, List, [], length, slice_get, IsTrue, not, Terminal, Source, Inner}
use Rattle.rx_event.specs.Claims.Imports.{Notifier, Kind, Event, Open, Connect, End, Close, Kept, makes_node, has_source, is_merging, is_until, is_switch}
use Rattle.rx_event.specs.Claims.Imports.{is_inner_of, at, parent, is_within, is_open, shuts, MayFollow, IsLawful}

-- a node below one that is not open is not open; and a node that is not open stays so under any further event
pub record ClosedStaysClosed : Type 0 where
  pub below : (h : List Event) (n p : ℕ) → parent h n ≡ Some p → is_open h p ≡ false → is_open h n ≡ false
  pub stays : (h : List Event) (e : Event) (n : ℕ) → n < length h → is_open h n ≡ false →
      is_open (h ++ e ∷ []) n ≡ false
  pub stays_after : (h further : List Event) (n : ℕ) → n < length h → is_open h n ≡ false →
      is_open (h ++ further) n ≡ false

-- f is a Switch, and c is an open inner of it
pub record IsOpenInner (h : List Event) (f c : ℕ) : Type 0 where
  pub switch : IsTrue (at is_switch h f)
  pub inner : IsTrue (at (is_inner_of f) h c)
  pub alive : IsTrue (is_open h c)

-- two open inners of one Switch are the same (Switch: it mirrors the latest inner alone)
pub record OneOpenInner (base : Kept) : Type 0 where
  pub same : {h : List Event} → IsLawful base h → {f a b : ℕ} → IsOpenInner h f a → IsOpenInner h f b → a ≡ b

-- which nodes are open after one more event
pub record NodeChanges (base : Kept) : Type 0 where
  -- the node that it makes, and no other new one
  pub made : (h : List Event) (e : Event) → MayFollow base h e → is_open (h ++ e ∷ []) (length h) ≡ makes_node e
  -- an end and a closing: not that node, and not what stands below it
  pub ended : (h : List Event) (c : ℕ) (t : Terminal) (n : ℕ) →
      is_open (h ++ End c t ∷ []) n ≡ (is_open h n && not (is_within h c n))
  pub closed : (h : List Event) (c : ℕ) (n : ℕ) → is_open (h ++ Close c ∷ []) n ≡ (is_open h n && not (is_within h c n))
  -- the opening of an inner of a Switch: not the other open inner, and not what stands below it
  pub exchanged : {h : List Event} → IsLawful base h → {f c : ℕ} → IsOpenInner h f c → (kind : Kind) (n : ℕ) → n < length h →
      is_open (h ++ Open (Inner f) kind ∷ []) n ≡ (is_open h n && not (is_within h c n))
  -- where no other inner is open, it closes nothing
  pub first_inner : (h : List Event) (f : ℕ) (kind : Kind) →
      ((c : ℕ) → IsTrue (at (is_inner_of f) h c) → is_open h c ≡ false) → (n : ℕ) → n < length h →
      is_open (h ++ Open (Inner f) kind ∷ []) n ≡ is_open h n
  -- nor does the opening of an inner of a FlatMap
  pub flat_inner : (h : List Event) (f : ℕ) (kind : Kind) → at is_switch h f ≡ false → (n : ℕ) → n < length h →
      is_open (h ++ Open (Inner f) kind ∷ []) n ≡ is_open h n
  -- nor any other event, which shuts no node
  pub kept : (h : List Event) (e : Event) → ((m : ℕ) → shuts h m e ≡ false) → (n : ℕ) → n < length h →
      is_open (h ++ e ∷ []) n ≡ is_open h n

-- where nodes stand
pub record NodesPlaced (base : Kept) : Type 0 where
  -- a node is open only below a node: its parent is one
  pub parent : (h : List Event) → IsLawful base h → (n p : ℕ) → parent h n ≡ Some p → IsTrue (at makes_node h p)
  -- a source below what has a place for one, an inner observable below a FlatMap or Switch, a notifier below a TakeUntil
  pub source : (h : List Event) → IsLawful base h → (n p : ℕ) (kind : Kind) → slice_get h n ≡ Some (Open (Source p) kind) →
      IsTrue (at has_source h p)
  pub inner : (h : List Event) → IsLawful base h → (n p : ℕ) (kind : Kind) → slice_get h n ≡ Some (Open (Inner p) kind) →
      IsTrue (at is_merging h p)
  pub notifier : (h : List Event) → IsLawful base h → (n p : ℕ) (kind : Kind) →
      slice_get h n ≡ Some (Open (Notifier p) kind) → IsTrue (at is_until h p)
  -- a connection topmost: whatever else a node stands below stands below the connection
  pub topmost : (h : List Event) (c g n : ℕ) → slice_get h c ≡ Some (Connect g) → IsTrue (is_within h c n) → (a : ℕ) →
      IsTrue (is_within h a n) → IsTrue (is_within h c a)
