-- What is promised of marks.
use Rattle.std.specs.Prelude.{◌≡◌, ◌<◌, ◌∷◌, ◌++◌}
use Rattle.rx_event.specs.Claims.Imports.{ℕ, ℤ, true, false, Some, None, List, [], length, slice_get, IsTrue, Terminal, Source, Inner}
use Rattle.rx_event.specs.Claims.Imports.{Notifier, Kind, Event, Open, Item, Decline, End, Close, Kept, is_merging, is_switch, is_source_of, is_inner_of, at}
use Rattle.rx_event.specs.Claims.Imports.{parent, is_open, stops, SourceEnded, IsDue, IsConnected, IsSettled, marks_of, blank_marks, due_at, touches}
use Rattle.rx_event.specs.Claims.Imports.{after_source, after_notifier, after_inner, after_decline, after_child, after_stops, MayFollow, IsLawful}
use Rattle.rx_event.specs.Claims.Nodes.{IsOpenInner}

-- what is due at an open node is what its marks say, but for what hubs force
pub record MarksSayWhatIsDue (base : Kept) : Type 0 where
  pub due : (h : List Event) (n : ℕ) (made e : Event) → IsTrue (is_open h n) → slice_get h n ≡ Some made →
      due_at made (marks_of base h n) n ≡ Some e → IsDue base h e
  -- where they say nothing, only the end of a connection ends the node
  pub none : (h : List Event) (n : ℕ) (made : Event) (t : Terminal) → slice_get h n ≡ Some made →
      due_at made (marks_of base h n) n ≡ None → IsDue base h (End n t) → SourceEnded h n t
  -- all that is due to end in a lawful history ends in one way, so what is due at a node is just what its marks say
  pub one : (h : List Event) → IsLawful base h → (n m : ℕ) (t u : Terminal) → IsDue base h (End n t) → IsDue base h (End m u) → t ≡ u
  pub exactly : {h : List Event} → IsLawful base h → {n : ℕ} {made : Event} {t : Terminal} → IsTrue (is_open h n) →
      slice_get h n ≡ Some made → ¬ SourceEnded h n t → IsDue base h (End n t) →
      due_at made (marks_of base h n) n ≡ Some (End n t)
  -- so a history is settled where no hub's rule is left undone and no marks of an open node say anything, and only there
  pub settled : (h : List Event) → IsConnected h →
      ((n : ℕ) (t : Terminal) → IsTrue (is_open h n) → ¬ SourceEnded h n t) → ((c : ℕ) → ¬ IsDue base h (Close c)) →
      ((n : ℕ) (made : Event) → IsTrue (is_open h n) → slice_get h n ≡ Some made → due_at made (marks_of base h n) n ≡ None) →
      IsSettled base h
  pub quiet : (h : List Event) → IsSettled base h → (n : ℕ) (made : Event) → IsTrue (is_open h n) →
      slice_get h n ≡ Some made → due_at made (marks_of base h n) n ≡ None

-- the marks after one more event
pub record MarkChanges (base : Kept) : Type 0 where
  pub made : (h : List Event) (e : Event) → IsLawful base h → MayFollow base h e → marks_of base (h ++ e ∷ []) (length h) ≡ blank_marks
  -- of a node that stays open and is not touched they stay
  pub untouched : (h : List Event) (e : Event) → IsLawful base h → MayFollow base h e → (n : ℕ) → n < length h →
      IsTrue (is_open (h ++ e ∷ []) n) → touches h n e ≡ false → marks_of base (h ++ e ∷ []) n ≡ marks_of base h n
  pub source : (h : List Event) (p : ℕ) (kind : Kind) → IsLawful base h → MayFollow base h (Open (Source p) kind) →
      marks_of base (h ++ Open (Source p) kind ∷ []) p ≡ after_source (marks_of base h p)
  pub notifier : (h : List Event) (p : ℕ) (kind : Kind) → IsLawful base h → MayFollow base h (Open (Notifier p) kind) →
      marks_of base (h ++ Open (Notifier p) kind ∷ []) p ≡ after_notifier (marks_of base h p)
  -- an inner observable of a FlatMap, the first of a Switch, and one in the place of another
  pub flat_inner : (h : List Event) (f : ℕ) (kind : Kind) → IsLawful base h → MayFollow base h (Open (Inner f) kind) →
      at is_switch h f ≡ false → marks_of base (h ++ Open (Inner f) kind ∷ []) f ≡ after_inner false (marks_of base h f)
  pub first_inner : (h : List Event) (f : ℕ) (kind : Kind) → IsLawful base h → MayFollow base h (Open (Inner f) kind) →
      ((k : ℕ) → IsTrue (at (is_inner_of f) h k) → is_open h k ≡ false) →
      marks_of base (h ++ Open (Inner f) kind ∷ []) f ≡ after_inner false (marks_of base h f)
  pub next_inner : {h : List Event} {f old : ℕ} {kind : Kind} → IsLawful base h → MayFollow base h (Open (Inner f) kind) →
      IsOpenInner h f old →
      marks_of base (h ++ Open (Inner f) kind ∷ []) f ≡ after_inner true (marks_of base h f)
  pub item : (h : List Event) (leaf : ℕ) (value : ℤ) → IsLawful base h → MayFollow base h (Item leaf value) → (n : ℕ) →
      n < length h → marks_of base (h ++ Item leaf value ∷ []) n ≡ after_stops n (stops h leaf) (marks_of base h n)
  pub declined : (h : List Event) (f : ℕ) → IsLawful base h → MayFollow base h (Decline f) →
      marks_of base (h ++ Decline f ∷ []) f ≡ after_decline (marks_of base h f)
  pub ended : {h : List Event} {c p : ℕ} {made above : Event} {t : Terminal} → IsLawful base h → MayFollow base h (End c t) →
      parent h c ≡ Some p → slice_get h c ≡ Some made → slice_get h p ≡ Some above →
      marks_of base (h ++ End c t ∷ []) p ≡ after_child (is_source_of p made) (is_merging above) t (marks_of base h p)
  -- what is closed stands below nothing that stays open
  pub closed : (h : List Event) (c : ℕ) → IsLawful base h → MayFollow base h (Close c) → (n : ℕ) →
      IsTrue (is_open (h ++ Close c ∷ []) n) → marks_of base (h ++ Close c ∷ []) n ≡ marks_of base h n
