-- A history without some of its events: those that stay, by the numbers that are then theirs.
use Rattle.std.specs.Prelude.{◌≡◌, ◌==◌, ◌||◌, ◌<◌, ◌≤◌, ◌∷◌, if◌then◌else◌}
use Rattle.rx_omitted.specs.Imports.{ℕ, zero, suc, Bool, true, false, ℤ, List, [], Some, slice_get, take, IsTrue, list_any, list_all, Terminal, Root, Leaf}
use Rattle.rx_omitted.specs.Imports.{Event, Open, Accept, Item, End, Close}
use Rattle.rx_event.specs.Kept.{Kept, shown}
use Rattle.rx_event.specs.Tree.{at}
use Rattle.rx_event.specs.Climb.{Stop, Delivery, Projection, Firing, stops}
use Rattle.rx_event.specs.Renumbered.{event_by}

-- how many places before this one stay: its number then
abbrev pub number : (ℕ → Bool) → ℕ → ℕ
number omit zero = zero
number omit (suc n) = if omit n then number omit n else suc (number omit n)

-- what stays of these events, the first of which stands at this place
abbrev pub staying : (ℕ → Bool) → ℕ → List Event → List Event
staying omit place [] = []
staying omit place (e ∷ rest) = if omit place then staying omit (suc place) rest else (event_by (number omit) e ∷ staying omit (suc place) rest)

abbrev pub what_stays : (ℕ → Bool) → List Event → List Event
what_stays omit h = staying omit 0 h

-- what may be left out -----------------------------------------------------------------------------------

abbrev pub is_delivery : Stop → Bool
is_delivery (Delivery n) = true
is_delivery (Projection f) = false
is_delivery (Firing u) = false

abbrev pub node_of_stop : Stop → ℕ
node_of_stop (Delivery n) = n
node_of_stop (Projection f) = f
node_of_stop (Firing u) = u

-- one of these stops is at n
abbrev pub reaches : ℕ → List Stop → Bool
reaches n ss = list_any (λ s. node_of_stop s == n) ss

-- the event at this place needs no engine: an item that is only heard, or what befalls a root that is a leaf
pub data NeedsNone (omit : ℕ → Bool) (h : List Event) (place : ℕ) : Event → Type 0 where
  only_heard : {leaf : ℕ} {value : ℤ} → IsTrue (list_all is_delivery (stops (take place h) leaf)) → NeedsNone omit h place (Item leaf value)
  lone_leaf : NeedsNone omit h place (Open Root Leaf)
  lone_end : {n : ℕ} {t : Terminal} → IsTrue (omit n) → NeedsNone omit h place (End n t)
  lone_close : {n : ℕ} → IsTrue (omit n) → NeedsNone omit h place (Close n)

-- the event is an item of n, its end or its closing
abbrev pub befalls : ℕ → Event → Bool
befalls n (Item leaf value) = leaf == n
befalls n (End m t) = m == n
befalls n (Close m) = m == n
befalls n _ = false

-- what may be left out of h: nothing that the base shows, and what needs no engine; a leaf only if it holds nothing, and all that befalls it
pub record MayOmit (base : Kept) (omit : ℕ → Bool) (h : List Event) : Type 0 where
  pub since : (n : ℕ) → n < base.at_length → omit n ≡ false
  pub each : (n : ℕ) (e : Event) → slice_get h n ≡ Some e → IsTrue (omit n) → NeedsNone omit h n e
  pub holds_none : (r n tag : ℕ) → slice_get h r ≡ Some (Accept n tag) → omit n ≡ false
  pub whole : (i n : ℕ) (e : Event) → slice_get h i ≡ Some e → IsTrue (befalls n e) → IsTrue (omit n) → IsTrue (omit i)

-- where the base shows nothing it reads as the place's own closing: so it does in each base that a checkpoint makes, and in the empty one
abbrev pub HasOwnPlaces : Kept → Type 0
HasOwnPlaces base = (n m : ℕ) → slice_get (shown base) n ≡ Some (Close m) → m ≡ n

-- an item that is only heard
pub record IsOnlyHeard (base : Kept) (h : List Event) (k : ℕ) : Type 0 where
  pub since : base.at_length ≤ k
  pub leaf : ℕ
  pub value : ℤ
  pub item : slice_get h k ≡ Some (Item leaf value)
  pub heard : IsTrue (list_all is_delivery (stops (take k h) leaf))

-- a root that is a leaf alone
pub record IsLoneLeaf (base : Kept) (h : List Event) (n : ℕ) : Type 0 where
  pub since : base.at_length ≤ n
  pub opened : slice_get h n ≡ Some (Open Root Leaf)
  pub holds_none : (r tag : ℕ) → ¬ (slice_get h r ≡ Some (Accept n tag))

abbrev pub is_at : ℕ → ℕ → Bool
is_at k n = n == k

-- its opening, and all that befalls it
abbrev pub is_of_leaf : List Event → ℕ → ℕ → Bool
is_of_leaf h n i = (i == n) || at (befalls n) h i
