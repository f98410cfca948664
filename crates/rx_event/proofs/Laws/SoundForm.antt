-- What a stored history is, in the words that its laws need: b is the base, h the list that it reads as.
use Rattle.rx_event.proofs.Laws.Common.{◌≡◌, ℕ, ◌<◌, Some, List, slice_get, Source, Inner, Notifier, Event, Open, Connect, makes_hub, has_source, is_merging}
use Rattle.rx_event.proofs.Laws.Common.{is_until, is_switch, is_inner_of, parent_named, at, is_open, is_owned, accepted_by, Kept, IsTrue, IsHubbed}

-- two open inners of one Switch
pub record TwoOpenInners (h : List Event) (f a b : ℕ) : Type 0 where
  pub switch : IsTrue (at is_switch h f)
  pub one : IsTrue (at (is_inner_of f) h a)
  pub one_open : IsTrue (is_open h a)
  pub other : IsTrue (at (is_inner_of f) h b)
  pub other_open : IsTrue (is_open h b)

-- what the event makes stands where it may
abbrev pub StandsWell : List Event → Event → Type 0
StandsWell h (Open (Source p) kind) = IsTrue (at has_source h p)
StandsWell h (Open (Inner p) kind) = IsTrue (at is_merging h p)
StandsWell h (Open (Notifier p) kind) = IsTrue (at is_until h p)
StandsWell h (Connect g) = IsTrue (at makes_hub h g)
StandsWell h _ = Unit {0}

-- and its hub is there, and in order
abbrev pub SubscribesWell : List Event → Event → Type 0
SubscribesWell h (Open place kind) = IsHubbed h place kind
SubscribesWell h _ = Unit {0}

pub record Sound (b : Kept) (h : List Event) : Type 0 where
  -- each event names a parent before it, and stands where it may
  pub below : (n m : ℕ) (e : Event) → slice_get h n ≡ Some e → parent_named e ≡ Some m → m < n
  pub stands : (n : ℕ) (e : Event) → slice_get h n ≡ Some e → StandsWell h e
  pub subscribes : (n : ℕ) (e : Event) → slice_get h n ≡ Some e → SubscribesWell h e
  pub one_inner : (f x y : ℕ) → TwoOpenInners h f x y → x ≡ y
  -- an owned resource reads as what accepted it
  pub accepted : (r : ℕ) → IsTrue (is_owned h r) → accepted_by b h r ≡ slice_get h r
