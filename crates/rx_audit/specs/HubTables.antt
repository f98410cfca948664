-- What is kept of the hubs, and of the open subscribers of each. No public clause cites this module.
use Rattle.std.specs.Prelude.{◌≡◌, ◌&&◌, ◌||◌, slice_index_or, ◌<◌, ◌≤◌, if◌then◌else◌}
use Rattle.rx_audit.specs.Imports.{ℕ, zero, suc, Bool, false, Option, Some, None, List, length, slice_get, true, not, option_and_then, option_map_or}
use Rattle.rx_audit.specs.Imports.{Terminal, Event, Connect, End, Close, same_terminal, hubs, is_open, at, IsConnectDue, is_subscriber_of, is_root, sum_by}
use Rattle.rx_event.specs.Claims.Connections.{falling}
use Rattle.rx_audit.specs.declared.hubs.Hubs.{Hubs}
use Rattle.rx_audit.specs.Latest.{IsLatest, last_below, IsNoted}
use Rattle.rx_audit.specs.Marking.{forced_end}
use Rattle.rx_audit.specs.Rules.{hub_connected_at, hub_subscribed_at, hub_ended_at, is_disconnected, connect_due, any_connect_due, close_due}
use Rattle.rx_audit.specs.declared.subscribers.Subscribers.{Subscribers}

-- the lists lead from each hub to its last connection and to the last end of one, no hub but that one waits, and there are so many
pub record AreHubs (h : List Event) (size : ℕ) (known : Hubs) : Type 0 where
  pub connection : IsLatest known.connection.items (hub_connected_at h) (length h)
  pub connection_size : length known.connection.items ≡ size
  pub ended : IsLatest known.ended.items (hub_ended_at h) (length h)
  pub ended_size : length known.ended.items ≡ size
  pub waiting : (g : ℕ) → IsConnectDue h g → known.waiting ≡ Some g
  pub count : known.count ≡ length (hubs h)

abbrev pub terminal_of_end : Event → Option Terminal
terminal_of_end (End n t) = Some t
terminal_of_end _ = None

-- how the event that the word leads to ends a node
abbrev pub terminal_of_word : List Event → ℕ → Option Terminal
terminal_of_word h zero = None
terminal_of_word h (suc k) = option_and_then terminal_of_end (slice_get h k)

-- the last end of a connection of the hub of s, by these words, is so
abbrev pub ends_last_so : List Event → List ℕ → ℕ → Terminal → Bool
ends_last_so h ended s t =
    option_map_or (λ g. option_map_or (λ u. same_terminal u t) (terminal_of_word h (slice_index_or ended g 0)) false) (hub_subscribed_at h s) false

-- s is open, and its source ended so
unfoldable pub cut_so : List Event → List ℕ → ℕ → Terminal → Bool
cut_so h ended s t = is_open h s && is_disconnected h s && ends_last_so h ended s t

-- node n has to end so
unfoldable pub ends_now : List Event → List ℕ → ℕ → Terminal → Bool
ends_now h ended n t = forced_end h n t || cut_so h ended n t

-- the event has to come now
abbrev pub forced_now : List Event → List ℕ → Event → Bool
forced_now h ended (Connect g) = connect_due h g
forced_now h ended (End n t) = not (any_connect_due h) && ends_now h ended n t
forced_now h ended (Close c) = not (any_connect_due h) && close_due h c
forced_now h ended _ = false

-- the open subscribers of each hub, one after another ----------------------------------------

-- node k subscribes to hub g and has a mark
abbrev pub on_list : List Event → List Bool → ℕ → ℕ → Bool
on_list h marks g k = at (is_subscriber_of g) h k && slice_index_or marks k false

-- the word leads from k to the next number that passes: it is one more than that, and 0 where there is none
pub record IsNext (passes : ℕ → Bool) (k word : ℕ) : Type 0 where
  pub none : word ≡ 0 → (m : ℕ) → passes m ≡ true → m ≤ k
  pub some : (m : ℕ) → word ≡ suc m → (passes m ≡ true) × (last_below passes m ≡ suc k)

-- the words lead over all numbers that pass, from the last down and up again
pub record IsRow (passes : ℕ → Bool) (bound word : ℕ) (before after : List ℕ) : Type 0 where
  pub top : word ≡ last_below passes bound
  pub down : (k : ℕ) → passes k ≡ true → slice_index_or before k 0 ≡ last_below passes k
  pub up : (k : ℕ) → passes k ≡ true → IsNext passes k (slice_index_or after k 0)

-- the number that a word leads to
abbrev pub number_by_word : ℕ → Option ℕ
number_by_word zero = None
number_by_word (suc n) = Some n

-- the hub, where nothing follows
abbrev pub hub_if_last : ℕ → ℕ → Option ℕ
hub_if_last zero g = Some g
hub_if_last (suc n) g = None

-- each hub's list leads over its subscribers that have a mark, and they are counted
pub record AreLinked (h : List Event) (size : ℕ) (s : Subscribers) : Type 0 where
  pub rows : (g : ℕ) → IsRow (on_list h s.listed.items g) (length h) (slice_index_or s.last.items g 0) s.before.items s.after.items
  pub hubbed : (g k : ℕ) → on_list h s.listed.items g k ≡ true → g < size
  pub counted : (g : ℕ) → slice_index_or s.counts.items g 0 ≡ sum_by (λ k. 1) (falling (on_list h s.listed.items g) (length h))
  pub listed_size : length s.listed.items ≡ size
  pub last_size : length s.last.items ≡ size
  pub before_size : length s.before.items ≡ size
  pub after_size : length s.after.items ≡ size
  pub counts_size : length s.counts.items ≡ size

-- a subscriber has a mark where it is open, and only there
abbrev pub AreOpenListed : List Event → Subscribers → Type 0
AreOpenListed h s = (g k : ℕ) → at (is_subscriber_of g) h k ≡ true → slice_index_or s.listed.items k false ≡ is_open h k

-- a subscriber has a mark where it is open and no root, and only there
abbrev pub AreNestedListed : List Event → Subscribers → Type 0
AreNestedListed h s = (g k : ℕ) → at (is_subscriber_of g) h k ≡ true → slice_index_or s.listed.items k false ≡ (not (at is_root h k) && is_open h k)

-- the marks of what the history has stay
abbrev pub KeepsMarks : List Event → List Bool → List Bool → Type 0
KeepsMarks h old new = (k : ℕ) → k < length h → slice_index_or new k false ≡ slice_index_or old k false

-- the hub of node s, where s has a mark
abbrev pub listed_hub : List Event → List Bool → ℕ → Option ℕ
listed_hub h marks s = if slice_index_or marks s false then hub_subscribed_at h s else None

-- the marks of the first so many numbers of the list were taken away, and no others
pub record AreLetGo (old new : List Bool) (closed : List ℕ) (i : ℕ) : Type 0 where
  pub kept : (n : ℕ) → slice_index_or new n false ≡ true → slice_index_or old n false ≡ true
  pub gone : (k : ℕ) → k < i → slice_index_or new (slice_index_or closed k 0) false ≡ false
  pub noted : (n : ℕ) → slice_index_or old n false ≡ true → slice_index_or new n false ≡ false → IsNoted 0 closed n
