-- The list of the nodes that may have to end or to close. No public clause cites this module.
use Rattle.std.specs.Prelude.{◌≡◌, ◌&&◌, ◌||◌, slice_index_or}
use Rattle.rx_audit.specs.Imports.{ℕ, suc, Bool, true, Option, Some, List, option_and_then, Event, is_subscriber_of, at, is_open}
use Rattle.rx_audit.specs.Latest.{IsNoted}
use Rattle.rx_audit.specs.HubTables.{number_by_word}
use Rattle.rx_audit.specs.Marking.{node_due}
use Rattle.rx_audit.specs.Rules.{hub_ended, hub_subscribed_at, is_disconnected, close_due}

-- node n is open and has to end or to close: by its marks, since its source ended, or since nobody uses it
unfoldable pub acts : List Event → ℕ → Bool
acts h n = node_due h n || (is_open h n && is_disconnected h n) || close_due h n

-- what was on the list is on it
abbrev pub Keeps : List ℕ → List ℕ → Type 0
Keeps before after = (n : ℕ) → IsNoted 0 before n → IsNoted 0 after n

-- the list has each node whose source ended, and each connection that nobody uses
abbrev pub HasCut : List Event → List ℕ → Type 0
HasCut h due = (n : ℕ) → is_open h n ≡ true → is_disconnected h n ≡ true → IsNoted 0 due n

abbrev pub HasLeft : List Event → List ℕ → Type 0
HasLeft h due = (c : ℕ) → close_due h c ≡ true → IsNoted 0 due c

-- the list has each open subscriber of the hub whose connection the event ends
abbrev pub HasEnded : List Event → Event → List ℕ → Type 0
HasEnded h e due = (g s : ℕ) → hub_ended h e ≡ Some g → at (is_subscriber_of g) h s ≡ true → is_open h s ≡ true → IsNoted 0 due s

-- the number that the word of the hub of s leads to
abbrev pub lost_connection : List Event → List ℕ → ℕ → Option ℕ
lost_connection h connection s = option_and_then (λ g. number_by_word (slice_index_or connection g 0)) (hub_subscribed_at h s)

-- the list has the connection of the hub of s
abbrev pub IsLostNoted : List Event → ℕ → List ℕ → List ℕ → Type 0
IsLostNoted h s connection due = (g c : ℕ) → hub_subscribed_at h s ≡ Some g → slice_index_or connection g 0 ≡ suc c → IsNoted 0 due c

-- the list has the connection of the hub of each subscriber that was closed
abbrev pub HasLost : List Event → List ℕ → List ℕ → List ℕ → Type 0
HasLost h closed connection due = (s g c : ℕ) → IsNoted 0 closed s → hub_subscribed_at h s ≡ Some g → slice_index_or connection g 0 ≡ suc c → IsNoted 0 due c

-- the list has each node that has to end or to close
abbrev pub HasAll : List Event → List ℕ → Type 0
HasAll h due = (n : ℕ) → acts h n ≡ true → IsNoted 0 due n
