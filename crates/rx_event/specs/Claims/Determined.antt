-- What is promised of the order in which forced events come: but for the places of ends and closings it leaves no trace.
use Rattle.std.specs.Prelude.{◌≡◌, ◌<◌, ◌≤◌}
use Rattle.rx_event.specs.Claims.Imports.{ℕ, Bool, true, false, Some, List, length, slice_get, count_by, IsTrue, Terminal, Event, Connect, End}
use Rattle.rx_event.specs.Claims.Imports.{Close, Kept, makes_node, is_open, open_nodes, open_connections, open_subscribers, is_owned, is_out, leases_of}
use Rattle.rx_event.specs.Claims.Imports.{leases_out, is_held, is_taken, is_waiting, held_resources, waiting_resources, uses, owed, notes_to, item_count}
use Rattle.rx_event.specs.Claims.Imports.{accepted_count, taken_count, open_count, owned_count, held_count, lease_count, waiting_count, marks_of, IsSettled}
use Rattle.rx_event.specs.Claims.Imports.{IsLawful, IsForcedOn, IsStep}

-- the event ends a node, or closes one
abbrev pub is_closing : Event → Bool
is_closing (End n t) = true
is_closing (Close n) = true
is_closing _ = false

-- Two histories are the same but for the places of ends and closings
pub record AreAlike (base : Kept) (k j : List Event) : Type 0 where
  -- each other event stands at the same place
  pub stands : (n : ℕ) (e : Event) → is_closing e ≡ false → slice_get k n ≡ Some e → slice_get j n ≡ Some e
  -- the same nodes are open
  pub same_open : (n : ℕ) → is_open k n ≡ is_open j n
  pub same_nodes : open_nodes k ≡ open_nodes j
  -- the same hubs are connected, by the same connections, and have the same subscribers
  pub connections : (g : ℕ) → open_connections k g ≡ open_connections j g
  pub subscribers : (g : ℕ) → open_subscribers k g ≡ open_subscribers j g
  -- the same resources are held, the same wait, and the same were taken, each used as often
  pub same_owned : (r : ℕ) → is_owned k r ≡ is_owned j r
  pub same_held : (r : ℕ) → is_held k r ≡ is_held j r
  pub same_waiting : (r : ℕ) → is_waiting k r ≡ is_waiting j r
  pub same_taken : (r : ℕ) → is_taken k r ≡ is_taken j r
  pub held : held_resources k ≡ held_resources j
  pub waiting : waiting_resources k ≡ waiting_resources j
  pub used : (r : ℕ) → uses base k r ≡ uses base j r
  -- the same leases are out
  pub same_out : (l : ℕ) → is_out k l ≡ is_out j l
  pub same_leases : (r : ℕ) → leases_of k r ≡ leases_of j r
  pub out : leases_out k ≡ leases_out j
  -- the same is owed
  pub same_owed : (f : ℕ) → owed base k f ≡ owed base j f
  -- each open node remembers the same
  pub marks : (n : ℕ) → IsTrue (is_open k n) → marks_of base k n ≡ marks_of base j n
  -- and each node was told the same
  pub told : (n : ℕ) → notes_to k n ≡ notes_to j n
  pub open_total : open_count k ≡ open_count j
  pub owned_total : owned_count k ≡ owned_count j
  pub lease_total : lease_count k ≡ lease_count j
  pub held_total : held_count k ≡ held_count j
  pub waiting_total : waiting_count k ≡ waiting_count j
  pub nodes_total : count_by makes_node k ≡ count_by makes_node j
  pub items : item_count base k ≡ item_count base j
  pub accepted : accepted_count base k ≡ accepted_count base j
  pub taken : taken_count base k ≡ taken_count base j

-- since b an event of k ends a node so
pub record EndsSince (b k : List Event) (t : Terminal) : Type 0 where
  pub node : ℕ
  pub place : ℕ
  pub since : length b ≤ place
  pub ended : slice_get k place ≡ Some (End node t)

-- One step leads to one outcome, whatever the order of what is forced
pub record StepsAreDetermined (base : Kept) : Type 0 where
  -- all that ends in one step ends in one way
  pub one_terminal : {b k j : List Event} → IsLawful base b → IsForcedOn base b k → IsForcedOn base b j → {t u : Terminal} →
      EndsSince b k t → EndsSince b j u → t ≡ u
  -- a hub is connected first, so each node, hub and resource has the same number in both
  pub connects_first : {b k : List Event} → IsLawful base b → IsForcedOn base b k → (c : ℕ) {g : ℕ} → length b ≤ c →
      slice_get k c ≡ Some (Connect g) → c ≡ length b
  -- what one course has closed so far, another has closed when nothing is left to be done
  pub closed_in_both : {b p k : List Event} → IsLawful base b → IsForcedOn base b p → IsForcedOn base b k → IsSettled base k → (n : ℕ) →
      n < length b → is_open p n ≡ false → is_open k n ≡ false
  -- so two courses of what is forced after one history come to the same
  pub courses : {b k j : List Event} → IsLawful base b → IsForcedOn base b k → IsSettled base k → IsForcedOn base b j → IsSettled base j → AreAlike base k j
  -- and so do two steps from one history with one caller's event
  pub steps : {h outside k j : List Event} → IsLawful base h → IsStep base h outside k → IsStep base h outside j → AreAlike base k j
