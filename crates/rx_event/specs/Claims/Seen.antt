-- What callers see of histories that are the same but for their numbers.
use Rattle.std.specs.Prelude.{◌≡◌}
use Rattle.rx_event.specs.Claims.Imports.{ℕ, List, map, length, IsTrue, Event, Kept, makes_node, makes_hub, makes_resource, makes_lease, has_source}
use Rattle.rx_event.specs.Claims.Imports.{is_leaf, is_merging, is_until, is_root, is_auto_hub, is_manual_hub, at, hubs, is_open, open_nodes, open_connections}
use Rattle.rx_event.specs.Claims.Imports.{open_subscribers, has_open_child, is_owned, is_out, leases_of, is_held, is_waiting, visits, owed, source_opened}
use Rattle.rx_event.specs.Claims.Imports.{notifier_opened, open_count, may_abort, IsInOrderAt, AreSameBy}

-- all that a refusal may rest on
pub record CallersSeeTheSame (base : Kept) (r s : ℕ → ℕ) (h c : List Event) : Type 0 where
  pub same_open : (n : ℕ) → IsTrue (at makes_node h n) → is_open c (r n) ≡ is_open h n
  pub leaves : (n : ℕ) → IsTrue (is_open h n) → at is_leaf c (r n) ≡ at is_leaf h n
  pub sourced : (n : ℕ) → IsTrue (is_open h n) → at has_source c (r n) ≡ at has_source h n
  pub merging : (n : ℕ) → IsTrue (is_open h n) → at is_merging c (r n) ≡ at is_merging h n
  pub untils : (n : ℕ) → IsTrue (is_open h n) → at is_until c (r n) ≡ at is_until h n
  pub aborted : (n : ℕ) → IsTrue (is_open h n) → at may_abort c (r n) ≡ at may_abort h n
  pub roots : (n : ℕ) → IsTrue (is_open h n) → at is_root c (r n) ≡ at is_root h n
  pub same_owed : (n : ℕ) → IsTrue (is_open h n) → owed base c (r n) ≡ owed base h n
  pub source_taken : (n : ℕ) → IsTrue (is_open h n) → source_opened base c (r n) ≡ source_opened base h n
  pub notifier_taken : (n : ℕ) → IsTrue (is_open h n) → notifier_opened base c (r n) ≡ notifier_opened base h n
  pub children : (n : ℕ) → IsTrue (is_open h n) → has_open_child c (r n) ≡ has_open_child h n
  pub same_visits : (n : ℕ) → IsTrue (is_open h n) → visits c (r n) ≡ visits h n
  pub hub_there : (g : ℕ) → IsTrue (at makes_hub h g) → IsTrue (at makes_hub c (r g))
  pub autos : (g : ℕ) → IsTrue (at makes_hub h g) → at is_auto_hub c (r g) ≡ at is_auto_hub h g
  pub manuals : (g : ℕ) → IsTrue (at makes_hub h g) → at is_manual_hub c (r g) ≡ at is_manual_hub h g
  pub connections : (g : ℕ) → IsTrue (at makes_hub h g) → open_connections c (r g) ≡ map r (open_connections h g)
  pub subscribers : (g : ℕ) → IsTrue (at makes_hub h g) → open_subscribers c (r g) ≡ map r (open_subscribers h g)
  pub ordered : (g p : ℕ) → IsTrue (at makes_hub h g) → IsTrue (is_open h p) → IsInOrderAt h g p → IsInOrderAt c (r g) (r p)
  pub ordered_back : (g p : ℕ) → IsTrue (at makes_hub h g) → IsTrue (is_open h p) → IsInOrderAt c (r g) (r p) → IsInOrderAt h g p
  pub owned : (q : ℕ) → IsTrue (at makes_resource h q) → is_owned c (r q) ≡ is_owned h q
  pub leases : (q : ℕ) → IsTrue (at makes_resource h q) → leases_of c (r q) ≡ leases_of h q
  pub out : (l : ℕ) → IsTrue (at makes_lease h l) → is_out c (r l) ≡ is_out h l
  pub held : (q : ℕ) → IsTrue (at makes_resource h q) → is_held c (r q) ≡ is_held h q
  pub waiting : (q : ℕ) → IsTrue (at makes_resource h q) → is_waiting c (r q) ≡ is_waiting h q
  -- the same nodes and hubs, and as many
  pub nodes : open_nodes c ≡ map r (open_nodes h)
  pub all_hubs : hubs c ≡ map r (hubs h)
  pub open_total : open_count c ≡ open_count h
  pub hub_total : length (hubs c) ≡ length (hubs h)

pub record SeenAlike (base : Kept) : Type 0 where
  pub seen : (r s : ℕ → ℕ) (h c : List Event) → AreSameBy base r s h c → CallersSeeTheSame base r s h c
