-- In a lawful history no item goes round in a circle: from a subscriber it gets to connections of later hubs alone.
use Rattle.rx_hub.proofs.Common.{◌≡◌, ℕ, zero, suc, ◌<◌, ◌&&◌, true, List, [], ◌∷◌, slice_get, Option, Some, None, IsSome, IfSome, is_some, option_map, refl}
use Rattle.rx_hub.proofs.Common.{sym, ap, subst, ◌∙◌, arith, if◌then◌else◌, AllByRecursion, option_and_then, option_map_or, option_or, and_parts, nat_tests}
use Rattle.rx_hub.proofs.Common.{same_Some, none-some, Kept, Event, Connect, parent_named, is_subscriber_of, at, places, is_open, is_within, parent, if_less}
use Rattle.rx_hub.proofs.Common.{open_subscribers, most_visits, IsLawful, hubs_in_order, filtered, is_within_self, Key, Slots, find, Node, Stop, Connection}
use Rattle.rx_hub.proofs.Common.{made_of, above_of, stop_of, way_within, end_of, some_of, Hub, find_hub, numbers, IsWalk, ReachesFrom, IsOrdered}
use Rattle.rx_event.proofs.Laws.Parents.{within_parent}
use Rattle.rx_hub.proofs.Laws.Ways.{stop_of-found, connection_made, above_found}
use Rattle.rx_hub.proofs.Laws.Walks.{found_hub}
use Rattle.std.proofs.Common.{rules}

-- the node above one is its parent in the history
parent_above : {base : Kept} → {h : List Event} (nodes : Slots Node) (hubs : List Hub) → IsWalk base h nodes hubs → (key up : Key) (node : Node) →
    find nodes key ≡ Some node → node.above ≡ Some up → parent h key.number ≡ Some up.number
unfolding parent
parent_above nodes hubs w key up node found above =
    let placed = w.sound.placed key node found in
    let lower : up.number < key.number = below node.above above placed.lower in
    let test : (if_less key.number up.number) ≡ Some up.number = grind (arith, nat_tests, lower) in
    ap (λ (o : Option Event). option_and_then (if_less key.number) (option_and_then parent_named o)) (w.records.each key node found).made ∙
    ap (option_and_then (if_less key.number)) (placed.named ∙ ap (option_map (λ (k : Key). k.number)) above) ∙ test
  where
    below : (o : Option Key) → o ≡ Some up → IfSome o (λ k. k.number < key.number) → up.number < key.number
    below None none lower = absurd (none-some up none)
    below (Some k) some lower = subst (λ (x : Key). x.number < key.number) (same_Some k up some) lower

-- a connection that an item gets to stands above the node
way_within_connection : {base : Kept} → {h : List Event} (nodes : Slots Node) (hubs : List Hub) → IsWalk base h nodes hubs → (c : Key) (left : ℕ) (key : Key) →
    IsSome (find nodes key) → end_of nodes (way_within left nodes key) ≡ Some (Connection c) → is_within h c.number key.number ≡ true
way_within_connection nodes hubs w c zero key there ends = absurd (none-some (Connection c) ends)
way_within_connection {base} {h} nodes hubs w c (suc left) key there ends =
    by_stop (stop_of nodes key) refl (above_of nodes key) refl ends (way_within_connection nodes hubs w c left) where
      own : (node : Node) × (find nodes key ≡ Some node)
      own = some_of (find nodes key) there

      by_stop : (s : Option Stop) → stop_of nodes key ≡ s → (above : Option Key) → above_of nodes key ≡ above →
          option_or s (end_of nodes (option_map_or (way_within left nodes) (if is_some s then None else above) [])) ≡ Some (Connection c) →
          ((up : Key) → IsSome (find nodes up) → end_of nodes (way_within left nodes up) ≡ Some (Connection c) → is_within h c.number up.number ≡ true) →
          is_within h c.number key.number ≡ true
      by_stop (Some s) stop above at ends later =
          let here = sym (stop_of-found nodes key own.0 own.1) ∙ stop ∙ ends in
          let made = connection_made nodes key c own.0.above own.0.made here in
          ap (λ (k : Key). is_within h c.number k.number) made.2 ∙ is_within_self h c.number
      by_stop None stop None at ends later = absurd (none-some (Connection c) ends)
      by_stop None stop (Some up) at ends later = within_parent h c.number key.number up.number
          (parent_above nodes hubs w key up own.0 own.1 (sym (ap (option_and_then (λ (node : Node). node.above)) own.1) ∙ at))
          (later up (above_found nodes key up w.sound at) ends)

-- the event of a node's record is that of the history
made_told : (base : Kept) → (h : List Event) (nodes : Slots Node) (hubs : List Hub) → IsWalk base h nodes hubs → (c : Key) (e : Event) →
    made_of nodes c ≡ Some e → slice_get h c.number ≡ Some e
made_told base h nodes hubs w c e made = search (rules, none-some)

-- what is so of numbers and of their keys together
of_numbers : (P : ℕ → Type 0) (F Q : Key → Type 0) → ((key : Key) → P key.number → F key → Q key) → (keys : List Key) → AllByRecursion P (numbers keys) →
    AllByRecursion F keys → AllByRecursion Q keys
of_numbers P F Q same [] each found = tt
of_numbers P F Q same (key ∷ keys) each found = (same key each.0 found.0, of_numbers P F Q same keys each.1 found.1)

-- a walk of a lawful history is in order
pub IsOrdered-walk : (base : Kept) → (h : List Event) (nodes : Slots Node) (hubs : List Hub) → IsLawful base h → IsWalk base h nodes hubs → IsOrdered nodes hubs
IsOrdered-walk base h nodes hubs law w = record { found = w.found; later = later } where
  subscribes : (g : ℕ) → AllByRecursion (λ s. at (is_subscriber_of g) h s ≡ true) (open_subscribers h g)
  subscribes g = filtered (λ n. at (is_subscriber_of g) h n && is_open h n) (λ s. at (is_subscriber_of g) h s ≡ true)
      (λ s both. (and_parts (at (is_subscriber_of g) h s) (is_open h s) both).0) (places h)

  reaches : (g : ℕ) (key : Key) → at (is_subscriber_of g) h key.number ≡ true → IsSome (find nodes key) → ReachesFrom nodes (suc g) key
  reaches g key is there c k ends made =
      let order = hubs_in_order law g key.number c.number is (way_within_connection nodes hubs w c (suc most_visits) key there ends)
      (made_told base h nodes hubs w c (Connect k) made) in omega (arith, order)

  later : (g : ℕ) (hub : Hub) → find_hub hubs g ≡ Some hub → AllByRecursion (ReachesFrom nodes (suc g)) hub.subscribers
  later g hub at_g =
      let r = found_hub hubs g hub at_g in
      let same : open_subscribers h g ≡ numbers hub.subscribers = sym ((w.published.each r.0 hub r.1.0).subscribers ∙ ap (open_subscribers h) r.1.1) in
      of_numbers (λ s. at (is_subscriber_of g) h s ≡ true) (λ key. IsSome (find nodes key)) (ReachesFrom nodes (suc g)) (reaches g) hub.subscribers
      (subst (λ (ns : List ℕ). AllByRecursion (λ s. at (is_subscriber_of g) h s ≡ true) ns) same (subscribes g)) (w.found g hub at_g)
