-- Marks that are set on the way change nothing of it.
use Rattle.rx_hub.proofs.Common.{◌≡◌, ◌≢◌, ℕ, zero, suc, ◌++◌, List, [], ◌∷◌, Option, Some, None, IsSome, IfSome, option_map, refl, sym, ap, ◌∙◌, inl, inr, ◌⊎◌}
use Rattle.rx_hub.proofs.Common.{AllByRecursion, filter_map, option_and_then, Event, Marks, most_visits, first_some, Key, Slots, find, Node, Rewrites}
use Rattle.rx_hub.proofs.Common.{with_marks, cases_key, made_of, above_of, if_merging, stop_made, stop_of, way, Hub, way_within, end_of, onward_over}
use Rattle.rx_hub.proofs.Common.{visited_over, arrival, arrival_at, Route, stops_left, ReachesFrom, IsOrdered, IsUnderWay}
use Rattle.std.proofs.Common.{rules}

-- two trees of the same nodes -------------------------------------------------------------------------

-- every key finds nodes that the same event made, below the same node, or none in either
record AreAlike (old new : Slots Node) : Type 0 where
  made : (key : Key) → made_of new key ≡ made_of old key
  above : (key : Key) → above_of new key ≡ above_of old key

each_same : (P Q : Key → Type 0) → ((key : Key) → P key → Q key) → (keys : List Key) → AllByRecursion P keys → AllByRecursion Q keys
each_same P Q same [] each = tt
each_same P Q same (key ∷ keys) each = (same key each.0, each_same P Q same keys each.1)

if_same : (P Q : Key → Type 0) → ((key : Key) → P key → Q key) → (o : Option Key) → IfSome o P → IfSome o Q
if_same x0 x1 same x3 is = search rules

module _ (old new : Slots Node) (alike : AreAlike old new) where
  merging_same : (key : Key) → if_merging new key ≡ if_merging old key
  merging_same key = search rules

  stop_made_same : (key : Key) (above : Option Key) (made : Event) → stop_made new key above made ≡ stop_made old key above made
  stop_made_same key above x2 = search (rules, merging_same)

  stop_same : (key : Key) → stop_of new key ≡ stop_of old key
  stop_same key = search (rules, stop_made_same)

  onward_same : (hubs : List Hub) (key : Key) → onward_over new hubs key ≡ onward_over old hubs key
  onward_same hubs key = search (rules, stop_same)

  visited_same : (hubs : List Hub) (left : ℕ) (keys : List Key) → visited_over left new hubs keys ≡ visited_over left old hubs keys
  visited_same hubs zero keys = refl
  visited_same hubs (suc left) [] = refl
  visited_same hubs (suc left) (key ∷ keys) = search (rules, onward_same, visited_same hubs left (onward_over old hubs key ++ keys))

  arrivals_same : (keys : List Key) → filter_map (arrival_at new) keys ≡ filter_map (arrival_at old) keys
  arrivals_same keys = λ i. filter_map (λ (key : Key). option_and_then arrival (stop_same key i)) keys

  stops_same : (hubs : List Hub) (left : ℕ) (keys : List Key) →
      filter_map (arrival_at new) (visited_over left new hubs keys) ≡ filter_map (arrival_at old) (visited_over left old hubs keys)
  stops_same hubs left keys = search (rules, filter_map, visited_same, arrivals_same)

  way_same : (left : ℕ) (key : Key) → way_within left new key ≡ way_within left old key
  way_same zero key = refl
  way_same (suc left) key = search (rules, stop_same, way_same left)

  end_same : (key : Key) → end_of new (way new key) ≡ end_of old (way old key)
  end_same key = ap (end_of new) (way_same (suc most_visits) key) ∙ (λ i. first_some (λ (k : Key). stop_same k i) (way old key))

  there_same : (key : Key) → IsSome (find old key) → IsSome (find new key)
  there_same key there = search rules

  reaches_same : (hub : ℕ) (key : Key) → ReachesFrom old hub key → ReachesFrom new hub key
  reaches_same hub key reaches c g ends made = reaches c g (sym (end_same key) ∙ ends) (sym (alike.made c) ∙ made)

  ordered_same : (hubs : List Hub) → IsOrdered old hubs → IsOrdered new hubs
  ordered_same hubs ordered = record {
    found = search (rules, each_same, there_same);
    later = λ g hub at_g. each_same (ReachesFrom old (suc g)) (ReachesFrom new (suc g)) (reaches_same (suc g)) hub.subscribers (ordered.later g hub at_g);
  }

  under_way_same : (hubs : List Hub) (route : Route) → IsUnderWay old hubs route → IsUnderWay new hubs route
  under_way_same hubs route under_way = search (rules, if_same, there_same, reaches_same)

-- a tree in which the marks of one record were set --------------------------------------------------------

alike_marked : (old new : Slots Node) (key : Key) (marks : Marks) → Rewrites old new key (with_marks marks) → AreAlike old new
alike_marked old new key marks rewrites = record {
  made = λ k. by_key k (λ (o : Option Node). option_map (λ node. node.made) o) same_made (cases_key k key);
  above = search (rules, cases_key);
} where
  same_made : (o : Option Node) → option_map (λ node. node.made) (option_map (with_marks marks) o) ≡ option_map (λ node. node.made) o
  same_made None = refl
  same_made (Some node) = refl

  same_above : (o : Option Node) → option_and_then (λ node. node.above) (option_map (with_marks marks) o) ≡ option_and_then (λ node. node.above) o
  same_above None = refl
  same_above (Some node) = refl

  by_key : {X : Type 0} (k : Key) (f : Option Node → Option X) → ((o : Option Node) → f (option_map (with_marks marks) o) ≡ f o) →
      (k ≡ key) ⊎ (k ≢ key) → f (find new k) ≡ f (find old k)
  by_key k f same (inl is) = ap (λ j. f (find new j)) is ∙ ap f rewrites.changed ∙ same (find old key) ∙ sym (ap (λ j. f (find old j)) is)
  by_key k f same (inr other) = ap f (rewrites.others k other)

module _ (old new : Slots Node) (key : Key) (marks : Marks) (rewrites : Rewrites old new key (with_marks marks)) where
  -- and so is what is left of a way
  pub stops_left-marked : (hubs : List Hub) (route : Route) → stops_left new hubs route ≡ stops_left old hubs route
  stops_left-marked hubs route = search (rules, stops_same, alike_marked)

  -- which may go on over the new tree
  pub ordered-marked : (hubs : List Hub) → IsOrdered old hubs → IsOrdered new hubs
  ordered-marked hubs ordered = ordered_same old new (alike_marked old new key marks rewrites) hubs ordered

  pub under_way-marked : (hubs : List Hub) (route : Route) → IsUnderWay old hubs route → IsUnderWay new hubs route
  under_way-marked hubs route under_way = under_way_same old new (alike_marked old new key marks rewrites) hubs route under_way
