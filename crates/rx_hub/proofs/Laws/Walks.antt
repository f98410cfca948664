-- Where an item goes over a tree and its hubs is its climb in every history that they are of.
use Rattle.rx_hub.proofs.Common.{◌≡◌, ℕ, zero, suc, ◌==◌, ◌&&◌, cond, Bool, true, false, List, [], ◌∷◌, ◌++◌, length, slice_get, Option, Some, None, IsSome}
use Rattle.rx_hub.proofs.Common.{option_map, refl, sym, ap, subst, ◌∙◌, arith, AllByRecursion, filter_map, cons_option, option_and_then, option_map_or, Kept}
use Rattle.rx_hub.proofs.Common.{option_to_list, false≢true, nat_tests, same_Some, none-some, Event, Connect, is_subscriber_of, at, places, is_open, Key, Hub}
use Rattle.rx_hub.proofs.Common.{open_subscribers, most_visits, AllByRecursion-both, first_passes, Slots, find, Node, Stop, Delivery, Projection, Firing}
use Rattle.rx_hub.proofs.Common.{Connection, numbered, made_of, above_of, stop_of, stop_made, some_of, find_hub, numbers, subscribers_of, onward_by, arrival}
use Rattle.rx_hub.proofs.Common.{onward_over, visited_over, climb_over, arrival_at, stops_over, IsWalk}
use Rattle.rx_event.specs.Climb.{Stop as NumberedStop, stop_at, onward, onward_from, onward_unless, visited, climb, stops, visits}
use Rattle.rx_hub.specs.Hubs.{StandsAt}
use Rattle.rx_hub.proofs.Laws.Ways.{IsTold, stop_of-found, stop_seen, onward_seen, onward_at, connection_made, above_found}
use Rattle.std.proofs.Common.{rules}

abbrev AreFound : Slots Node → List Key → Type 0
AreFound nodes keys = AllByRecursion (λ key. IsSome (find nodes key)) keys

told : (base : Kept) → {h : List Event} {nodes : Slots Node} {hubs : List Hub} → IsWalk base h nodes hubs → IsTold base h nodes
told base w = record { sound = w.sound; records = w.records }

-- hubs by number ----------------------------------------------------------------------------------

-- a hub that is found by a number stands at some index, and has it
pub found_hub : (hubs : List Hub) (n : ℕ) (hub : Hub) → find_hub hubs n ≡ Some hub → (i : ℕ) × ((slice_get hubs i ≡ Some hub) × (hub.number ≡ n))
found_hub [] n hub found = absurd (none-some hub found)
found_hub (x ∷ hubs) n hub found = of (x.number == n) refl (found_hub hubs n hub) found where
  of : (b : Bool) → (x.number == n) ≡ b → (find_hub hubs n ≡ Some hub → (i : ℕ) × ((slice_get hubs i ≡ Some hub) × (hub.number ≡ n))) →
      cond b (Some x) (find_hub hubs n) ≡ Some hub → (i : ℕ) × ((slice_get (x ∷ hubs) i ≡ Some hub) × (hub.number ≡ n))
  of true e rest same = let is : x.number ≡ n = grind (arith, nat_tests, e) in (0, (same, ap (λ (y : Hub). y.number) (sym (same_Some x hub same)) ∙ is))
  of false e rest same = let r = rest same in (suc r.0, r.1)

-- and one that stands at an index is there
pub hub_at : (hubs : List Hub) (i n : ℕ) → StandsAt hubs i n → (hub : Hub) × ((slice_get hubs i ≡ Some hub) × (hub.number ≡ n))
hub_at hubs i n stands = search (rules, none-some, same_Some)

-- where there is one of the number, one is found
some_hub : (hubs : List Hub) (n i : ℕ) (hub : Hub) → slice_get hubs i ≡ Some hub → hub.number ≡ n → find_hub hubs n ≡ None → ⊥
some_hub [] n i hub got named none = none-some hub got
some_hub (x ∷ hubs) n zero hub got named none = search (rules, same_Some, nat_tests, none-some)
some_hub (x ∷ hubs) n (suc i) hub got named none = some_hub hubs n i hub got named (of (x.number == n) none) where
  of : (b : Bool) → cond b (Some x) (find_hub hubs n) ≡ None → find_hub hubs n ≡ None
  of true e = absurd (none-some x (sym e))
  of false e = e

and_first : (a b : Bool) → (a && b) ≡ true → a ≡ true
and_first x0 b e = search (rules, false≢true)

-- the subscribers of a hub are those of the history
subscribers_told : (base : Kept) → (h : List Event) (nodes : Slots Node) (hubs : List Hub) → IsWalk base h nodes hubs → (g : ℕ) →
    numbers (subscribers_of hubs (Some (Connect g))) ≡ open_subscribers h g
subscribers_told base h nodes hubs w g = of (find_hub hubs g) refl where
  none_open : find_hub hubs g ≡ None → (ns : List ℕ) → open_subscribers h g ≡ ns → [] ≡ ns
  none_open none [] is = refl
  none_open none (n ∷ ns) is =
      let passes = first_passes (λ m. at (is_subscriber_of g) h m && is_open h m) (places h) n ns is in
      let has = w.published.subscribed g n (and_first (at (is_subscriber_of g) h n) (is_open h n) passes) in
      absurd (some_hub hubs g has.index has.hub has.there has.numbered none)

  of : (o : Option Hub) → find_hub hubs g ≡ o → numbers (option_map_or (λ (hub : Hub). hub.subscribers) o []) ≡ open_subscribers h g
  of None found = none_open found (open_subscribers h g) refl
  of (Some hub) found = let r = found_hub hubs g hub found in (w.published.each r.0 hub r.1.0).subscribers ∙ ap (open_subscribers h) r.1.1

subscribers_found : (base : Kept) → (h : List Event) (nodes : Slots Node) (hubs : List Hub) → IsWalk base h nodes hubs → (g : ℕ) →
    AreFound nodes (subscribers_of hubs (Some (Connect g)))
subscribers_found base h nodes hubs w g = of (find_hub hubs g) refl where
  of : (o : Option Hub) → find_hub hubs g ≡ o → AreFound nodes (option_map_or (λ (hub : Hub). hub.subscribers) o [])
  of None found = tt
  of (Some hub) found = w.found g hub found

-- one node ----------------------------------------------------------------------------------------

-- where it goes on from a node is where the history says, and those nodes are found
record IsOnward (h : List Event) (nodes : Slots Node) (key : Key) (keys : List Key) : Type 0 where
  goes : onward h key.number ≡ numbers keys
  found : AreFound nodes keys

onward_told : (base : Kept) → (h : List Event) (nodes : Slots Node) (hubs : List Hub) → IsWalk base h nodes hubs → (key : Key) → IsSome (find nodes key) →
    IsOnward h nodes key (onward_over nodes hubs key)
onward_told base h nodes hubs w key there = by_stop (stop_of nodes key) refl where
  own : (x : Node) × (find nodes key ≡ Some x)
  own = some_of (find nodes key) there

  at_stop : (s : Stop) → stop_of nodes key ≡ Some s →
      onward h key.number ≡ onward_unless (option_and_then numbered (Some s)) (option_map_or (onward_from h key.number) (slice_get h key.number) [])
  at_stop s stop = onward_at h nodes (told base w) key own.0 own.1 (Some s) stop

  to_parent : (o : Option Key) → above_of nodes key ≡ o → AreFound nodes (option_to_list o)
  to_parent None above = tt
  to_parent (Some up) above = (above_found nodes key up w.sound above, tt)

  numbers_option : (o : Option Key) → option_to_list (option_map (λ (k : Key). k.number) o) ≡ numbers (option_to_list o)
  numbers_option None = refl
  numbers_option (Some k) = refl

  by_stop : (s : Option Stop) → stop_of nodes key ≡ s → IsOnward h nodes key (onward_by nodes hubs key s)
  by_stop None free = record {
    goes = onward_seen base h nodes (told base w) key own.0 own.1 free ∙ numbers_option own.0.above ∙
        ap (λ (o : Option Key). numbers (option_to_list o)) (sym (ap (option_and_then (λ (n : Node). n.above)) own.1));
    found = to_parent (above_of nodes key) refl;
  }
  by_stop (Some (Delivery c)) stop = record { goes = at_stop (Delivery c) stop; found = tt }
  by_stop (Some (Projection c)) stop = record { goes = at_stop (Projection c) stop; found = tt }
  by_stop (Some (Firing c)) stop = record { goes = at_stop (Firing c) stop; found = tt }
  by_stop (Some (Connection c)) stop =
      let here : stop_made nodes key own.0.above own.0.made ≡ Some (Connection c) = sym (stop_of-found nodes key own.0 own.1) ∙ stop in
      let c_is = connection_made nodes key c own.0.above own.0.made here in
      let made_is : made_of nodes c ≡ Some (Connect c_is.0) =
      ap (made_of nodes) (sym c_is.2) ∙ ap (option_map (λ (n : Node). n.made)) own.1 ∙ ap (λ e. Some e) c_is.1 in
      record {
        goes = at_stop (Connection c) stop ∙
            ap (λ (o : Option Event). option_map_or (onward_from h key.number) o []) ((w.records.each key own.0 own.1).made ∙ ap (λ e. Some e) c_is.1) ∙
            sym (ap (λ (o : Option Event). numbers (subscribers_of hubs o)) made_is ∙ subscribers_told base h nodes hubs w c_is.0);
        found = subst (λ (o : Option Event). AreFound nodes (subscribers_of hubs o)) (sym made_is) (subscribers_found base h nodes hubs w c_is.0);
      }

-- all nodes ---------------------------------------------------------------------------------------

numbers_both : (xs ys : List Key) → numbers (xs ++ ys) ≡ numbers xs ++ numbers ys
numbers_both [] ys = refl
numbers_both (x ∷ xs) ys = ap (λ (ns : List ℕ). x.number ∷ ns) (numbers_both xs ys)

visited_told : (base : Kept) → (h : List Event) (nodes : Slots Node) (hubs : List Hub) → IsWalk base h nodes hubs → (left : ℕ) (keys : List Key) →
    AreFound nodes keys → visited left h (numbers keys) ≡ numbers (visited_over left nodes hubs keys)
visited_told base h nodes hubs w zero keys found = refl
visited_told base h nodes hubs w (suc left) [] found = refl
visited_told base h nodes hubs w (suc left) (key ∷ keys) found =
    let on = onward_told base h nodes hubs w key found.0 in
    ap (λ (ns : List ℕ). key.number ∷ visited left h ns) (search (rules, numbers_both)) ∙
    ap (λ (ns : List ℕ). key.number ∷ ns) (visited_told base h nodes hubs w left (onward_over nodes hubs key ++ keys)
    (AllByRecursion-both (λ k. IsSome (find nodes k)) (onward_over nodes hubs key) keys on.found found.1))

visited_found : (base : Kept) → (h : List Event) (nodes : Slots Node) (hubs : List Hub) → IsWalk base h nodes hubs → (left : ℕ) (keys : List Key) →
    AreFound nodes keys → AreFound nodes (visited_over left nodes hubs keys)
visited_found base h nodes hubs w zero keys found = tt
visited_found base h nodes hubs w (suc left) [] found = tt
visited_found base h nodes hubs w (suc left) (key ∷ keys) found =
    let on = onward_told base h nodes hubs w key found.0 in (
      found.0,
      visited_found base h nodes hubs w left (onward_over nodes hubs key ++ keys)
          (AllByRecursion-both (λ k. IsSome (find nodes k)) (onward_over nodes hubs key) keys on.found found.1),
    )

stops_told : (base : Kept) → (h : List Event) (nodes : Slots Node) → IsTold base h nodes → (keys : List Key) → AreFound nodes keys →
    filter_map (stop_at h) (numbers keys) ≡ filter_map numbered (filter_map (arrival_at nodes) keys)
stops_told base h nodes t [] found = refl
stops_told base h nodes t (key ∷ keys) found =
    let own = some_of (find nodes key) found.0 in
    of (stop_of nodes key) (stop_at h key.number) (stop_seen base h nodes t key own.0 own.1) (stops_told base h nodes t keys found.1) where
      of : (s : Option Stop) (o : Option NumberedStop) → o ≡ option_and_then numbered s →
          filter_map (stop_at h) (numbers keys) ≡ filter_map numbered (filter_map (arrival_at nodes) keys) →
          cons_option o (filter_map (stop_at h) (numbers keys)) ≡
          filter_map numbered (cons_option (option_and_then arrival s) (filter_map (arrival_at nodes) keys))
      of None o is rest = ap (λ x. cons_option x (filter_map (stop_at h) (numbers keys))) is ∙ rest
      of (Some (Delivery c)) o is rest = (λ i. cons_option (is i) (rest i))
      of (Some (Projection c)) o is rest = (λ i. cons_option (is i) (rest i))
      of (Some (Firing c)) o is rest = (λ i. cons_option (is i) (rest i))
      of (Some (Connection c)) o is rest = (λ i. cons_option (is i) (rest i))

pub climbs_told : (base : Kept) → (h : List Event) (nodes : Slots Node) (hubs : List Hub) (key : Key) → IsWalk base h nodes hubs → IsSome (find nodes key) →
    climb h key.number ≡ numbers (climb_over nodes hubs key)
unfolding climb
climbs_told base h nodes hubs key w found = visited_told base h nodes hubs w (suc most_visits) (key ∷ []) (found, tt)

pub all_stops_told : (base : Kept) → (h : List Event) (nodes : Slots Node) (hubs : List Hub) (key : Key) → IsWalk base h nodes hubs → IsSome (find nodes key) →
    stops h key.number ≡ filter_map numbered (stops_over nodes hubs key)
unfolding stops
all_stops_told base h nodes hubs key w found = ap (filter_map (stop_at h)) (climbs_told base h nodes hubs key w found) ∙
    stops_told base h nodes (told base w) (climb_over nodes hubs key) (visited_found base h nodes hubs w (suc most_visits) (key ∷ []) (found, tt))

length_numbers : (keys : List Key) → length (numbers keys) ≡ length keys
length_numbers [] = refl
length_numbers (k ∷ keys) = ap suc (length_numbers keys)

pub visits_told : (base : Kept) → (h : List Event) (nodes : Slots Node) (hubs : List Hub) (key : Key) → IsWalk base h nodes hubs → IsSome (find nodes key) →
    visits h key.number ≡ length (climb_over nodes hubs key)
unfolding visits
visits_told base h nodes hubs key w found = ap length (climbs_told base h nodes hubs key w found) ∙ length_numbers (climb_over nodes hubs key)
