-- The way of an item inside one tree is its climb in every history whose records the tree has.
use Rattle.rx_hub.proofs.Common.{◌≡◌, ℕ, zero, suc, ◌-◌, Bool, true, false, List, [], ◌∷◌, ◌++◌, length, Option, Some, None, IsSome, IfSome, is_some, refl}
use Rattle.rx_hub.proofs.Common.{option_map, slice_get, sym, ap, ◌∙◌, arith, append-nil, if◌then◌else◌, filter_map, option_and_then, option_map_or, option_or}
use Rattle.rx_hub.proofs.Common.{option_to_list, false≢true, filter_map-append, same_Some, none-some, Kept, Event, at, Connect, is_merging, parent_named}
use Rattle.rx_hub.proofs.Common.{hub_connected, parent, if_less, open_subscribers, most_visits, Key, Slots, find, Node, IsSound, named_above, some_of}
use Rattle.rx_hub.proofs.Common.{named_parent, Stop, Delivery, Projection, Firing, Connection, made_of, above_of, stop_made, stop_of, onward_of, way_within}
use Rattle.rx_hub.proofs.Common.{way, end_of, AreRecordsOf, numbers, numbered}
use Rattle.rx_event.specs.Climb.{Stop as NumberedStop, stop_made as stop_made_in, stop_at, onward, visited, onward_from, onward_unless, climb, stops}
use Rattle.rx_hub.specs.TreeClaims.{IsWay}
use Rattle.std.proofs.Common.{rules}

-- one node ------------------------------------------------------------------------------------------

-- a tree whose records are those of the history
pub record IsTold (base : Kept) (h : List Event) (nodes : Slots Node) : Type 0 where
  pub sound : IsSound nodes
  pub records : AreRecordsOf base h nodes

merging_told : (base : Kept) → (h : List Event) (nodes : Slots Node) → IsTold base h nodes → (up : Key) → IsSome (find nodes up) →
    at is_merging h up.number ≡ option_map_or is_merging (made_of nodes up) false
merging_told base h nodes t up found =
    let n = some_of (find nodes up) found in
    ap (λ (o : Option Event). option_map_or is_merging o false) (t.records.each up n.0 n.1).made ∙
    sym (ap (λ (o : Option Node). option_map_or is_merging (option_map (λ node. node.made) o) false) n.1)

-- the stop at a node by its record is that of the history
stop_told : {base : Kept} → (h : List Event) (nodes : Slots Node) → IsTold base h nodes → (key : Key) (above : Option Key) (made : Event) →
    parent_named made ≡ option_map (λ k. k.number) above → IfSome above (λ k. IsSome (find nodes k)) →
    stop_made_in h key.number made ≡ option_and_then numbered (stop_made nodes key above made)
stop_told h nodes t key above x5 named there = search (rules, none-some, same_Some, merging_told)

-- of a node that is found
pub stop_of-found : (nodes : Slots Node) (key : Key) (node : Node) → find nodes key ≡ Some node → stop_of nodes key ≡ stop_made nodes key node.above node.made
stop_of-found nodes key node found = search rules

pub stop_seen : (base : Kept) → (h : List Event) (nodes : Slots Node) → IsTold base h nodes → (key : Key) (node : Node) → find nodes key ≡ Some node →
    stop_at h key.number ≡ option_and_then numbered (stop_of nodes key)
stop_seen base h nodes t key node found =
    let placed = t.sound.placed key node found in
    ap (option_and_then (stop_made_in h key.number)) (t.records.each key node found).made ∙
    stop_told h nodes t key node.above node.made placed.named placed.there ∙ sym (ap (option_and_then numbered) (stop_of-found nodes key node found))

-- the parent of a node is that above its record
parent_seen : (base : Kept) → (h : List Event) (nodes : Slots Node) → IsTold base h nodes → (key : Key) (node : Node) → find nodes key ≡ Some node →
    parent h key.number ≡ option_map (λ k. k.number) node.above
unfolding parent
parent_seen base h nodes t key node found =
    ap (λ (o : Option Event). option_and_then (if_less key.number) (option_and_then parent_named o)) (t.records.each key node found).made ∙
    sym (ap (option_and_then (named_above key.number)) found) ∙ sym (named_parent nodes key node found t.sound)

-- where an item goes on ---------------------------------------------------------------------------

-- where a climb goes on from the end of a way: from a connection to the open subscribers of its hub
abbrev pub beyond : List Event → Slots Node → Option Stop → List ℕ
beyond h nodes (Some (Connection c)) = option_map_or (open_subscribers h) (option_and_then hub_connected (made_of nodes c)) []
beyond h nodes (Some (Delivery c)) = []
beyond h nodes (Some (Projection c)) = []
beyond h nodes (Some (Firing c)) = []
beyond h nodes None = []

abbrev is_connection : Stop → Bool
is_connection (Connection c) = true
is_connection _ = false

no_connection : (s : Stop) (c : Key) → is_connection s ≡ false → s ≡ Connection c → ⊥
no_connection s c other same = false≢true (sym other ∙ ap is_connection same)

-- only a Connect makes a connection
pub connection_made : (nodes : Slots Node) (key c : Key) (above : Option Key) (made : Event) → stop_made nodes key above made ≡ Some (Connection c) →
    (g : ℕ) × (made ≡ Connect g) × (key ≡ c)
connection_made nodes key c above x4 stop = search (rules, same_Some, no_connection, none-some)

-- a node at which an item does not stop is no connection
goes_to_parent : (h : List Event) (nodes : Slots Node) (key : Key) (above : Option Key) (made : Event) (n : ℕ) → stop_made nodes key above made ≡ None →
    onward_from h n made ≡ option_to_list (parent h n)
goes_to_parent h nodes key above x4 n free = search (rules, none-some)

-- where a climb goes on, by the stop
pub onward_at : {base : Kept} → (h : List Event) (nodes : Slots Node) → IsTold base h nodes → (key : Key) (node : Node) → find nodes key ≡ Some node →
    (s : Option Stop) → stop_of nodes key ≡ s →
    onward h key.number ≡ onward_unless (option_and_then numbered s) (option_map_or (onward_from h key.number) (slice_get h key.number) [])
onward_at {base} h nodes t key node found s stop =
    ap (λ (x : Option NumberedStop). onward_unless x (option_map_or (onward_from h key.number) (slice_get h key.number) []))
    (stop_seen base h nodes t key node found ∙ ap (option_and_then numbered) stop)

pub onward_seen : (base : Kept) → (h : List Event) (nodes : Slots Node) → IsTold base h nodes → (key : Key) (node : Node) → find nodes key ≡ Some node →
    stop_of nodes key ≡ None → onward h key.number ≡ option_to_list (option_map (λ k. k.number) node.above)
onward_seen base h nodes t key node found free =
    let stop : stop_made nodes key node.above node.made ≡ None = sym (stop_of-found nodes key node found) ∙ free in
    onward_at h nodes t key node found None free ∙
    ap (λ (o : Option Event). option_map_or (onward_from h key.number) o []) (t.records.each key node found).made ∙
    goes_to_parent h nodes key node.above node.made key.number stop ∙ ap option_to_list (parent_seen base h nodes t key node found)

above_seen : (nodes : Slots Node) (key : Key) (node : Node) → find nodes key ≡ Some node → above_of nodes key ≡ node.above
above_seen nodes key node found = ap (option_and_then (λ n. n.above)) found

onward_some : (nodes : Slots Node) (key up : Key) → onward_of nodes key ≡ Some up → (stop_of nodes key ≡ None) × (above_of nodes key ≡ Some up)
onward_some nodes key up on = search (rules, none-some)

pub above_found : (nodes : Slots Node) (key up : Key) → IsSound nodes → above_of nodes key ≡ Some up → IsSome (find nodes up)
above_found nodes key up sound above = by_node (find nodes key) refl above where
  by_above : (o : Option Key) → o ≡ Some up → IfSome o (λ k. IsSome (find nodes k)) → IsSome (find nodes up)
  by_above None same there = absurd (none-some up same)
  by_above (Some k) same there = ap (λ q. is_some (find nodes q)) (same_Some up k (sym same)) ∙ there

  by_node : (o : Option Node) → find nodes key ≡ o → option_and_then (λ n. n.above) o ≡ Some up → IsSome (find nodes up)
  by_node None found same = absurd (none-some up same)
  by_node (Some node) found same = by_above node.above same (sound.placed key node found).there

onward_up : {base : Kept} → {h : List Event} (nodes : Slots Node) → IsTold base h nodes → (key : Key) (node : Node) (up : Key) → find nodes key ≡ Some node →
    stop_of nodes key ≡ None → above_of nodes key ≡ Some up → onward h key.number ≡ up.number ∷ []
onward_up {base} {h} nodes t key node up found free above = onward_seen base h nodes t key node found free ∙
    ap (λ (o : Option Key). option_to_list (option_map (λ k. k.number) o)) (sym (above_seen nodes key node found) ∙ above)

-- from the end of a way
onward_ended : {base : Kept} → {h : List Event} (nodes : Slots Node) → IsTold base h nodes → (key : Key) (node : Node) → find nodes key ≡ Some node →
    (s : Option Stop) → stop_of nodes key ≡ s → onward_of nodes key ≡ None → onward h key.number ≡ beyond h nodes s
onward_ended {base} {h} nodes t key node found None free ended =
    let top : node.above ≡ None = sym (above_seen nodes key node found) ∙ sym (ap (λ (s : Option Stop). if is_some s then None else above_of nodes key) free) ∙
    ended in
    onward_seen base h nodes t key node found free ∙ ap (λ (o : Option Key). option_to_list (option_map (λ k. k.number) o)) top
onward_ended {h} nodes t key node found (Some (Delivery c)) stop ended = onward_at h nodes t key node found (Some (Delivery c)) stop
onward_ended {h} nodes t key node found (Some (Projection c)) stop ended = onward_at h nodes t key node found (Some (Projection c)) stop
onward_ended {h} nodes t key node found (Some (Firing c)) stop ended = onward_at h nodes t key node found (Some (Firing c)) stop
onward_ended {h} nodes t key node found (Some (Connection c)) stop ended =
    let here : stop_made nodes key node.above node.made ≡ Some (Connection c) = sym (stop_of-found nodes key node found) ∙ stop in
    let c_is = connection_made nodes key c node.above node.made here in
    let made_is = ap (made_of nodes) (sym c_is.2) ∙ ap (option_map (λ (n : Node). n.made)) found ∙ ap (λ e. Some e) c_is.1 in
    onward_at h nodes t key node found (Some (Connection c)) stop ∙
    ap (λ (o : Option Event). option_map_or (onward_from h key.number) o []) ((t.records.each key node found).made ∙ ap (λ e. Some e) c_is.1) ∙
    sym (ap (λ (o : Option Event). option_map_or (open_subscribers h) (option_and_then hub_connected o) []) made_is)

-- the whole way ---------------------------------------------------------------------------------------

visited_nothing : (left : ℕ) (h : List Event) → visited left h [] ≡ []
visited_nothing x0 h = search rules

or_none : (s : Option Stop) → option_or s None ≡ s
or_none x0 = search rules

one_less : (a : ℕ) → suc a - 1 ≡ a
one_less a = omega arith

both_less : (a b : ℕ) → suc a - suc b ≡ a - b
both_less a b = omega arith

-- what is visited after a way of so many nodes at most
abbrev after : List Event → Slots Node → ℕ → List Key → List ℕ
after h nodes left keys = visited (left - length keys) h (beyond h nodes (end_of nodes keys))

-- the climb is the way, and then what is beyond its end
visited_way : (base : Kept) → (h : List Event) (nodes : Slots Node) → IsTold base h nodes → (left : ℕ) (key : Key) → IsSome (find nodes key) →
    visited left h (key.number ∷ []) ≡ numbers (way_within left nodes key) ++ after h nodes left (way_within left nodes key)
visited_way base h nodes t zero key there = refl
visited_way base h nodes t (suc left) key there = by_onward (onward_of nodes key) refl (λ up found. visited_way base h nodes t left up found) where
  node : (x : Node) × (find nodes key ≡ Some x)
  node = some_of (find nodes key) there

  goal : List Key → Type 0
  goal keys = visited (suc left) h (key.number ∷ []) ≡ numbers keys ++ after h nodes (suc left) keys

  by_onward : (o : Option Key) → onward_of nodes key ≡ o → ((up : Key) → IsSome (find nodes up) →
      visited left h (up.number ∷ []) ≡ numbers (way_within left nodes up) ++ after h nodes left (way_within left nodes up)) →
      goal (key ∷ option_map_or (way_within left nodes) o [])
  by_onward None ended rest =
      let goes = onward_ended nodes t key node.0 node.1 (stop_of nodes key) refl ended ∙ ap (beyond h nodes) (sym (or_none (stop_of nodes key))) in
      ap (λ (ns : List ℕ). key.number ∷ visited left h ns) (append-nil (onward h key.number) ∙ goes) ∙
      ap (λ k. key.number ∷ visited k h (beyond h nodes (option_or (stop_of nodes key) None))) (sym (one_less left))
  by_onward (Some up) on rest =
      let goes = onward_some nodes key up on in
      let keys : List Key = way_within left nodes up in
      let free = ap (λ (s : Option Stop). numbers keys ++ visited (left - length keys) h (beyond h nodes (option_or s (end_of nodes keys)))) (sym goes.0) in
      ap (λ (ns : List ℕ). key.number ∷ visited left h (ns ++ [])) (onward_up nodes t key node.0 up node.1 goes.0 goes.1) ∙
      ap (λ (ns : List ℕ). key.number ∷ ns) (rest up (above_found nodes key up t.sound goes.1) ∙ free) ∙
      ap (λ k. key.number ∷ (numbers keys ++ visited k h (beyond h nodes (option_or (stop_of nodes key) (end_of nodes keys)))))
      (sym (both_less left (length keys)))

-- the way has one stop at most, its last
stops_way : (base : Kept) → (h : List Event) (nodes : Slots Node) → IsTold base h nodes → (left : ℕ) (key : Key) → IsSome (find nodes key) →
    filter_map (stop_at h) (numbers (way_within left nodes key)) ≡ option_to_list (option_and_then numbered (end_of nodes (way_within left nodes key)))
stops_way base h nodes t zero key there = refl
stops_way base h nodes t (suc left) key there =
    by_stop (stop_of nodes key) refl (onward_of nodes key) refl (λ up found. stops_way base h nodes t left up found)
  where
    node : (x : Node) × (find nodes key ≡ Some x)
    node = some_of (find nodes key) there

    goal : Option Stop → List Key → Type 0
    goal s keys = filter_map (stop_at h) (key.number ∷ numbers keys) ≡ option_to_list (option_and_then numbered (option_or s (end_of nodes keys)))

    here : (s : Option Stop) → stop_of nodes key ≡ s → stop_at h key.number ≡ option_and_then numbered s
    here s stop = stop_seen base h nodes t key node.0 node.1 ∙ ap (option_and_then numbered) stop

    one : (o : Option NumberedStop) → stop_at h key.number ≡ o → filter_map (stop_at h) (key.number ∷ []) ≡ option_to_list o
    one None stop = rw stop refl
    one (Some x) stop = rw stop refl

    by_stop : (s : Option Stop) → stop_of nodes key ≡ s → (o : Option Key) → onward_of nodes key ≡ o → ((up : Key) → IsSome (find nodes up) →
        filter_map (stop_at h) (numbers (way_within left nodes up)) ≡ option_to_list (option_and_then numbered (end_of nodes (way_within left nodes up)))) →
        goal (stop_of nodes key) (option_map_or (way_within left nodes) o [])
    by_stop s stop None ended rest = one (option_and_then numbered (stop_of nodes key)) (here (stop_of nodes key) refl) ∙
        ap (λ (x : Option Stop). option_to_list (option_and_then numbered x)) (sym (or_none (stop_of nodes key)))
    by_stop None stop (Some up) on rest = rw (here None stop, stop) (rest up (above_found nodes key up t.sound (onward_some nodes key up on).1))
    by_stop (Some s) stop (Some up) on rest = absurd (none-some s (sym (onward_some nodes key up on).0 ∙ stop))

-- in the history ------------------------------------------------------------------------------------

told : (base : Kept) → {h : List Event} {nodes : Slots Node} {key : Key} → IsWay base h nodes key → IsTold base h nodes
told base w = record { sound = w.sound; records = w.records }

-- the climb begins with the way
climb_way : (base : Kept) → (h : List Event) (nodes : Slots Node) (key : Key) → IsWay base h nodes key →
    climb h key.number ≡ numbers (way nodes key) ++ visited (suc most_visits - length (way nodes key)) h (beyond h nodes (end_of nodes (way nodes key)))
unfolding climb
climb_way base h nodes key w = visited_way base h nodes (told base w) (suc most_visits) key w.found

nothing_beyond : (h : List Event) (nodes : Slots Node) (s : Option Stop) → ((c : Key) → ¬ (s ≡ Some (Connection c))) → beyond h nodes s ≡ []
nothing_beyond h nodes x2 none = search rules

-- where it reaches no connection, it is the climb
pub climb_whole_way : (base : Kept) → (h : List Event) (nodes : Slots Node) (key : Key) → IsWay base h nodes key →
    ((c : Key) → ¬ (end_of nodes (way nodes key) ≡ Some (Connection c))) → climb h key.number ≡ numbers (way nodes key)
climb_whole_way base h nodes key w none = search (rules, climb_way, nothing_beyond, visited_nothing, append-nil)

-- and its stop the only one
pub stops_whole_way : (base : Kept) → (h : List Event) (nodes : Slots Node) (key : Key) → IsWay base h nodes key →
    ((c : Key) → ¬ (end_of nodes (way nodes key) ≡ Some (Connection c))) →
    stops h key.number ≡ option_to_list (option_and_then numbered (end_of nodes (way nodes key)))
unfolding stops
stops_whole_way base h nodes key w none = ap (filter_map (stop_at h)) (climb_whole_way base h nodes key w none) ∙
    stops_way base h nodes (told base w) (suc most_visits) key w.found

beyond_hub : (h : List Event) (nodes : Slots Node) (s : Option Stop) (c : Key) (g : ℕ) → s ≡ Some (Connection c) → made_of nodes c ≡ Some (Connect g) →
    beyond h nodes s ≡ open_subscribers h g
beyond_hub h nodes s c g stop made = search rules

-- from a connection the climb goes on to the open subscribers of its hub
pub climb_connected_way : {base : Kept} → (h : List Event) (nodes : Slots Node) (key c : Key) (g : ℕ) → IsWay base h nodes key →
    end_of nodes (way nodes key) ≡ Some (Connection c) → made_of nodes c ≡ Some (Connect g) →
    climb h key.number ≡ numbers (way nodes key) ++ visited (suc most_visits - length (way nodes key)) h (open_subscribers h g)
climb_connected_way {base} h nodes key c g w stop made = search (rules, climb_way, beyond_hub)

-- and so do the stops
pub stops_connected_way : {base : Kept} → (h : List Event) (nodes : Slots Node) (key c : Key) (g : ℕ) → IsWay base h nodes key →
    end_of nodes (way nodes key) ≡ Some (Connection c) → made_of nodes c ≡ Some (Connect g) →
    stops h key.number ≡ filter_map (stop_at h) (visited (suc most_visits - length (way nodes key)) h (open_subscribers h g))
unfolding stops
stops_connected_way {base} h nodes key c g w stop made =
    let rest = visited (suc most_visits - length (way nodes key)) h (open_subscribers h g) in
    ap (filter_map (stop_at h)) (climb_connected_way h nodes key c g w stop made) ∙ filter_map-append (stop_at h) (numbers (way nodes key)) rest ∙
    ap (λ (ss : List NumberedStop). ss ++ filter_map (stop_at h) rest)
    (stops_way base h nodes (told base w) (suc most_visits) key w.found ∙ ap (λ (s : Option Stop). option_to_list (option_and_then numbered s)) stop)
