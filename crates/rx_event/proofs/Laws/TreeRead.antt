-- Two lists of events whose open nodes and hubs are the same but for their numbers: where nodes stand, who subscribes,
-- and where an item stops. Neither has to be lawful.
use Rattle.rx_event.proofs.Laws.Common.{◌≡◌, ℕ, zero, suc, ◌<◌, Bool, true, false, List, [], ◌∷◌, ◌++◌, length, Option, Some, None, cond, slice_get, filter}
use Rattle.rx_event.proofs.Laws.Common.{map, refl, sym, ap, ◌∙◌, inl, inr, ◌⊎◌, ◌==◌, arith, ◌&&◌, AllByRecursion, filter_map, option_map_or, option_and_then}
use Rattle.rx_event.proofs.Laws.Common.{false≢true, and_parts, and_from, eq-eqb, eqb-true, lt-ltb, same_Some, Source, Mode, Event}
use Rattle.rx_event.proofs.Laws.Common.{Open, Hub, Connect, makes_node, makes_hub, parent_named, is_merging, is_switch, is_inner_of, is_subscriber_of}
use Rattle.rx_event.proofs.Laws.Common.{is_connect_of, at, places, parent, is_open, is_within, open_nodes, open_subscribers, open_connections}
use Rattle.rx_event.proofs.Laws.Common.{is_open_child_of, Stop, Delivery, Projection, Firing, most_visits, climb, stops, is_child_of, open_children, event_by}
use Rattle.rx_event.proofs.Laws.Common.{is_named, option_map, cons_option, option_to_list, length-map, map-append, length-filter, visits}
use Rattle.rx_event.specs.Climb.{stop_made, stop_at, onward_from, onward_unless, onward, visited}
use Rattle.rx_event.proofs.Laws.Lists.{AllByRecursion-both}
use Rattle.rx_event.proofs.Laws.Parents.{parent-lt, within_cases, within_parent}
use Rattle.rx_event.proofs.Laws.Openness.{is_open_within, parent_open}
use Rattle.rx_event.proofs.Laws.Stands.{event_at}
use Rattle.rx_event.proofs.Laws.Totals.{is_within_self}
use Rattle.rx_event.proofs.Laws.Projections.{onward_open, climb_open}
use Rattle.rx_event.proofs.Laws.RisingLists.{same_list}
use Rattle.std.proofs.Common.{rules}

-- the relation ------------------------------------------------------------------------------------------------------

-- What is open in p is open in q, by the number that r gives, and made by the same event; and s leads back
pub record IsTreeRead (r s : ℕ → ℕ) (p q : List Event) : Type 0 where
  pub alive : (n : ℕ) → is_open p n ≡ true → is_open q (r n) ≡ true
  pub undone : (n : ℕ) → is_open p n ≡ true → s (r n) ≡ n
  pub order : (m n : ℕ) → is_open p m ≡ true → is_open p n ≡ true → m < n → r m < r n
  pub made : (n : ℕ) (e : Event) → is_open p n ≡ true → slice_get p n ≡ Some e → slice_get q (r n) ≡ Some (event_by r e)
  pub hub : (g : ℕ) (mode : Mode) → slice_get p g ≡ Some (Hub mode) → slice_get q (r g) ≡ Some (Hub mode)
  pub hub_undone : (g : ℕ) (mode : Mode) → slice_get p g ≡ Some (Hub mode) → s (r g) ≡ g

-- an open node has a larger number than the node that it names
abbrev pub StandsBelow : List Event → Type 0
StandsBelow p = (n m : ℕ) (e : Event) → is_open p n ≡ true → slice_get p n ≡ Some e → parent_named e ≡ Some m → m < n

-- and the other way round
pub record AreTreesRead (r s : ℕ → ℕ) (p q : List Event) : Type 0 where
  pub there : IsTreeRead r s p q
  pub back : IsTreeRead s r q p
  pub below : StandsBelow p

-- the parent that an event names, with other numbers
pub parent_named_by : (r : ℕ → ℕ) (e : Event) → parent_named (event_by r e) ≡ option_map r (parent_named e)
parent_named_by r e = grind arith

pub named_parent : (p : List Event) (n m : ℕ) (e : Event) → slice_get p n ≡ Some e → parent_named e ≡ Some m → m < n → parent p n ≡ Some m
unfolding parent
named_parent p n m e at_n named l = search (rules, option_and_then, cond, lt-ltb)

unnamed_parent : (p : List Event) (n : ℕ) (e : Event) → slice_get p n ≡ Some e → parent_named e ≡ None → parent p n ≡ None
unfolding parent
unnamed_parent p n e at_n named = search (rules, option_and_then)

pub trees_back : {r s : ℕ → ℕ} {p q : List Event} → AreTreesRead r s p q → AreTreesRead s r q p
trees_back {r} {s} {p} {q} a = record { there = a.back; back = a.there; below = below } where
  below : StandsBelow q
  below n m e o at_n named =
      let was : is_open p (s n) ≡ true = a.back.alive n o in
      let made : slice_get p (s n) ≡ Some (event_by s e) = a.back.made n e o at_n in
      let named_s : parent_named (event_by s e) ≡ Some (s m) = parent_named_by s e ∙ ap (option_map s) named in
      let less : s m < s n = a.below (s n) (s m) (event_by s e) was made named_s in
      let up : is_open p (s m) ≡ true = parent_open p (s n) (s m) was (named_parent p (s n) (s m) (event_by s e) made named_s less) in
      let again : slice_get q (r (s n)) ≡ Some (event_by r (event_by s e)) = a.there.made (s n) (event_by s e) was made in
      let same : e ≡ event_by r (event_by s e) = same_Some e (event_by r (event_by s e)) (sym at_n ∙ ap (slice_get q) (sym (a.back.undone n o)) ∙ again) in
      let number : m ≡ r (s m) = same_Some m (r (s m)) (sym named ∙ ap parent_named same ∙ parent_named_by r (event_by s e) ∙ ap (option_map r) named_s) in
      let grows : r (s m) < r (s n) = a.there.order (s m) (s n) up was less in
      let place : r (s n) ≡ n = a.back.undone n o in omega arith

-- a hub
pub hub_made : (h : List Event) (g : ℕ) → at makes_hub h g ≡ true → (mode : Mode) × (slice_get h g ≡ Some (Hub mode))
hub_made h g = by_event (slice_get h g) where
  by_event : (o : Option Event) → option_map_or makes_hub o false ≡ true → (mode : Mode) × (o ≡ Some (Hub mode))
  by_event (Some (Hub mode)) hub = (mode, refl)
  by_event _ hub = absurd (false≢true hub)

-- tests of one event --------------------------------------------------------------------------------------------------

pub makes_by : (r : ℕ → ℕ) (e : Event) → makes_node (event_by r e) ≡ makes_node e
makes_by r e = grind arith

pub node_named : (e : Event) → makes_node e ≡ true → is_named e ≡ true
node_named e made = grind arith

pub merging_by : (r : ℕ → ℕ) (e : Event) → is_merging (event_by r e) ≡ is_merging e
merging_by r e = grind arith

pub switch_by : (r : ℕ → ℕ) (e : Event) → is_switch (event_by r e) ≡ is_switch e
switch_by r e = grind arith

pub inner_by : (r : ℕ → ℕ) (f : ℕ) (e : Event) → is_inner_of f e ≡ true → is_inner_of (r f) (event_by r e) ≡ true
inner_by r f x2 holds = search (rules, eq-eqb, eqb-true, false≢true)

pub subscriber_by : (r : ℕ → ℕ) (g k : ℕ) → r g ≡ k → (e : Event) → is_subscriber_of g e ≡ true → is_subscriber_of k (event_by r e) ≡ true
subscriber_by r g k leads x4 holds = search (rules, eq-eqb, eqb-true, false≢true)

connect_by : (r : ℕ → ℕ) (g k : ℕ) → r g ≡ k → (e : Event) → is_connect_of g e ≡ true → is_connect_of k (event_by r e) ≡ true
connect_by r g k leads x4 holds = search (rules, eq-eqb, eqb-true, false≢true)

abbrev pub stop_by : (ℕ → ℕ) → Stop → Stop
stop_by r (Delivery n) = Delivery (r n)
stop_by r (Projection f) = Projection (r f)
stop_by r (Firing u) = Firing (r u)

abbrev Open_all : List Event → List ℕ → Type 0
Open_all h ns = AllByRecursion (λ m. is_open h m ≡ true) ns

-- with the same numbers
pub event_by_itself : (e : Event) → event_by (λ n. n) e ≡ e
event_by_itself x0 = search (rules)

-- trees -----------------------------------------------------------------------------------------------------------------

module _ (r s : ℕ → ℕ) (p q : List Event) (a : AreTreesRead r s p q) where
  -- one open node
  pub slice_by : (n : ℕ) → is_open p n ≡ true → slice_get q (r n) ≡ option_map (event_by r) (slice_get p n)
  slice_by n o =
      let made : (e : Event) × (slice_get p n ≡ Some e) = event_at p n (is_open_within p n o) in
      a.there.made n made.0 o made.1 ∙ sym (ap (option_map (event_by r)) made.1)

  -- a test that sees no number
  pub same_at : (t : Event → Bool) → ((e : Event) → t (event_by r e) ≡ t e) → (n : ℕ) → is_open p n ≡ true → at t q (r n) ≡ at t p n
  same_at t by n o = search (rules, option_map_or, slice_by, slice_get, option_map)

  -- a test whose number goes with it
  pub test_there : (t u : Event → Bool) → ((e : Event) → t e ≡ true → u (event_by r e) ≡ true) → (n : ℕ) → is_open p n ≡ true → at t p n ≡ true →
      at u q (r n) ≡ true
  test_there t u by n o holds = search (rules, option_map_or, slice_by, slice_get, option_map)

  pub number_by : (m n : ℕ) → is_open p m ≡ true → is_open p n ≡ true → (r m == r n) ≡ (m == n)
  number_by m n o also = search (rules, eq-eqb, eqb-true)

  -- where it stands
  pub parent_by : (n : ℕ) → is_open p n ≡ true → parent q (r n) ≡ option_map r (parent p n)
  parent_by n o = by_name (parent_named made.0) refl where
    made : (e : Event) × (slice_get p n ≡ Some e)
    made = event_at p n (is_open_within p n o)

    there : slice_get q (r n) ≡ Some (event_by r made.0)
    there = a.there.made n made.0 o made.1

    by_name : (x : Option ℕ) → parent_named made.0 ≡ x → parent q (r n) ≡ option_map r (parent p n)
    by_name None named = unnamed_parent q (r n) (event_by r made.0) there (parent_named_by r made.0 ∙ ap (option_map r) named) ∙
        sym (ap (option_map r) (unnamed_parent p n made.0 made.1 named))
    by_name (Some m) named =
        let less : m < n = a.below n m made.0 o made.1 named in
        let here : parent p n ≡ Some m = named_parent p n m made.0 made.1 named less in
        named_parent q (r n) (r m) (event_by r made.0) there (parent_named_by r made.0 ∙ ap (option_map r) named)
        (a.there.order m n (parent_open p n m o here) o less) ∙ sym (ap (option_map r) here)

  pub parent_there : (n m : ℕ) → is_open p n ≡ true → parent p n ≡ Some m → parent q (r n) ≡ Some (r m)
  parent_there n m o below = parent_by n o ∙ ap (option_map r) below

  pub child_by : (m n : ℕ) → is_open p m ≡ true → is_open p n ≡ true → is_child_of q (r m) (r n) ≡ is_child_of p m n
  child_by m n o also = ap (λ (x : Option ℕ). option_map_or (λ k. k == r m) x false) (parent_by n also) ∙ by_parent (parent p n) refl where
    by_parent : (x : Option ℕ) → parent p n ≡ x → option_map_or (λ k. k == r m) (option_map r x) false ≡ option_map_or (λ k. k == m) x false
    by_parent None below = refl
    by_parent (Some k) below = number_by k m (parent_open p n k also below) o

  pub within_by : (steps n m : ℕ) → m < steps → is_open p m ≡ true → is_within p n m ≡ true → is_within q (r n) (r m) ≡ true
  within_by zero n m l o inside = absurd (omega arith)
  within_by (suc steps) n m l o inside =
      by_case (within_cases p n m inside) (λ k less op above. within_by steps n k (let i = l in let j = less in omega arith) op above)
    where
      by_case : (n ≡ m) ⊎ ((k : ℕ) × (parent p m ≡ Some k) × (is_within p n k ≡ true)) →
          ((k : ℕ) → k < m → is_open p k ≡ true → is_within p n k ≡ true → is_within q (r n) (r k) ≡ true) → is_within q (r n) (r m) ≡ true
      by_case (inl same) rest = ap (λ k. is_within q (r n) (r k)) (sym same) ∙ is_within_self q (r n)
      by_case (inr (k, below, above)) rest =
          within_parent q (r n) (r m) (r k) (parent_there m k o below) (rest k (parent-lt p m k below) (parent_open p m k o below) above)

-- the open nodes that pass a test, in order
sorted_by : (r s : ℕ → ℕ) (p q : List Event) → AreTreesRead r s p q → (t u : ℕ → Bool) → ((n : ℕ) → is_open p n ≡ true → t n ≡ true → u (r n) ≡ true) →
    ((n : ℕ) → is_open q n ≡ true → u n ≡ true → t (s n) ≡ true) →
    filter (λ n. u n && is_open q n) (places q) ≡ map r (filter (λ n. t n && is_open p n) (places p))
sorted_by r s p q a t u there back = same_list r s (λ n. t n && is_open p n) (λ n. u n && is_open q n) (length p) (length q) (record {
  within = λ n holds. is_open_within p n (and_parts (t n) (is_open p n) holds).1;
  within_there = λ n holds. is_open_within q n (and_parts (u n) (is_open q n) holds).1;
  there = λ n holds. let w = and_parts (t n) (is_open p n) holds in and_from _ _ (there n w.1 w.0) (a.there.alive n w.1);
  back = λ n holds. let w = and_parts (u n) (is_open q n) holds in (and_from _ _ (back n w.1 w.0) (a.back.alive n w.1), a.back.undone n w.1);
  grows = λ m n one two l. a.there.order m n (and_parts (t m) (is_open p m) one).1 (and_parts (t n) (is_open p n) two).1 l;
})

module _ (r s : ℕ → ℕ) (p q : List Event) (a : AreTreesRead r s p q) where
  pub subscribers_by : (g : ℕ) → s (r g) ≡ g → open_subscribers q (r g) ≡ map r (open_subscribers p g)
  subscribers_by g undone = sorted_by r s p q a (at (is_subscriber_of g) p) (at (is_subscriber_of (r g)) q)
      (test_there r s p q a (is_subscriber_of g) (is_subscriber_of (r g)) (subscriber_by r g (r g) refl))
      (test_there s r q p (trees_back a) (is_subscriber_of (r g)) (is_subscriber_of g) (subscriber_by s (r g) g undone))

  pub connections_by : (g : ℕ) → s (r g) ≡ g → open_connections q (r g) ≡ map r (open_connections p g)
  connections_by g undone = sorted_by r s p q a (at (is_connect_of g) p) (at (is_connect_of (r g)) q)
      (test_there r s p q a (is_connect_of g) (is_connect_of (r g)) (connect_by r g (r g) refl))
      (test_there s r q p (trees_back a) (is_connect_of (r g)) (is_connect_of g) (connect_by s (r g) g undone))

  pub opens_by : open_nodes q ≡ map r (open_nodes p)
  opens_by = sorted_by r s p q a (λ n. true) (λ n. true) (λ n o holds. refl) (λ n o holds. refl)

  pub children_by : (n : ℕ) → is_open p n ≡ true → open_children q (r n) ≡ open_children p n
  unfolding open_children
  children_by n o = sym (length-filter (is_open_child_of q (r n)) (places q)) ∙
      ap length (same_list r s (is_open_child_of p n) (is_open_child_of q (r n)) (length p) (length q) (record {
        within = λ k child. is_open_within p k (and_parts (is_open p k) (is_child_of p n k) child).0;
        within_there = λ k child. is_open_within q k (and_parts (is_open q k) (is_child_of q (r n) k) child).0;
        there = λ k child. let w = and_parts (is_open p k) (is_child_of p n k) child in
            and_from _ _ (a.there.alive k w.0) (child_by r s p q a n k o w.0 ∙ w.1);
        back = λ k child. let w = and_parts (is_open q k) (is_child_of q (r n) k) child in (
          and_from _ _ (a.back.alive k w.0) (ap (λ m. is_child_of p m (s k)) (sym (a.there.undone n o)) ∙
              child_by s r q p (trees_back a) (r n) k (a.there.alive n o) w.0 ∙ w.1),
          a.back.undone k w.0,
        );
        grows = λ j k one two l. a.there.order j k (and_parts (is_open p j) (is_child_of p n j) one).0 (and_parts (is_open p k) (is_child_of p n k) two).0 l;
      })) ∙ length-map (filter (is_open_child_of p n) (places p)) r ∙ length-filter (is_open_child_of p n) (places p)

  -- where an item stops
  stop_read : (n : ℕ) → is_open p n ≡ true → stop_at q (r n) ≡ option_map (stop_by r) (stop_at p n)
  stop_read n o = ap (option_and_then (stop_made q (r n))) (slice_by r s p q a n o) ∙ by_event (slice_get p n) refl where
    if_merging : (b : Bool) (f : ℕ) → cond {A = Option Stop} b (Some (Projection (r f))) None ≡ option_map (stop_by r) (cond b (Some (Projection f)) None)
    if_merging true f = refl
    if_merging false f = refl

    by_event : (x : Option Event) → slice_get p n ≡ x →
        option_and_then (stop_made q (r n)) (option_map (event_by r) x) ≡ option_map (stop_by r) (option_and_then (stop_made p n) x)
    by_event (Some (Open (Source f) kind)) at_n =
        let up : is_open p f ≡ true =
        parent_open p n f o (named_parent p n f (Open (Source f) kind) at_n refl (a.below n f (Open (Source f) kind) o at_n refl)) in
        ap (λ b. cond {A = Option Stop} b (Some (Projection (r f))) None) (same_at r s p q a is_merging (merging_by r) f up) ∙
        if_merging (at is_merging p f) f
    by_event _ at_n = refl

  onward_read : (n : ℕ) → is_open p n ≡ true → onward q (r n) ≡ map r (onward p n)
  onward_read n o = (λ i. onward_unless (stop_read n o i) ((ap (λ (x : Option Event). option_map_or (onward_from q (r n)) x []) (slice_by r s p q a n o) ∙
      by_event (slice_get p n) refl) i)) ∙ by_stop (stop_at p n) where
        by_stop : (x : Option Stop) → onward_unless (option_map (stop_by r) x) (map r (option_map_or (onward_from p n) (slice_get p n) [])) ≡
            map r (onward_unless x (option_map_or (onward_from p n) (slice_get p n) []))
        by_stop None = refl
        by_stop (Some t) = refl

        to_list : (x : Option ℕ) → option_to_list (option_map r x) ≡ map r (option_to_list x)
        to_list None = refl
        to_list (Some m) = refl

        hub_back : (g : ℕ) → slice_get p n ≡ Some (Connect g) → s (r g) ≡ g
        hub_back g at_n =
            let again : slice_get p (s (r n)) ≡ Some (Connect (s (r g))) =
            a.back.made (r n) (Connect (r g)) (a.there.alive n o) (a.there.made n (Connect g) o at_n) in
            let same : Connect (s (r g)) ≡ Connect g = same_Some (Connect (s (r g))) (Connect g) (sym again ∙ ap (slice_get p) (a.there.undone n o) ∙ at_n) in
            of_connect same
          where
            of_connect : {i j : ℕ} → Connect i ≡ Connect j → i ≡ j
            of_connect same = cc

        by_event : (x : Option Event) → slice_get p n ≡ x →
            option_map_or (onward_from q (r n)) (option_map (event_by r) x) [] ≡ map r (option_map_or (onward_from p n) x [])
        by_event x0 at_n = search (rules, subscribers_by, hub_back, parent_by, to_list)

  visited_read : (left : ℕ) (todo : List ℕ) → Open_all p todo → visited left q (map r todo) ≡ map r (visited left p todo)
  visited_read (suc left) (n ∷ todo) all =
      let next : onward q (r n) ++ map r todo ≡ map r (onward p n ++ todo) =
      ap (λ (xs : List ℕ). xs ++ map r todo) (onward_read n all.0) ∙ sym (map-append r (onward p n) todo) in
      ap (λ (xs : List ℕ). r n ∷ xs) (ap (visited left q) next ∙
      visited_read left (onward p n ++ todo) (AllByRecursion-both (λ m. is_open p m ≡ true) (onward p n) todo (onward_open p n all.0) all.1))
  visited_read _ _ all = refl

  climb_by : (l : ℕ) → is_open p l ≡ true → climb q (r l) ≡ map r (climb p l)
  unfolding climb
  climb_by l o = visited_read (suc most_visits) (l ∷ []) (o, tt)

  pub visits_by : (l : ℕ) → is_open p l ≡ true → visits q (r l) ≡ visits p l
  unfolding visits
  visits_by l o = ap length (climb_by l o) ∙ length-map (climb p l) r

  stops_all : (ns : List ℕ) → Open_all p ns → filter_map (stop_at q) (map r ns) ≡ map (stop_by r) (filter_map (stop_at p) ns)
  stops_all [] all = refl
  stops_all (n ∷ ns) all = (λ i. cons_option (stop_read n all.0 i) (stops_all ns all.1 i)) ∙ by_stop (stop_at p n) where
    by_stop : (x : Option Stop) →
        cons_option (option_map (stop_by r) x) (map (stop_by r) (filter_map (stop_at p) ns)) ≡ map (stop_by r) (cons_option x (filter_map (stop_at p) ns))
    by_stop None = refl
    by_stop (Some t) = refl

  pub stops_by : (l : ℕ) → is_open p l ≡ true → stops q (r l) ≡ map (stop_by r) (stops p l)
  unfolding stops
  stops_by l o = ap (filter_map (stop_at q)) (climb_by l o) ∙ stops_all (climb p l) (climb_open p l o)
