-- The hubs beside a tree: what their keys find there, and what a closing takes away from them.
use Rattle.rx_ground.proofs.Common.{◌≡◌, ℕ, zero, suc, ◌<◌, ◌==◌, cond, Bool, true, false, List, [], ◌∷◌, ◌++◌, map, length, slice_get, drop, take, inl, inr}
use Rattle.rx_ground.proofs.Common.{◌⊎◌, Option, Some, None, is_some, IsSome, IfSome, refl, sym, ap, subst, ◌∙◌, arith, take-append-drop, zero-add, not, ◌&&◌}
use Rattle.rx_ground.proofs.Common.{◌||◌, AllByRecursion, Contains, list_any, option_map_or, option_to_list, false≢true, and_parts, and_from, eq-eqb, Kept}
use Rattle.rx_ground.proofs.Common.{eqb-true, not-true, length-map, length-range_with_len, none-some, same_Some, slice_get_within, get_or_from_slice_get}
use Rattle.rx_ground.proofs.Common.{Ghosts, Event, Open, Connect, Place, Kind, makes_hub, hub_connected, hub_subscribed, is_connect_of, is_subscriber_of, at}
use Rattle.rx_ground.proofs.Common.{is_open, places, IsLawful, hub_before, AllByRecursion-both, is_open_within, at-append, at_within, Key, Slots, find, Node}
use Rattle.rx_ground.proofs.Common.{entry_at, with_number, Tree, IsSound, is_key, is_on, is_below, Closed, IsSubtree, key_is, some_of, LastEnd, AgreeAt, Hub}
use Rattle.rx_ground.proofs.Common.{is_inside, with_made, is_closed, remaining, without_gone, after_closing, IsKnown, AreClosing, Hubs, IsFree, find_hub}
use Rattle.rx_ground.proofs.Common.{at_hub, connected, disconnected, IsHubOf, HasHub, AreHubsOf, mapped_from, IsOpenAt, subscribers_open, AreTied}
use Rattle.rx_ground.proofs.Common.{tests_agree, own_connection, named_connection, IsRecordOf, AreJoined, Cuts}
use Rattle.std.proofs.Common.{filter, rules}
use Rattle.std.specs.Cmp.{both_ways as same_test}
use Rattle.std.proofs.lemmas.List.FromFn.{get_or-range_with_len}
use Rattle.rx_ground.proofs.Laws.Members.{Contains-head, Contains-later, Contains-none, Contains-cases, Contains-from_map}
use Rattle.rx_ground.proofs.FoundIsListed.{filter_has}
use Rattle.rx_ground.proofs.Records.{below_is_within}

-- lists -------------------------------------------------------------------------------------------

abbrev AreFound : Slots Node → List Key → Type 0
AreFound nodes keys = AllByRecursion (λ key. IsSome (find nodes key)) keys

module _ {X : Type 0} where
  all_filtered : (P : X → Type 0) (p : X → Bool) (xs : List X) → AllByRecursion P xs → AllByRecursion P (filter p xs)
  all_filtered P p [] all = tt
  all_filtered P p (x ∷ xs) all = search (rules, AllByRecursion, filter, cond, all_filtered P p xs all.1)

  all_weaker : (P Q : X → Type 0) → ((x : X) → P x → Q x) → (xs : List X) → AllByRecursion P xs → AllByRecursion Q xs
  all_weaker P Q weaker [] all = tt
  all_weaker P Q weaker (x ∷ xs) all = (weaker x all.0, all_weaker P Q weaker xs all.1)

  all_both : (P Q R : X → Type 0) → ((x : X) → P x → Q x → R x) → (xs : List X) → AllByRecursion P xs → AllByRecursion Q xs → AllByRecursion R xs
  all_both P Q R both [] ps qs = tt
  all_both P Q R both (x ∷ xs) ps qs = (both x ps.0 qs.0, all_both P Q R both xs ps.1 qs.1)

  all_at : (P : X → Type 0) (xs : List X) (x : X) → AllByRecursion P xs → Contains xs x → P x
  all_at P [] x all c = absurd (Contains-none x c)
  all_at P (y ∷ xs) x all c = search (rules, all_at P xs x all.1)

  any_at : (p : X → Bool) (xs : List X) (x : X) → Contains xs x → p x ≡ true → list_any p xs ≡ true
  any_at p [] x c passes = absurd (Contains-none x c)
  any_at p (y ∷ xs) x c passes = by_place (Contains-cases y xs x c) (λ later. any_at p xs x later passes) where
    or_later : (b : Bool) → (b || true) ≡ true
    or_later true = refl
    or_later false = refl

    by_place : (y ≡ x) ⊎ Contains xs x → (Contains xs x → list_any p xs ≡ true) → (p y || list_any p xs) ≡ true
    by_place (inl same) rest = ap (λ b. b || list_any p xs) (ap p same ∙ passes)
    by_place (inr later) rest = ap (λ b. p y || b) (rest later) ∙ or_later (p y)

  any_from : (p : X → Bool) (xs : List X) → list_any p xs ≡ true → (x : X) × Contains xs x × (p x ≡ true)
  any_from p [] some = absurd (false≢true some)
  any_from p (y ∷ xs) some = by_test (p y) refl some (any_from p xs) where
    by_test : (b : Bool) → p y ≡ b → (b || list_any p xs) ≡ true → (list_any p xs ≡ true → (x : X) × Contains xs x × (p x ≡ true)) →
        (x : X) × Contains (y ∷ xs) x × (p x ≡ true)
    by_test true here some rest = (y, Contains-head y xs, here)
    by_test false here some rest = let r = rest some in (r.0, Contains-later y xs r.0 r.1, r.2)

key_itself : (key : Key) → is_key key key ≡ true
key_itself key = and_from _ _ (eq-eqb key.slot key.slot refl) (eq-eqb key.number key.number refl)

place_listed : (h : List Event) (n : ℕ) → n < length h → Contains (places h) n
place_listed h n within = search (rules, length, length-range_with_len, get_or-range_with_len, zero-add)

module _ {X : Type 0} where
  all_kept : (P Q : X → Type 0) (p : X → Bool) → ((x : X) → P x → p x ≡ true → Q x) → (xs : List X) → AllByRecursion P xs → AllByRecursion Q (filter p xs)
  all_kept P Q p stays [] all = tt
  all_kept P Q p stays (x ∷ xs) all = search (rules, AllByRecursion, filter, cond, all_kept P Q p stays xs all.1)

-- what is left of the hubs ------------------------------------------------------------------------

module _ (gone : Key → Bool) (ended : Option LastEnd) (x : Hub) where
  subscribers_without : (without_gone gone ended x).subscribers ≡ filter (λ key. not (gone key)) x.subscribers
  subscribers_without = search (rules, option_map_or, cond, filter, not)

  connection_without : (P : Key → Type 0) → IfSome x.connection P → IfSome (without_gone gone ended x).connection P
  connection_without P there = search (rules, option_map_or, cond)

-- the keys of those that stay find what they found
pub joined_without : (nodes : Slots Node) (gone : Key → Bool) (ended : Option LastEnd) (hubs : List Hub) → AreJoined nodes hubs →
    AreJoined nodes (map (without_gone gone ended) hubs)
joined_without nodes gone ended hubs joined = search (rules, mapped_from, subscribers_without, all_filtered, find, not, connection_without)

-- in a tree that keeps the nodes that are open the keys of its hubs find their records
pub joined_still : (k : List Event) (old new : Slots Node) (hubs : List Hub) → AreHubsOf k hubs →
    ((key : Key) → IsSome (find old key) → is_open k key.number ≡ true → IsSome (find new key)) → AreJoined old hubs → AreJoined new hubs
joined_still k old new hubs of still joined = record {
  subscribers = λ i hub at_i. all_both (λ key. IsSome (find old key)) (λ key. IsOpenAt k hub.number key.number) (λ key. IsSome (find new key))
      (λ key some o. still key some (and_parts (at (is_subscriber_of hub.number) k key.number) (is_open k key.number) o).1)
      hub.subscribers (joined.subscribers i hub at_i) (subscribers_open k hub (of.each i hub at_i));
  connection = λ i hub at_i. by_connection hub (of.each i hub at_i) hub.connection refl (joined.connection i hub at_i);
}
  where
    by_connection : (hub : Hub) → IsHubOf k hub → (o : Option Key) → hub.connection ≡ o → IfSome o (λ key. IsSome (find old key)) →
        IfSome o (λ key. IsSome (find new key))
    by_connection hub is None own there = tt
    by_connection hub is (Some key) own there = still key there (own_connection k hub is key own).1

-- and in one that has all that another has
pub joined_found : (old new : Slots Node) (hubs : List Hub) → ((key : Key) → IsSome (find old key) → IsSome (find new key)) → AreJoined old hubs →
    AreJoined new hubs
joined_found old new hubs still joined = search (rules, all_weaker, find)

-- what a closing takes away -----------------------------------------------------------------------

-- a hub that is there is found by its number
pub found_named : (hubs : List Hub) (i : ℕ) (hub : Hub) → slice_get hubs i ≡ Some hub → is_some (find_hub hubs hub.number) ≡ true
found_named [] i hub at_i = absurd (none-some hub at_i)
found_named (x ∷ hubs) zero hub at_i = search (rules, is_some, cond, eq-eqb, same_Some)
found_named (x ∷ hubs) (suc i) hub at_i = search (rules, is_some, cond, found_named hubs i hub at_i)

found_has : (hubs : List Hub) (g : ℕ) → HasHub hubs g → IsSome (find_hub hubs g)
found_has hubs g has = search (rules, is_some, found_named)

subscriber_named : (e : Event) (g : ℕ) → hub_subscribed e ≡ Some g → is_subscriber_of g e ≡ true
subscriber_named x0 g named = search (rules, eq-eqb, same_Some, none-some)

connection_named : (e : Event) (g : ℕ) → hub_connected e ≡ Some g → e ≡ Connect g
connection_named x0 g named = search (rules, same_Some, none-some)

-- what was connected is a hub
pub connected_hub : (base : Kept) → (h : List Event) → IsLawful base h → (c g : ℕ) → slice_get h c ≡ Some (Connect g) → at makes_hub h g ≡ true
connected_hub base h law c g at_c =
    let made : at makes_hub (take c h) g ≡ true = hub_before base h law c g at_c in
    ap (λ k. at makes_hub k g) (sym (take-append-drop c h)) ∙ at-append makes_hub (take c h) (drop c h) g (at_within makes_hub (take c h) g made) ∙ made

module _ (base : Kept) {T : Type 0} (g : Ghosts T) (h : List Event) (tree : Tree T) (hubs : Hubs) (tied : AreTied base g h tree hubs) (law : IsLawful base h)
    (sound : IsSound tree.nodes) where
  -- a record's node is known to the hubs as what its event made it
  known : (c : Closed) → find tree.nodes c.key ≡ Some c.node → IsKnown hubs.hubs c
  known c found = record {
    subscribed = λ n named. found_has hubs.hubs n (tied.published.subscribed n c.key.number (told (is_subscriber_of n) (subscriber_named c.node.made n named)));
    connected = λ n named. found_has hubs.hubs n
        (tied.published.every n (connected_hub base h law c.key.number n (is.made ∙ ap (λ (e : Event). Some e) (connection_named c.node.made n named))));
    subscribes = λ i hub at_i. same_test _ _ (subscribes_now i hub at_i) (subscriber_there i hub at_i);
    connects = λ i hub at_i. same_test _ _ (connects_now i hub at_i) (connection_there i hub at_i);
  }
    where
      is : IsRecordOf base h c.key.number c.node
      is = tied.of_tree.records.each c.key c.node found

      told : (p : Event → Bool) → p c.node.made ≡ true → at p h c.key.number ≡ true
      told p passes = ap (λ (o : Option Event). option_map_or p o false) is.made ∙ passes

      made : (p : Event → Bool) → at p h c.key.number ≡ true → p c.node.made ≡ true
      made p passes = sym (ap (λ (o : Option Event). option_map_or p o false) is.made) ∙ passes

      same : (key : Key) → IsSome (find tree.nodes key) → key.number ≡ c.key.number → key ≡ c.key
      same key some numbered = sound.apart key c.key some (ap is_some found) numbered

      subscribes_now : (i : ℕ) (hub : Hub) → slice_get hubs.hubs i ≡ Some hub → is_on c.key hub.subscribers ≡ true →
          is_subscriber_of hub.number c.node.made ≡ true
      subscribes_now i hub at_i on =
          let one = any_from (is_key c.key) hub.subscribers on in
          let opened : IsOpenAt h hub.number one.0.number =
          all_at (λ (key : Key). IsOpenAt h hub.number key.number) hub.subscribers one.0 (subscribers_open h hub (tied.published.each i hub at_i)) one.1 in
          let subscribes = (and_parts (at (is_subscriber_of hub.number) h one.0.number) (is_open h one.0.number) opened).0 in
          made (is_subscriber_of hub.number) (ap (λ (key : Key). at (is_subscriber_of hub.number) h key.number) (key_is c.key one.0 one.2) ∙ subscribes)

      subscriber_there : (i : ℕ) (hub : Hub) → slice_get hubs.hubs i ≡ Some hub → is_subscriber_of hub.number c.node.made ≡ true →
          is_on c.key hub.subscribers ≡ true
      subscriber_there i hub at_i subscribes =
          let both =
          and_from (at (is_subscriber_of hub.number) h c.key.number) (is_open h c.key.number) (told (is_subscriber_of hub.number) subscribes) is.alive in
          let listed = filter_has (λ n. at (is_subscriber_of hub.number) h n && is_open h n) (places h) c.key.number
          (place_listed h c.key.number (is_open_within h c.key.number is.alive)) both in
          let one = Contains-from_map (λ (key : Key). key.number) hub.subscribers c.key.number
          (subst (λ (ns : List ℕ). Contains ns c.key.number) (sym (tied.published.each i hub at_i).subscribers) listed) in
          let there = all_at (λ key. IsSome (find tree.nodes key)) hub.subscribers one.0 (tied.joined.subscribers i hub at_i) one.1 in
          any_at (is_key c.key) hub.subscribers one.0 one.1 (ap (is_key c.key) (same one.0 there one.2) ∙ key_itself c.key)

      connects_now : (i : ℕ) (hub : Hub) → slice_get hubs.hubs i ≡ Some hub → option_map_or (is_key c.key) hub.connection false ≡ true →
          is_connect_of hub.number c.node.made ≡ true
      connects_now i hub at_i on = by_connection hub.connection refl on where
        by_connection : (o : Option Key) → hub.connection ≡ o → option_map_or (is_key c.key) o false ≡ true → is_connect_of hub.number c.node.made ≡ true
        by_connection None own on = absurd (false≢true on)
        by_connection (Some key) own on =
            let connects = (own_connection h hub (tied.published.each i hub at_i) key own).0 in
            made (is_connect_of hub.number) (ap (λ (k : Key). at (is_connect_of hub.number) h k.number) (key_is c.key key on) ∙ connects)

      connection_there : (i : ℕ) (hub : Hub) → slice_get hubs.hubs i ≡ Some hub → is_connect_of hub.number c.node.made ≡ true →
          option_map_or (is_key c.key) hub.connection false ≡ true
      connection_there i hub at_i connects =
          let one = named_connection base h hub law (tied.published.each i hub at_i) c.key.number (told (is_connect_of hub.number) connects) is.alive in
          let there : IsSome (find tree.nodes one.0) =
          subst (λ (o : Option Key). IfSome o (λ key. IsSome (find tree.nodes key))) one.1 (tied.joined.connection i hub at_i) in
          ap (λ (o : Option Key). option_map_or (is_key c.key) o false) one.1 ∙ ap (is_key c.key) (same one.0 there one.2) ∙ key_itself c.key

  -- in a tree without what stands inside the top, what is left of the hubs finds its records
  pub joined_cut : (left : Tree T) (top : ℕ) (ended : Option LastEnd) → Cuts tree left top →
      AreJoined left.nodes (map (without_gone (is_inside h top) ended) hubs.hubs)
  joined_cut left top ended cuts = record {
    subscribers = λ i hub at_i. let m = mapped_from (without_gone (is_inside h top) ended) hubs.hubs i hub at_i in
        subst (λ (y : Hub). AreFound left.nodes y.subscribers) m.2 (subst (AreFound left.nodes) (sym (subscribers_without (is_inside h top) ended m.0))
        (all_kept (λ key. IsSome (find tree.nodes key)) (λ key. IsSome (find left.nodes key)) (λ key. not (is_inside h top key)) stays m.0.subscribers
        (tied.joined.subscribers i m.0 m.1)));
    connection = λ i hub at_i. let m = mapped_from (without_gone (is_inside h top) ended) hubs.hubs i hub at_i in
        subst (λ (y : Hub). IfSome y.connection (λ key. IsSome (find left.nodes key))) m.2
        (by_option m.0 m.0.connection (tied.joined.connection i m.0 m.1) (option_map_or (is_inside h top) m.0.connection false) refl);
  }
    where
      stays : (key : Key) → IsSome (find tree.nodes key) → not (is_inside h top key) ≡ true → IsSome (find left.nodes key)
      stays key some apart =
          let x = some_of (find tree.nodes key) some in
          let outside = below_is_within base h tree.nodes tree.chain tied.of_tree.records sound key x.0 x.1 top ∙ not-true (is_inside h top key) apart in
          ap is_some (cuts.nodes key ∙ ap (λ b. cond b None (find tree.nodes key)) outside) ∙ some

      by_option : (x : Hub) (o : Option Key) → IfSome o (λ key. IsSome (find tree.nodes key)) → (b : Bool) → option_map_or (is_inside h top) o false ≡ b →
          IfSome (cond b (disconnected ended (remaining (is_inside h top) (record x { connection = o })))
          (remaining (is_inside h top) (record x { connection = o }))).connection (λ key. IsSome (find left.nodes key))
      by_option x o there true e = tt
      by_option x None there false e = tt
      by_option x (Some key) there false e = stays key there (ap not e)

  module _ (top : ℕ) (closed : List Closed) (moved : IsSubtree tree.nodes top closed) where
    -- what is moved out may leave the hubs
    pub are_closing : AreClosing hubs.hubs closed
    are_closing = record {
      known = λ i c at_i. known c ((moved.exactly c).0 (i, slice_get_within closed i c at_i, get_or_from_slice_get closed i c c at_i)).found;
      once = moved.once;
    }

    -- a key of the tree is moved out just where its node is inside the top
    moved_inside : (key : Key) → IsSome (find tree.nodes key) → is_closed closed key ≡ is_inside h top key
    moved_inside key some = same_test _ _ out within ∙ below_is_within base h tree.nodes tree.chain tied.of_tree.records sound key x.0 x.1 top where
      x : (node : Node) × (find tree.nodes key ≡ Some node)
      x = some_of (find tree.nodes key) some

      out : is_closed closed key ≡ true → is_below tree.nodes top key.number ≡ true
      out listed =
          let one = any_from (λ (c : Closed). is_key c.key key) closed listed in
          ap (λ (k : Key). is_below tree.nodes top k.number) (sym (key_is one.0.key key one.2)) ∙ ((moved.exactly one.0).0 one.1).below

      within : is_below tree.nodes top key.number ≡ true → is_closed closed key ≡ true
      within below =
          let one : Closed = record { key = key; node = x.0 } in
          any_at (λ (c : Closed). is_key c.key key) closed one ((moved.exactly one).1 (record { found = x.1; below = below })) (key_itself key)

    -- so the hubs are left by what is inside the top
    pub moved_left : (ended : Option LastEnd) → map (after_closing closed ended) hubs.hubs ≡ map (without_gone (is_inside h top) ended) hubs.hubs
    moved_left ended = tests_agree (is_closed closed) (is_inside h top) ended hubs.hubs agree where
      found_connection : (o : Option Key) → IfSome o (λ key. IsSome (find tree.nodes key)) → AreFound tree.nodes (option_to_list o)
      found_connection None there = tt
      found_connection (Some key) there = (there, tt)

      agree : (i : ℕ) (hub : Hub) → slice_get hubs.hubs i ≡ Some hub → AgreeAt (is_closed closed) (is_inside h top) hub
      agree i hub at_i = all_weaker (λ key. IsSome (find tree.nodes key)) (λ key. is_closed closed key ≡ is_inside h top key) moved_inside
          (option_to_list hub.connection ++ hub.subscribers)
          (AllByRecursion-both (λ key. IsSome (find tree.nodes key)) (option_to_list hub.connection) hub.subscribers
          (found_connection hub.connection (tied.joined.connection i hub at_i)) (tied.joined.subscribers i hub at_i))

-- what an opening adds ----------------------------------------------------------------------------

module _ (nodes : Slots Node) where
  joined_at : (g : ℕ) (change : Hub → Hub) (hubs : List Hub) → ((hub : Hub) → AreFound nodes hub.subscribers → AreFound nodes (change hub).subscribers) →
      ((hub : Hub) → IfSome hub.connection (λ key. IsSome (find nodes key)) → IfSome (change hub).connection (λ key. IsSome (find nodes key))) →
      AreJoined nodes hubs → AreJoined nodes (at_hub g change hubs)
  joined_at g change hubs keeps keeps_too joined = record {
    subscribers = λ i hub at_i. let m = mapped_from (λ (x : Hub). cond (x.number == g) (change x) x) hubs i hub at_i in
        subst (λ (y : Hub). AreFound nodes y.subscribers) m.2 (by_test m.0 (m.0.number == g) (joined.subscribers i m.0 m.1));
    connection = λ i hub at_i. let m = mapped_from (λ (x : Hub). cond (x.number == g) (change x) x) hubs i hub at_i in
        subst (λ (y : Hub). IfSome y.connection (λ key. IsSome (find nodes key))) m.2 (by_test_too m.0 (m.0.number == g) (joined.connection i m.0 m.1));
  }
    where
      by_test : (x : Hub) (b : Bool) → AreFound nodes x.subscribers → AreFound nodes (cond b (change x) x).subscribers
      by_test x true all = keeps x all
      by_test x false all = all

      by_test_too : (x : Hub) (b : Bool) → IfSome x.connection (λ key. IsSome (find nodes key)) →
          IfSome (cond b (change x) x).connection (λ key. IsSome (find nodes key))
      by_test_too x true there = keeps_too x there
      by_test_too x false there = there

  -- a subscriber that comes has a record
  pub joined_opened : (key : Key) (place : Place) (kind : Kind) (hubs : List Hub) → IsSome (find nodes key) → AreJoined nodes hubs →
      AreJoined nodes (with_made key (Open place kind) hubs)
  joined_opened key place x2 hubs there joined = search (rules, joined_at, AllByRecursion-both, find)

  -- and so has a connection
  pub joined_connected : (key : Key) (g : ℕ) (hubs : List Hub) → IsSome (find nodes key) → AreJoined nodes hubs →
      AreJoined nodes (at_hub g (connected key) hubs)
  joined_connected key g hubs there joined = joined_at g (connected key) hubs (λ hub all. all) (λ hub before. there) joined

  -- at a slot that is free no subscriber stands
  pub slot_free : (slot : ℕ) (hubs : List Hub) → AreJoined nodes hubs → entry_at nodes slot ≡ None → IsFree hubs slot
  slot_free slot hubs joined free i hub at_i = none_there hub.subscribers (joined.subscribers i hub at_i) where
    none_there : (keys : List Key) → AreFound nodes keys → list_any (λ k. slot == k.slot) keys ≡ false
    none_there [] all = refl
    none_there (k ∷ keys) all = by_test (slot == k.slot) refl (none_there keys all.1) where
      by_test : (b : Bool) → (slot == k.slot) ≡ b → list_any (λ k. slot == k.slot) keys ≡ false → (b || list_any (λ k. slot == k.slot) keys) ≡ false
      by_test true same rest =
          let here = ap (λ n. is_some (with_number k.number (entry_at nodes n))) (sym (eqb-true slot k.slot same)) in
          absurd (false≢true (sym (ap (λ o. is_some (with_number k.number o)) free) ∙ sym here ∙ all.0))
      by_test false apart rest = rest

-- a change of one hub leaves as many
pub as_many_at : (g : ℕ) (change : Hub → Hub) (hubs : List Hub) → length (at_hub g change hubs) ≡ length hubs
as_many_at g change hubs = length-map hubs (λ (x : Hub). cond (x.number == g) (change x) x)

-- and so does an opening
pub as_many : (key : Key) (place : Place) (kind : Kind) (hubs : List Hub) → length (with_made key (Open place kind) hubs) ≡ length hubs
as_many key place x2 hubs = search (rules, as_many_at)

-- where a hub is found there is one
pub some_hub : (hubs : List Hub) (n : ℕ) (hub : Hub) → find_hub hubs n ≡ Some hub → 0 < length hubs
some_hub [] n hub found = absurd (none-some hub found)
some_hub (x ∷ hubs) n hub found = omega arith
