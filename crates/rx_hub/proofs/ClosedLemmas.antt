-- What a closing takes away from hubs, one closed node after the other.
use Rattle.rx_hub.proofs.Common.{◌≡◌, ◌≢◌, ℕ, zero, suc, ◌<◌, ◌==◌, ◌||◌, cond, map, Bool, true, false, List, [], ◌∷◌, ◌++◌, length, get_or, slice_get, take}
use Rattle.rx_hub.proofs.Common.{Option, Some, None, IsSome, IfSome, refl, sym, ap, ◌∙◌, arith, true≢false, option_map_or, not}
use Rattle.rx_hub.proofs.Common.{take-suc, nat_tests, same_Some, none-some, Event, hub_connected, hub_subscribed, is_connect_of, Key, Hub}
use Rattle.rx_hub.proofs.Common.{is_subscriber_of, Closed, is_key, is_on, key_is, LastEnd, is_closed, remaining, without_gone, after_closing, IsKnown, Hubs}
use Rattle.rx_hub.proofs.Common.{AreClosing, find_hub, at_hub, disconnected, unsubscribed, without_key}
use Rattle.std.specs.List.{filter, AllPairs}
use Rattle.rx_hub.proofs.Laws.Walks.{found_hub}
use Rattle.rx_hub.proofs.StoreShowsHubs.{get_some}
use Rattle.std.proofs.Common.{rules}

-- tests -------------------------------------------------------------------------------------------

or_false : (b : Bool) → (b || false) ≡ b
or_false x0 = search rules

or_next : (a b c : Bool) → (a || (b || c)) ≡ ((a || b) || c)
or_next x0 b c = search rules

eq_is : (a b : ℕ) → (a == b) ≡ true → a ≡ b
eq_is a b e = grind (arith, nat_tests, e)

eq_true : (a b : ℕ) → a ≡ b → (a == b) ≡ true
eq_true a b e = grind (arith, nat_tests, e)

eq_not : (a b : ℕ) → a ≢ b → (a == b) ≡ false
eq_not a b e = grind (arith, nat_tests, e)

eq_turned : (a b : ℕ) → (a == b) ≡ (b == a)
eq_turned a b = search (rules, eq_true, eq_is, eq_not, true≢false)

-- a test that a key fails, other keys may pass
not_gone : (gone : Key → Bool) (key k : Key) → gone key ≡ false → is_key key k ≡ true → gone k ≡ false
not_gone gone key k stays is = ap gone (sym (key_is key k is)) ∙ stays

-- hubs --------------------------------------------------------------------------------------------

map_same : (f g : Hub → Hub) (hubs : List Hub) → ((i : ℕ) (hub : Hub) → slice_get hubs i ≡ Some hub → f hub ≡ g hub) → map f hubs ≡ map g hubs
map_same f g [] same = refl
map_same f g (h ∷ hubs) same = λ i. same 0 h refl i ∷ map_same f g hubs (λ j hub got. same (suc j) hub got) i

map_twice : (f g h : Hub → Hub) (hubs : List Hub) → ((hub : Hub) → g (f hub) ≡ h hub) → map g (map f hubs) ≡ map h hubs
map_twice f g h [] same = refl
map_twice f g h (x ∷ hubs) same = λ i. same x i ∷ map_twice f g h hubs same i

map_none : (f : Hub → Hub) (hubs : List Hub) → ((i : ℕ) (hub : Hub) → slice_get hubs i ≡ Some hub → hub ≡ f hub) → hubs ≡ map f hubs
map_none f [] same = refl
map_none f (h ∷ hubs) same = λ i. same 0 h refl i ∷ map_none f hubs (λ j hub got. same (suc j) hub got) i

map_at : (f : Hub → Hub) (hubs : List Hub) (i : ℕ) (hub : Hub) → slice_get (map f hubs) i ≡ Some hub → (h : Hub) × ((slice_get hubs i ≡ Some h) × (f h ≡ hub))
map_at f [] i hub got = absurd (none-some hub got)
map_at f (h ∷ hubs) zero hub got = (h, (refl, same_Some (f h) hub got))
map_at f (h ∷ hubs) (suc i) hub got = map_at f hubs i hub got

number_kept : (gone : Key → Bool) (ended : Option LastEnd) (hub : Hub) → (without_gone gone ended hub).number ≡ hub.number
number_kept gone ended hub = search rules

some_kept : (gone : Key → Bool) (ended : Option LastEnd) (hubs : List Hub) (g : ℕ) → IsSome (find_hub hubs g) →
    IsSome (find_hub (map (without_gone gone ended) hubs) g)
some_kept gone ended [] g some = some
some_kept gone ended (h ∷ hubs) g some = search (rules, number_kept, some_kept gone ended hubs g)

-- lists of keys -----------------------------------------------------------------------------------

without_none : (key : Key) (ks : List Key) → is_on key ks ≡ false → without_key key ks ≡ ks
without_none key [] e = refl
without_none key (k ∷ ks) e = search (rules, true≢false, without_none key ks)

filter_twice : (p q : Key → Bool) (ks : List Key) → filter (λ k. not (q k)) (filter (λ k. not (p k)) ks) ≡ filter (λ k. not (p k || q k)) ks
filter_twice p q [] = refl
filter_twice p q (k ∷ ks) = search (rules, filter_twice p q ks)

on_kept : (gone : Key → Bool) (key : Key) → gone key ≡ false → (ks : List Key) → is_on key (filter (λ k. not (gone k)) ks) ≡ is_on key ks
on_kept gone key stays [] = refl
on_kept gone key stays (k ∷ ks) = search (rules, true≢false, not_gone, on_kept gone key stays ks)

-- one closed node ---------------------------------------------------------------------------------

module _ (key : Key) (ended : Option LastEnd) where
  -- what the key's subscriber leaves, where it is no connection
  left_one : (g : ℕ) (hub : Hub) → is_on key hub.subscribers ≡ (g == hub.number) → option_map_or (is_key key) hub.connection false ≡ false →
      cond (hub.number == g) (unsubscribed key hub) hub ≡ without_gone (is_key key) ended hub
  left_one g hub on off = search (rules, eq_turned, without_none)

  -- what its connection leaves, where it is no subscriber
  cut_one : (g : ℕ) (hub : Hub) → is_on key hub.subscribers ≡ false → option_map_or (is_key key) hub.connection false ≡ (g == hub.number) →
      cond (hub.number == g) (disconnected ended hub) hub ≡ without_gone (is_key key) ended hub
  cut_one g hub off on =
      (λ i. cond ((eq_turned hub.number g ∙ sym on) i) (disconnected ended (record hub { subscribers = sym (without_none key hub.subscribers off) i }))
      (record hub { subscribers = sym (without_none key hub.subscribers off) i }))

  -- and where it is neither
  kept_one : (hub : Hub) → is_on key hub.subscribers ≡ false → option_map_or (is_key key) hub.connection false ≡ false →
      hub ≡ without_gone (is_key key) ended hub
  kept_one hub off none = (λ i. record hub { subscribers = sym (without_none key hub.subscribers off) i }) ∙
      sym (ap (λ b. cond b (disconnected ended (unsubscribed key hub)) (unsubscribed key hub)) none)

-- what a node's event says of the hubs
made_subscriber : (e : Event) (g n : ℕ) → hub_subscribed e ≡ Some g → (is_subscriber_of n e ≡ (g == n)) × (is_connect_of n e ≡ false)
made_subscriber x0 g n e = search (rules, same_Some, none-some)

made_connection : (e : Event) (g n : ℕ) → hub_connected e ≡ Some g → (is_subscriber_of n e ≡ false) × (is_connect_of n e ≡ (g == n))
made_connection x0 g n e = search (rules, same_Some, none-some)

made_neither : (e : Event) (n : ℕ) → hub_subscribed e ≡ None → hub_connected e ≡ None → (is_subscriber_of n e ≡ false) × (is_connect_of n e ≡ false)
made_neither x0 n e f = search (rules, none-some)

one_is : (c : Closed) (ended : Option LastEnd) (hub : Hub) → without_gone (is_key c.key) ended hub ≡ after_closing (c ∷ []) ended hub
one_is c ended hub = λ i. without_gone (λ k. sym (or_false (is_key c.key k)) i) ended hub

module _ (hubs : List Hub) (c : Closed) (ended : Option LastEnd) (known : IsKnown hubs c) where
  pub subscriber_left : (g : ℕ) → hub_subscribed c.node.made ≡ Some g → at_hub g (unsubscribed c.key) hubs ≡ map (after_closing (c ∷ []) ended) hubs
  subscriber_left g made = map_same (λ hub. cond (hub.number == g) (unsubscribed c.key hub) hub) (after_closing (c ∷ []) ended) hubs (λ i hub got.
      let e = made_subscriber c.node.made g hub.number made in
      left_one c.key ended g hub (known.subscribes i hub got ∙ e.0) (known.connects i hub got ∙ e.1) ∙ one_is c ended hub)

  pub connection_left : (g : ℕ) → hub_connected c.node.made ≡ Some g → at_hub g (disconnected ended) hubs ≡ map (after_closing (c ∷ []) ended) hubs
  connection_left g made = map_same (λ hub. cond (hub.number == g) (disconnected ended hub) hub) (after_closing (c ∷ []) ended) hubs (λ i hub got.
      let e = made_connection c.node.made g hub.number made in
      cut_one c.key ended g hub (known.subscribes i hub got ∙ e.0) (known.connects i hub got ∙ e.1) ∙ one_is c ended hub)

  pub none_left : hub_subscribed c.node.made ≡ None → hub_connected c.node.made ≡ None → hubs ≡ map (after_closing (c ∷ []) ended) hubs
  none_left made other = map_none (after_closing (c ∷ []) ended) hubs (λ i hub got. let e = made_neither _ hub.number made other in kept_one _ ended
      hub (known.subscribes i hub got ∙ e.0) (known.connects i hub got ∙ e.1) ∙ one_is c ended hub)

  -- the subscriber stands on the list of its hub
  pub subscriber_on : (g : ℕ) → hub_subscribed c.node.made ≡ Some g → IfSome (find_hub hubs g) (λ hub. is_on c.key hub.subscribers ≡ true)
  subscriber_on g made = search (rules, nat_tests, found_hub, made_subscriber)

-- several -----------------------------------------------------------------------------------------

module _ (p q : Key → Bool) (ended : Option LastEnd) (hub : Hub) where
  twice_some : (c : Key) (a : Bool) →
      without_gone q ended (cond a (disconnected ended (remaining p (record hub { connection = Some c }))) (remaining p (record hub { connection = Some c }))) ≡
      cond (a || q c) (disconnected ended (remaining (λ k. p k || q k) (record hub { connection = Some c })))
      (remaining (λ k. p k || q k) (record hub { connection = Some c }))
  twice_some c x1 = search (rules, filter_twice)

  gone_twice : without_gone q ended (without_gone p ended hub) ≡ without_gone (λ k. p k || q k) ended hub
  gone_twice = search (rules, filter_twice, twice_some)

closed_more : (xs : List Closed) (c : Closed) (k : Key) → (is_closed xs k || is_closed (c ∷ []) k) ≡ is_closed (xs ++ c ∷ []) k
closed_more [] c k = refl
closed_more (x ∷ xs) c k = search (rules, or_next, closed_more xs c k)

-- after one more
pub closed_next : (closed : List Closed) (i j : ℕ) (d : Closed) (ended : Option LastEnd) (hubs : List Hub) → i < length closed → suc i ≡ j →
    map (after_closing (get_or closed i d ∷ []) ended) (map (after_closing (take i closed) ended) hubs) ≡ map (after_closing (take j closed) ended) hubs
closed_next closed i j d ended hubs below next =
    map_twice (after_closing (take i closed) ended) (after_closing (get_or closed i d ∷ []) ended) (after_closing (take (suc i) closed) ended) hubs
    (λ hub. gone_twice (is_closed (take i closed)) (is_closed (get_or closed i d ∷ [])) ended hub ∙
    (λ k. without_gone (λ key. closed_more (take i closed) (get_or closed i d) key k) ended hub) ∙
    ap (λ (xs : List Closed). after_closing xs ended hub) (sym (take-suc closed i d below))) ∙ ap (λ n. map (after_closing (take n closed) ended) hubs) next

not_yet : (closed : List Closed) (i : ℕ) (d : Closed) → AllPairs (λ a b. a.key ≢ b.key) closed → i < length closed →
    is_closed (take i closed) (get_or closed i d).key ≡ false
not_yet [] i d once below = absurd (omega (arith, below))
not_yet (x ∷ closed) zero d once below = refl
not_yet (x ∷ closed) (suc i) d once below =
    ap (λ b. b || is_closed (take i closed) (get_or closed i d).key) (apart (is_key x.key (get_or closed i d).key) refl) ∙
    not_yet closed i d (λ j k e l m. once (suc j) (suc k) e (omega (arith, l)) (omega (arith, m))) (omega (arith, below)) where
      apart : (b : Bool) → is_key x.key (get_or closed i d).key ≡ b → b ≡ false
      apart true e = absurd (once 0 (suc i) d (omega arith) below (key_is x.key (get_or closed i d).key e))
      apart false e = refl

known_kept : (gone : Key → Bool) (ended : Option LastEnd) (hubs : List Hub) (c : Closed) → gone c.key ≡ false → IsKnown hubs c →
    IsKnown (map (without_gone gone ended) hubs) c
known_kept gone ended hubs c stays known = record {
  subscribed = λ g made. some_kept gone ended hubs g (known.subscribed g made);
  connected = λ g made. some_kept gone ended hubs g (known.connected g made);
  subscribes = λ i hub got.
      let h = map_at (without_gone gone ended) hubs i hub got in
      sym (ap (λ (x : Hub). is_on c.key x.subscribers) h.1.1) ∙ on_same h.0 ∙ known.subscribes i h.0 h.1.0 ∙
      named h.0 hub h.1.1 (λ n. is_subscriber_of n c.node.made);
  connects = λ i hub got.
      let h = map_at (without_gone gone ended) hubs i hub got in
      sym (ap (λ (x : Hub). option_map_or (is_key c.key) x.connection false) h.1.1) ∙ connection_is h.0 ∙ connection_same h.0.connection ∙
      known.connects i h.0 h.1.0 ∙ named h.0 hub h.1.1 (λ n. is_connect_of n c.node.made);
} where
  named : (h hub : Hub) → without_gone gone ended h ≡ hub → (test : ℕ → Bool) → test h.number ≡ test hub.number
  named h hub is test = ap test (sym (number_kept gone ended h) ∙ ap (λ (x : Hub). x.number) is)

  on_same : (h : Hub) → is_on c.key (without_gone gone ended h).subscribers ≡ is_on c.key h.subscribers
  on_same h = of (option_map_or gone h.connection false) where
    of : (b : Bool) → is_on c.key (cond b (disconnected ended (remaining gone h)) (remaining gone h)).subscribers ≡ is_on c.key h.subscribers
    of true = on_kept gone c.key stays h.subscribers
    of false = on_kept gone c.key stays h.subscribers

  connection_is : (h : Hub) → option_map_or (is_key c.key) (without_gone gone ended h).connection false ≡
      option_map_or (is_key c.key) (cond (option_map_or gone h.connection false) None h.connection) false
  connection_is h = of (option_map_or gone h.connection false) where
    of : (b : Bool) → option_map_or (is_key c.key) (cond b (disconnected ended (remaining gone h)) (remaining gone h)).connection false ≡
        option_map_or (is_key c.key) (cond b None h.connection) false
    of true = refl
    of false = refl

  connection_same : (o : Option Key) → option_map_or (is_key c.key) (cond (option_map_or gone o false) None o) false ≡ option_map_or (is_key c.key) o false
  connection_same None = refl
  connection_same (Some k) = of (gone k) refl (is_key c.key k) refl where
    of : (a : Bool) → gone k ≡ a → (b : Bool) → is_key c.key k ≡ b → option_map_or (is_key c.key) (cond a None (Some k)) false ≡ b
    of true e true f = absurd (true≢false (sym e ∙ not_gone gone c.key k stays f))
    of true e false f = refl
    of false e b f = f

-- the hubs still know the next
known_next : (hubs : List Hub) (closed : List Closed) (i : ℕ) (d : Closed) (ended : Option LastEnd) → AreClosing hubs closed → i < length closed →
    IsKnown (map (after_closing (take i closed) ended) hubs) (get_or closed i d)
known_next hubs closed i d ended closing below = known_kept (is_closed (take i closed)) ended hubs (get_or closed i d) (not_yet closed i d closing.once below)
    (closing.known i (get_or closed i d) (get_some closed i d below))

pub known_at : (now : List Hub) {hubs : List Hub} (closed : List Closed) (i : ℕ) (d : Closed) (ended : Option LastEnd) →
    now ≡ map (after_closing (take i closed) ended) hubs → AreClosing hubs closed → i < length closed → IsKnown now (get_or closed i d)
known_at now {hubs} closed i d ended is closing below = search (rules, known_next)

-- a closing of nothing
filter_all : (ks : List Key) → filter (λ key. not (is_closed [] key)) ks ≡ ks
filter_all [] = refl
filter_all (k ∷ ks) = ap (λ (zs : List Key). k ∷ zs) (filter_all ks)

none_closed : (ended : Option LastEnd) (hub : Hub) → hub ≡ after_closing [] ended hub
none_closed ended hub = (λ i. record hub { subscribers = sym (filter_all hub.subscribers) i }) ∙ sym (search rules) where
  nothing_gone : (o : Option Key) → option_map_or (is_closed []) o false ≡ false
  nothing_gone None = refl
  nothing_gone (Some k) = refl

pub closed_first : (ended : Option LastEnd) (hubs : List Hub) → hubs ≡ map (after_closing [] ended) hubs
closed_first ended hubs = map_none (after_closing [] ended) hubs (λ i hub got. none_closed ended hub)

pub closed_step : (start : Hubs) {before after : Hubs} (closed : List Closed) {i j : ℕ} (d : Closed) (ended : Option LastEnd) →
    before ≡ record start { hubs = map (after_closing (take i closed) ended) start.hubs } →
    after ≡ record before { hubs = map (after_closing (get_or closed i d ∷ []) ended) before.hubs } → i < length closed → suc i ≡ j →
    after ≡ record start { hubs = map (after_closing (take j closed) ended) start.hubs }
closed_step start closed {i} {j} d ended first second below next = search (rules, closed_next)
