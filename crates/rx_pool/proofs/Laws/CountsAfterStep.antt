-- The counts after a step are those of the history that it left.
use Rattle.rx_pool.proofs.Common.{◌≡◌, ◌≢◌, ℕ, zero, suc, ◌+◌, ◌<◌, ◌≤◌, ◌==◌, ◌&&◌, ◌||◌, Bool, true, false, cond, not, List, [], ◌∷◌, ◌++◌, length}
use Rattle.rx_pool.proofs.Common.{Some, slice_get}
use Rattle.rx_pool.proofs.Common.{refl, sym, ap, ◌∙◌, subst, arith, inl, inr, ◌⊎◌, cases_lt, false≢true, eq-eqb, and_parts, and_from, common_steps, nat_lt}
use Rattle.rx_pool.proofs.Common.{length-append, slice_index_or, option_map_or, Event, PooledHub, lt-ltb, le-ltb, Option, slice_get_past, cases_order}
use Rattle.std.proofs.lemmas.Bool.{or_cases}
use Rattle.std.specs.List.{sum_by, range_with_len, All, AllPairs, Contains}
use Rattle.std.proofs.Common.{IsTrue}
use Rattle.std.proofs.lemmas.List.Sums.{sum_by-cons, length-filter}
use Rattle.std.proofs.lemmas.Bool.{ne_eqb}
use Rattle.rx_event.proofs.Laws.Sums.{sums_balance, sum_by-same, sum_by-plus, sum_by_one, sum_by_none, below_push}
use Rattle.std.proofs.lemmas.List.Sums.{sum_by_push}
use Rattle.rx_event.proofs.Laws.Places.{at-append, at_within}
use Rattle.rx_event.proofs.Laws.Openness.{is_open_past, stays_closed_after}
use Rattle.rx_event.specs.declared.event.Event.TheVariants.{Open, Connect, Hub}
use Rattle.rx_pool.proofs.Common.{None, Mode, new_hub, none-some, slice_get-append, slice_get_within, slice_get_last}
use Rattle.rx_event.proofs.Laws.Common.{map, Kept, IsLawful}
use Rattle.rx_event.proofs.Laws.TreeRead.{AreTreesRead, subscribers_by, connections_by}
use Rattle.rx_event.proofs.Laws.ReadDue.{trees_of}
use Rattle.rx_event.proofs.Laws.Hubs.{subscriber_hub, connection_hub, at_connect}
use Rattle.rx_event.proofs.Laws.Openness.{is_open_unchanged}
use Rattle.rx_event.specs.Bases.{Agree}
use Rattle.rx_pool.proofs.Changes.{pushed}
use Rattle.rx_event.specs.Events.{makes_node, is_subscriber_of, is_connect_of}
use Rattle.rx_event.specs.Tree.{at, places, is_open, open_subscribers, open_connections}
use Rattle.rx_event.specs.Gone.{has_gone, goes, AreJust}
use Rattle.rx_pool.specs.Counts.{namers, IsPoolOf, names, naming, is_made, Follows}
use Rattle.rx_pool.specs.Claims.{StaysThePool, FreeServesNobody}

-- a list that has just the numbers that pass a test, each once ------------------------------------------------------------------

-- the rest of such a list has just the others
rest_just : (test : ℕ → Bool) (x : ℕ) (xs : List ℕ) → AreJust test (x ∷ xs) → AreJust (λ n. test n && not (x == n)) xs
rest_just test x xs just = record { each = each; every = every; once = once }
  where
    apart : (a b : ℕ) → (a ≡ b → ⊥) → not (a == b) ≡ true
    apart a b other = rw (ne_eqb a b other) refl

    each : All (λ n. IsTrue (test n && not (x == n))) xs
    each k d l = and_from (test (slice_index_or xs k d)) (not (x == slice_index_or xs k d)) (just.each (suc k) d (omega arith))
        (apart x (slice_index_or xs k d) (just.once 0 (suc k) d (omega arith) (omega arith)))

    every : (n : ℕ) → IsTrue (test n && not (x == n)) → Contains xs n
    every n is = let both = and_parts (test n) (not (x == n)) is in let c = just.every n both.0 in by_place c.0 c.1 c.2 both.1
      where
        by_place : (k : ℕ) → k < suc (length xs) → slice_index_or (x ∷ xs) k n ≡ n → not (x == n) ≡ true → Contains xs n
        by_place zero l is_n other = absurd (false≢true (sym (ap (λ (b : Bool). not b) (eq-eqb x n is_n)) ∙ other))
        by_place (suc k) l is_n other = (k, omega arith, is_n)

    once : AllPairs (λ m n. m ≢ n) xs
    once i j d l m = just.once (suc i) (suc j) d (omega arith) (omega arith)

-- a number in two parts: where it is x, and else
parted : (test : ℕ → Bool) (f : ℕ → ℕ) (x k : ℕ) → test x ≡ true →
    cond (test k) (f k) 0 ≡ cond (x == k) (f k) 0 + cond (test k && not (x == k)) (f k) 0
parted test f x k is = by_order (cases_order x k)
  where
    same : (b t : Bool) (n : ℕ) → b ≡ true → t ≡ true → cond t n 0 ≡ cond b n 0 + cond (t && not b) n 0
    same b t n p q = rw (p, q) (omega arith)

    other : (b t : Bool) (n : ℕ) → b ≡ false → cond t n 0 ≡ cond b n 0 + cond (t && not b) n 0
    other b true n p = rw p (omega arith)
    other b false n p = rw p (omega arith)

    by_order : (x ≡ k) ⊎ ((x < k) ⊎ (k < x)) → cond (test k) (f k) 0 ≡ cond (x == k) (f k) 0 + cond (test k && not (x == k)) (f k) 0
    by_order (inl e) = same (x == k) (test k) (f k) (eq-eqb x k e) (ap test (sym e) ∙ is)
    by_order (inr (inl l)) = other (x == k) (test k) (f k) (ne_eqb x k (λ e. let n = e in omega arith))
    by_order (inr (inr l)) = other (x == k) (test k) (f k) (ne_eqb x k (λ e. let n = e in omega arith))

no_number : (test : ℕ → Bool) (f : ℕ → ℕ) → AreJust test [] → (k : ℕ) (b : Bool) → test k ≡ b → cond b (f k) 0 ≡ 0
no_number test f just k true is = absurd (let c = just.every k is in let l = c.1 in omega arith)
no_number test f just k false is = refl

pub sum_just : (test : ℕ → Bool) (f : ℕ → ℕ) (numbers : List ℕ) (n : ℕ) → AreJust test numbers → ((k : ℕ) → test k ≡ true → k < n) →
    sum_by f numbers ≡ sum_by (λ k. cond (test k) (f k) 0) (range_with_len 0 n)
sum_just test f [] n just below = sym (sum_by_none (λ k. cond (test k) (f k) 0) n (λ k l. no_number test f just k (test k) refl))
sum_just test f (x ∷ xs) n just below =
    let first : test x ≡ true = just.each 0 x (omega arith) in
    let rest = sum_just (λ k. test k && not (x == k)) f xs n (rest_just test x xs just) (λ k is. below k (and_parts (test k) (not (x == k)) is).0) in
    let parts = sum_by-same (λ k. cond (x == k) (f k) 0 + cond (test k && not (x == k)) (f k) 0) (λ k. cond (test k) (f k) 0) n (λ k l. parted test f x k first) in
    let two = sum_by-plus (λ k. cond (x == k) (f k) 0) (λ k. cond (test k && not (x == k)) (f k) 0) n in
    let one = sum_by_one f x n (below x first) in
    let head = sum_by-cons f x xs in
    omega (arith, rest, parts, two, one, head)

-- a sum over a longer history whose further terms are nothing ---------------------------------------------------------------------

sum_more : (f : ℕ → ℕ) (n m : ℕ) → ((k : ℕ) → n ≤ k → f k ≡ 0) → sum_by f (range_with_len 0 (n + m)) ≡ sum_by f (range_with_len 0 n)
sum_more f n zero no_more = let same : n + 0 ≡ n = omega arith in ap (λ (k : ℕ). sum_by f (range_with_len 0 k)) same
sum_more f n (suc m) no_more =
    let same : n + suc m ≡ suc (n + m) = omega arith in
    let last = no_more (n + m) (omega arith) in
    let push = sum_by_push f (range_with_len 0 (n + m)) (n + m) in
    let rest = sum_more f n m no_more in
    ap (λ (k : ℕ). sum_by f (range_with_len 0 k)) same ∙ ap (sum_by f) (below_push (n + m)) ∙ omega (arith, push, last, rest)

-- how many open nodes name a hub, as a sum ------------------------------------------------------------------------------------------

-- no event subscribes and connects
exclusive : (g : ℕ) (e : Event) → is_subscriber_of g e ≡ true → is_connect_of g e ≡ false
exclusive g (Connect k) is = absurd (false≢true is)
exclusive g _ is = refl

either : (a b o : Bool) → (a ≡ true → b ≡ false) → cond {A = ℕ} (a && o) 1 0 + cond {A = ℕ} (b && o) 1 0 ≡ cond {A = ℕ} ((a || b) && o) 1 0
either true b true other = rw (other refl) refl
either true b false other = rw (other refl) refl
either false true true other = refl
either false true false other = refl
either false false o other = refl

one_name : (g : ℕ) (b : Bool) (o : Option Event) → cond (option_map_or (is_subscriber_of g) o false && b) 1 0 + cond (option_map_or (is_connect_of g) o false && b) 1 0 ≡
    cond (option_map_or (names g) o false && b) 1 0
one_name g b None = none_counts b
  where
    none_counts : (c : Bool) → cond {A = ℕ} (false && c) 1 0 + cond {A = ℕ} (false && c) 1 0 ≡ cond {A = ℕ} (false && c) 1 0
    none_counts c = omega arith
one_name g b (Some e) = either (is_subscriber_of g e) (is_connect_of g e) b (exclusive g e)

namers-sum : (h : List Event) (g : ℕ) → namers h g ≡ sum_by (λ n. cond (at (names g) h n && is_open h n) 1 0) (places h)
namers-sum h g =
    let subs = length-filter (λ n. at (is_subscriber_of g) h n && is_open h n) (places h) in
    let conns = length-filter (λ n. at (is_connect_of g) h n && is_open h n) (places h) in
    let two = sum_by-plus (λ n. cond (at (is_subscriber_of g) h n && is_open h n) 1 0) (λ n. cond (at (is_connect_of g) h n && is_open h n) 1 0) (length h) in
    let both = sum_by-same (λ n. cond (at (is_subscriber_of g) h n && is_open h n) 1 0 + cond (at (is_connect_of g) h n && is_open h n) 1 0)
    (λ n. cond (at (names g) h n && is_open h n) 1 0) (length h) (λ n l. sym (one_name g (is_open h n) (slice_get h n))) in
    omega (arith, subs, conns, two, both)

-- the nodes of a hub, at each place --------------------------------------------------------------------------------------------------

-- what names a hub is a node
named_node : (g : ℕ) (h : List Event) (n : ℕ) → at (names g) h n ≡ true → at makes_node h n ≡ true
named_node g h n is = found (slice_get h n) is
  where
    event : (e : Event) → names g e ≡ true → makes_node e ≡ true
    event (Open place kind) named = refl
    event (Connect k) named = refl
    event _ named = absurd (false≢true named)

    found : (o : Option Event) → option_map_or (names g) o false ≡ true → option_map_or makes_node o false ≡ true
    found None named = absurd (false≢true named)
    found (Some e) named = event e named

-- an old place: the node was open before, and is still or has gone
old_place : (named : Bool) (makes makes' was is : Bool) (earlier : Bool) → earlier ≡ true → makes ≡ makes' → (named ≡ true → makes ≡ true) → (was ≡ false → is ≡ false) →
    cond (named && is) 1 0 + cond ((makes && not is) && not (makes' && not was)) (cond named 1 0) 0 ≡
    cond (named && was) 1 0 + cond (makes && not earlier) (cond named 1 0) 0
old_place named makes makes' was is earlier e same node stays = rw (e, sym same) (by_cases named makes was is node stays)
  where
    by_cases : (named makes was is : Bool) → (named ≡ true → makes ≡ true) → (was ≡ false → is ≡ false) →
        cond {A = ℕ} (named && is) 1 0 + cond {A = ℕ} ((makes && not is) && not (makes && not was)) (cond named 1 0) 0 ≡
        cond {A = ℕ} (named && was) 1 0 + cond {A = ℕ} (makes && not true) (cond named 1 0) 0
    by_cases named makes was is node stays = grind (arith, common_steps)

-- a new place: the node was made
new_place : (named makes makes' was is : Bool) (earlier : Bool) → earlier ≡ false → makes' ≡ false → (named ≡ true → makes ≡ true) → was ≡ false →
    cond (named && is) 1 0 + cond ((makes && not is) && not (makes' && not was)) (cond named 1 0) 0 ≡
    cond (named && was) 1 0 + cond (makes && not earlier) (cond named 1 0) 0
new_place named makes makes' was is earlier e none node none_open = rw (e, none, none_open) (by_cases named makes is node)
  where
    by_cases : (named makes is : Bool) → (named ≡ true → makes ≡ true) →
        cond {A = ℕ} (named && is) 1 0 + cond {A = ℕ} ((makes && not is) && not (false && not false)) (cond named 1 0) 0 ≡
        cond {A = ℕ} (named && false) 1 0 + cond {A = ℕ} (makes && not false) (cond named 1 0) 0
    by_cases named makes is node = grind (arith, common_steps)

at_place : (h added : List Event) (g n : ℕ) →
    cond (at (names g) (h ++ added) n && is_open (h ++ added) n) 1 0 + cond (goes h (h ++ added) n) (cond (at (names g) (h ++ added) n) 1 0) 0 ≡
    cond (at (names g) (h ++ added) n && is_open h n) 1 0 + cond (is_made h (h ++ added) n) (cond (at (names g) (h ++ added) n) 1 0) 0
at_place h added g n = by_order (cases_lt n (length h))
  where
    k : List Event
    k = h ++ added

    by_order : (n < length h) ⊎ (length h ≤ n) →
        cond (at (names g) (h ++ added) n && is_open (h ++ added) n) 1 0 + cond (goes h (h ++ added) n) (cond (at (names g) (h ++ added) n) 1 0) 0 ≡
        cond (at (names g) (h ++ added) n && is_open h n) 1 0 + cond (is_made h (h ++ added) n) (cond (at (names g) (h ++ added) n) 1 0) 0
    by_order (inl l) = old_place (at (names g) (h ++ added) n) (at makes_node (h ++ added) n) (at makes_node h n) (is_open h n) (is_open (h ++ added) n) (nat_lt n (length h))
        (lt-ltb n (length h) l) (at-append makes_node h added n l) (named_node g (h ++ added) n) (λ closed. stays_closed_after h added n l closed)
    by_order (inr p) = new_place (at (names g) (h ++ added) n) (at makes_node (h ++ added) n) (at makes_node h n) (is_open h n) (is_open (h ++ added) n) (nat_lt n (length h))
        (le-ltb n (length h) p) (past makes_node) (named_node g (h ++ added) n) (is_open_past h n p)
      where
        past : (q : Event → Bool) → at q h n ≡ false
        past q = ap (λ o. option_map_or q o false) (slice_get_past h n p)

-- a node of the earlier history is named there as in the later one
open_named : (h added : List Event) (g n : ℕ) → cond {A = ℕ} (at (names g) (h ++ added) n && is_open h n) 1 0 ≡ cond (at (names g) h n && is_open h n) 1 0
open_named h added g n = by_order (cases_lt n (length h))
  where
    closed : (a b o : Bool) → o ≡ false → cond {A = ℕ} (a && o) 1 0 ≡ cond {A = ℕ} (b && o) 1 0
    closed a b o is = grind (arith, common_steps)

    by_order : (n < length h) ⊎ (length h ≤ n) → cond {A = ℕ} (at (names g) (h ++ added) n && is_open h n) 1 0 ≡ cond (at (names g) h n && is_open h n) 1 0
    by_order (inl l) = ap (λ (b : Bool). cond {A = ℕ} (b && is_open h n) 1 0) (at-append (names g) h added n l)
    by_order (inr p) = closed (at (names g) (h ++ added) n) (at (names g) h n) (is_open h n) (is_open_past h n p)

pub balance : (h added : List Event) (g : ℕ) (made gone : List ℕ) → AreJust (is_made h (h ++ added)) made → AreJust (goes h (h ++ added)) gone →
    namers (h ++ added) g + naming (h ++ added) g gone ≡ namers h g + naming (h ++ added) g made
balance h added g made gone opened closed =
    let k = h ++ added in
    let size = length k in
    let weight : ℕ → ℕ = λ n. cond (at (names g) k n) 1 0 in
    let after = namers-sum k g in
    let before = namers-sum h g in
    let more = sum_more (λ n. cond (at (names g) h n && is_open h n) 1 0) (length h) (length added) (λ n p. closed_past n p) in
    let long : length h + length added ≡ size = sym (length-append h added) in
    let same = sum_by-same (λ n. cond (at (names g) k n && is_open h n) 1 0) (λ n. cond (at (names g) h n && is_open h n) 1 0) size (λ n l. sym (open_named h added g n)) in
    let out = sum_just (goes h k) weight gone size closed within_gone in
    let new = sum_just (is_made h k) weight made size opened within_made in
    let all = sums_balance (λ n. cond (at (names g) k n && is_open k n) 1 0) (λ n. cond (goes h k n) (weight n) 0)
    (λ n. cond (at (names g) k n && is_open h n) 1 0) (λ n. cond (is_made h k n) (weight n) 0) size (λ n l. at_place h added g n) in
    let extended = ap (λ (m : ℕ). sum_by (λ n. cond (at (names g) h n && is_open h n) 1 0) (range_with_len 0 m)) long in
    omega (arith, after, before, more, same, out, new, all, extended)
  where
    closed_past : (n : ℕ) → length h ≤ n → cond {A = ℕ} (at (names g) h n && is_open h n) 1 0 ≡ 0
    closed_past n p = none (at (names g) h n) (is_open h n) (is_open_past h n p)
      where
        none : (a o : Bool) → o ≡ false → cond {A = ℕ} (a && o) 1 0 ≡ 0
        none a o is = grind (arith, common_steps)

    within_gone : (n : ℕ) → goes h (h ++ added) n ≡ true → n < length (h ++ added)
    within_gone n is =
        at_within makes_node (h ++ added) n (and_parts (at makes_node (h ++ added) n) (not (is_open (h ++ added) n)) (and_parts (has_gone (h ++ added) n) (not (has_gone h n)) is).0).0

    within_made : (n : ℕ) → is_made h (h ++ added) n ≡ true → n < length (h ++ added)
    within_made n is = at_within makes_node (h ++ added) n (and_parts (at makes_node (h ++ added) n) (not (nat_lt n (length h))) is).0

goes_on : (h more : List Event) (made gone : List ℕ) (old new : List PooledHub) → IsPoolOf h old → Follows h (h ++ more) made gone old new → IsPoolOf (h ++ more) new
goes_on h more made gone old new pool follows = record { made = still_made; counted = counted }
  where
    still_made : (i : ℕ) (hub : PooledHub) → slice_get new i ≡ Some hub → slice_get (h ++ more) hub.number ≡ Some (Hub hub.mode)
    still_made i hub there =
        let was = follows.moved i hub there in
        let made_was = pool.made i was.0 was.1 in
        ap (λ (g : ℕ). slice_get (h ++ more) g) was.2 ∙ slice_get-append h more (was.0).number (slice_get_within h (was.0).number (Hub (was.0).mode) made_was) ∙ made_was ∙
        ap (λ (m : Mode). Some (Hub m)) (sym was.3)

    counted : (i : ℕ) (hub : PooledHub) → slice_get new i ≡ Some hub → hub.many ≡ namers (h ++ more) hub.number
    counted i hub there =
        let was = follows.moved i hub there in
        let b = balance h more hub.number made gone follows.opened follows.closed in
        let many = pool.counted i was.0 was.1 in
        let number = ap (λ (g : ℕ). namers h g) was.2 in
        let moved = was.4 in
        omega (arith, b, many, number, moved)

-- a new hub ---------------------------------------------------------------------------------------------------------------------------

-- an event that makes no node and shuts none: nothing is made, and nothing goes
nothing_just : (test : ℕ → Bool) → ((n : ℕ) → test n ≡ false) → AreJust test []
nothing_just test never = record {
  each = λ k d l. absurd (omega arith);
  every = λ n is. absurd (false≢true (sym (never n) ∙ is));
  once = λ i j d l m. absurd (omega arith);
}

-- the event at a place is an old one, or the hub
at_old : (h : List Event) (mode : Mode) (q : Event → Bool) → q (Hub mode) ≡ false → (n : ℕ) → at q (h ++ Hub mode ∷ []) n ≡ at q h n
at_old h mode q not_it n = by_order (cases_order n (length h))
  where
    past : (k : ℕ) → length h ≤ k → at q h k ≡ false
    past k l = ap (λ o. option_map_or q o false) (slice_get_past h k l)

    by_order : (n ≡ length h) ⊎ ((n < length h) ⊎ (length h < n)) → at q (h ++ Hub mode ∷ []) n ≡ at q h n
    by_order (inl same) = ap (λ (k : ℕ). at q (h ++ Hub mode ∷ []) k) same ∙ ap (λ o. option_map_or q o false) (slice_get_last h (Hub mode)) ∙ not_it ∙
        sym (past n (omega arith))
    by_order (inr (inl l)) = at-append q h (Hub mode ∷ []) n l
    by_order (inr (inr g)) = ap (λ o. option_map_or q o false) (slice_get_past (h ++ Hub mode ∷ []) n (let l = length-append h (Hub mode ∷ []) in omega arith)) ∙
        sym (past n (omega arith))

same_open : (h : List Event) (mode : Mode) (n : ℕ) → is_open (h ++ Hub mode ∷ []) n ≡ is_open h n
same_open h mode n = is_open_unchanged h (Hub mode) refl refl n

no_node_made : (h : List Event) (mode : Mode) → AreJust (is_made h (h ++ Hub mode ∷ [])) []
no_node_made h mode = nothing_just (is_made h (h ++ Hub mode ∷ [])) never
  where
    old_only : (made within : Bool) → (made ≡ true → within ≡ true) → (made && not within) ≡ false
    old_only made within only = grind (arith, common_steps)

    never : (n : ℕ) → is_made h (h ++ Hub mode ∷ []) n ≡ false
    never n = old_only (at makes_node (h ++ Hub mode ∷ []) n) (nat_lt n (length h))
        (λ is. lt-ltb n (length h) (at_within makes_node h n (sym (at_old h mode makes_node refl n) ∙ is)))

none_goes : (h : List Event) (mode : Mode) → AreJust (goes h (h ++ Hub mode ∷ [])) []
none_goes h mode = nothing_just (goes h (h ++ Hub mode ∷ [])) never
  where
    not_both : (made was made' was' : Bool) → made' ≡ made → was' ≡ was → ((made' && not was') && not (made && not was)) ≡ false
    not_both made was made' was' p q = rw (p, q) (itself (made && not was))
      where
        itself : (b : Bool) → (b && not b) ≡ false
        itself true = refl
        itself false = refl

    never : (n : ℕ) → goes h (h ++ Hub mode ∷ []) n ≡ false
    never n = not_both (at makes_node h n) (is_open h n) (at makes_node (h ++ Hub mode ∷ []) n) (is_open (h ++ Hub mode ∷ []) n)
        (at_old h mode makes_node refl n) (same_open h mode n)

-- in a lawful history nothing names a number that is not there yet
unnamed_yet : (base : Kept) (h : List Event) → IsLawful base h → (n : ℕ) (b : Bool) → at (names (length h)) h n ≡ b → b ≡ false
unnamed_yet base h law n false is = refl
unnamed_yet base h law n true is = absurd (by_sort (or_cases_at (slice_get h n) is))
  where
    g : ℕ
    g = length h

    or_cases_at : (o : Option Event) → option_map_or (names g) o false ≡ true → (option_map_or (is_subscriber_of g) o false ≡ true) ⊎ (option_map_or (is_connect_of g) o false ≡ true)
    or_cases_at None named = absurd (false≢true named)
    or_cases_at (Some e) named = or_cases (is_subscriber_of g e) (is_connect_of g e) named

    by_sort : (at (is_subscriber_of g) h n ≡ true) ⊎ (at (is_connect_of g) h n ≡ true) → ⊥
    by_sort (inl subscribes) = let l = subscriber_hub base h law g n subscribes in omega arith
    by_sort (inr connects) =
        let l = connection_hub base h law g n (at_connect h g n connects) in
        let w = at_within (is_connect_of g) h n connects in omega arith

unnamed : (base : Kept) (h : List Event) (mode : Mode) → IsLawful base h → namers (h ++ Hub mode ∷ []) (length h) ≡ 0
unnamed base h mode law =
    namers-sum (h ++ Hub mode ∷ []) (length h) ∙
    sum_by_none (λ n. cond (at (names (length h)) (h ++ Hub mode ∷ []) n && is_open (h ++ Hub mode ∷ []) n) 1 0) (length (h ++ Hub mode ∷ []))
    (λ n l. nothing (at (names (length h)) (h ++ Hub mode ∷ []) n) (is_open (h ++ Hub mode ∷ []) n)
    (at_old h mode (names (length h)) refl n ∙ unnamed_yet base h law n (at (names (length h)) h n) refl))
  where
    nothing : (a o : Bool) → a ≡ false → cond {A = ℕ} (a && o) 1 0 ≡ 0
    nothing a o is = rw is refl

added : (base : Kept) (h : List Event) (mode : Mode) (hubs : List PooledHub) → IsLawful base h → IsPoolOf h hubs →
    IsPoolOf (h ++ Hub mode ∷ []) (hubs ++ new_hub (length h) mode ∷ [])
added base h mode hubs law pool = record { made = made; counted = counted }
  where
    made : (i : ℕ) (hub : PooledHub) → slice_get (hubs ++ new_hub (length h) mode ∷ []) i ≡ Some hub → slice_get (h ++ Hub mode ∷ []) hub.number ≡ Some (Hub hub.mode)
    made i hub there = by_case (pushed hubs (new_hub (length h) mode) hub i there)
      where
        by_case : (slice_get hubs i ≡ Some hub) ⊎ (new_hub (length h) mode ≡ hub) → slice_get (h ++ Hub mode ∷ []) hub.number ≡ Some (Hub hub.mode)
        by_case (inl old) =
            let was = pool.made i hub old in slice_get-append h (Hub mode ∷ []) hub.number (slice_get_within h hub.number (Hub hub.mode) was) ∙ was
        by_case (inr new) = subst (λ (x : PooledHub). slice_get (h ++ Hub mode ∷ []) x.number ≡ Some (Hub x.mode)) new (slice_get_last h (Hub mode))

    counted : (i : ℕ) (hub : PooledHub) → slice_get (hubs ++ new_hub (length h) mode ∷ []) i ≡ Some hub → hub.many ≡ namers (h ++ Hub mode ∷ []) hub.number
    counted i hub there = by_case (pushed hubs (new_hub (length h) mode) hub i there)
      where
        by_case : (slice_get hubs i ≡ Some hub) ⊎ (new_hub (length h) mode ≡ hub) → hub.many ≡ namers (h ++ Hub mode ∷ []) hub.number
        by_case (inl old) =
            let was = pool.counted i hub old in
            let b = balance h (Hub mode ∷ []) hub.number [] [] (no_node_made h mode) (none_goes h mode) in omega arith
        by_case (inr new) = subst (λ (x : PooledHub). x.many ≡ namers (h ++ Hub mode ∷ []) x.number) new (sym (unnamed base h mode law))

-- a checkpoint ------------------------------------------------------------------------------------------------------------------------

length_same : (ns : List ℕ) → length (map (λ n. n) ns) ≡ length ns
length_same [] = refl
length_same (n ∷ ns) = let rest = length_same ns in omega arith

over_checkpoint : (b c : Kept) (h k : List Event) (hubs : List PooledHub) → IsLawful b h → IsLawful c k → Agree b h c k → IsPoolOf h hubs → IsPoolOf k hubs
over_checkpoint b c h k hubs law other_law agree pool = record { made = made; counted = counted }
  where
    trees : AreTreesRead (λ n. n) (λ n. n) h k
    trees = trees_of (record { law = law; other_law = other_law; there = agree.there; back = agree.back })

    made : (i : ℕ) (hub : PooledHub) → slice_get hubs i ≡ Some hub → slice_get k hub.number ≡ Some (Hub hub.mode)
    made i hub there = agree.there.hub hub.number hub.mode (pool.made i hub there)

    counted : (i : ℕ) (hub : PooledHub) → slice_get hubs i ≡ Some hub → hub.many ≡ namers k hub.number
    counted i hub there =
        let g = hub.number in
        let subs = ap (λ (ns : List ℕ). length ns) (subscribers_by (λ n. n) (λ n. n) h k trees g refl) ∙ length_same (open_subscribers h g) in
        let conns = ap (λ (ns : List ℕ). length ns) (connections_by (λ n. n) (λ n. n) h k trees g refl) ∙ length_same (open_connections h g) in
        let was = pool.counted i hub there in omega (arith, subs, conns, was)

pub stays_the_pool : StaysThePool
stays_the_pool = record {
  begins = λ h. record { made = λ i hub there. absurd (none-some hub there); counted = λ i hub there. absurd (none-some hub there) };
  added = added;
  goes_on = goes_on;
  checkpoint = over_checkpoint;
}

pub free_serves_nobody : FreeServesNobody
free_serves_nobody h hubs pool i hub there none =
    let sum = pool.counted i hub there in (nothing (open_subscribers h hub.number) (omega arith), nothing (open_connections h hub.number) (omega arith))
  where
    nothing : (xs : List ℕ) → length xs ≡ 0 → xs ≡ []
    nothing [] is = refl
    nothing (x ∷ xs) is = absurd (omega arith)
