-- No more nodes name a hub than are open.
use Rattle.rx_pool.proofs.Common.{◌≡◌, ℕ, ◌+◌, ◌≤◌, ◌&&◌, Bool, true, false, cond, Option, Some, List, [], ◌∷◌, length, slice_get, refl, sym}
use Rattle.rx_pool.proofs.Common.{arith, option_map_or, Event, PooledHub, false≢true}
use Rattle.std.proofs.lemmas.List.Sums.{sum_by-cons, length-filter}
use Rattle.std.specs.List.{count_by}
use Rattle.rx_event.specs.declared.event.Event.TheVariants.{Connect}
use Rattle.rx_event.specs.Events.{is_subscriber_of, is_connect_of}
use Rattle.rx_event.specs.Tree.{at, is_open, places, open_nodes}
use Rattle.rx_pool.specs.Counts.{namers, IsPoolOf}

-- two tests of which at most one passes, where a third does
counts_apart : (p q r : ℕ → Bool) → ((n : ℕ) → cond {A = ℕ} (p n) 1 0 + cond (q n) 1 0 ≤ cond (r n) 1 0) → (ns : List ℕ) →
    count_by p ns + count_by q ns ≤ count_by r ns
counts_apart p q r one [] = omega arith
counts_apart p q r one (n ∷ ns) =
    let a = sum_by-cons (λ m. cond (p m) 1 0) n ns in
    let b = sum_by-cons (λ m. cond (q m) 1 0) n ns in
    let c = sum_by-cons (λ m. cond (r m) 1 0) n ns in
    let here = one n in
    let rest = counts_apart p q r one ns in
    omega (arith, a, b, c, here, rest)

-- no node is a subscriber and a connection
not_both : (g : ℕ) (o : Option Event) → option_map_or (is_subscriber_of g) o false ≡ true → option_map_or (is_connect_of g) o false ≡ false
not_both g (Some (Connect k)) is = absurd (false≢true is)
not_both g _ is = refl

pub few_namers : (h : List Event) (g : ℕ) → namers h g ≤ length (open_nodes h)
few_namers h g =
    let a = length-filter (λ n. at (is_subscriber_of g) h n && is_open h n) (places h) in
    let b = length-filter (λ n. at (is_connect_of g) h n && is_open h n) (places h) in
    let c = length-filter (is_open h) (places h) in
    let sum = counts_apart (λ n. at (is_subscriber_of g) h n && is_open h n) (λ n. at (is_connect_of g) h n && is_open h n) (is_open h)
    (λ n. apart (at (is_subscriber_of g) h n) (at (is_connect_of g) h n) (is_open h n) (not_both g (slice_get h n))) (places h) in
    omega (arith, a, b, c, sum)
  where
    apart : (s c o : Bool) → (s ≡ true → c ≡ false) → cond {A = ℕ} (s && o) 1 0 + cond (c && o) 1 0 ≤ cond o 1 0
    apart true true o other = absurd (false≢true (sym (other refl)))
    apart true false true other = omega arith
    apart true false false other = omega arith
    apart false true true other = omega arith
    apart false true false other = omega arith
    apart false false true other = omega arith
    apart false false false other = omega arith

-- so the count of a hub of the pool is no larger
pub few_named : (h : List Event) (hubs : List PooledHub) → IsPoolOf h hubs → (i : ℕ) (hub : PooledHub) → slice_get hubs i ≡ Some hub →
    hub.many ≤ length (open_nodes h)
few_named h hubs pool i hub there = let many = pool.counted i hub there in let few = few_namers h hub.number in omega (arith, many, few)
