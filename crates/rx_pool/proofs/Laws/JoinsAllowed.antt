-- A node may join the hub that was chosen for its share, and so may the connection that comes with it.
use Rattle.rx_event.proofs.Laws.Common.{◌≡◌, ℕ, suc, zero, ◌+◌, ◌<◌, ◌≤◌, true, false, List, [], ◌∷◌, length, Option, Some}
use Rattle.rx_event.proofs.Laws.Common.{refl, ap, ◌∙◌, arith, slice_get, option_map_or, false≢true, eq-eqb, lt-ltb, makes_node}
use Rattle.rx_event.proofs.Laws.Common.{IsSettled, MayFollow, forced, allowed, slice_get_within}
use Rattle.std.proofs.Common.{◌^◌, slice_set, Ok}
use Rattle.rx_event.specs.declared.event.Event.{Event}
use Rattle.rx_event.specs.declared.event.Mode.{Mode}
use Rattle.rx_event.specs.declared.event.Mode.TheVariants.{Auto, Manual}
use Rattle.rx_event.specs.Allowed.{IsAllowed, most_nodes, opened, connected}
use Rattle.rx_event.specs.Kept.{Kept}
use Rattle.rx_event.specs.Lawful.{opened_with}
use Rattle.rx_event.specs.Sames.{same_mode}
use Rattle.rx_event.specs.Tree.{open_nodes}
use Rattle.rx_pool.specs.declared.search.PooledHub.{PooledHub}
use Rattle.rx_pool.specs.declared.search.Share.{Share}
use Rattle.rx_pool.specs.Pool.{changed, joined, serves}
use Rattle.rx_pool.specs.Choice.{choice, passes}
use Rattle.rx_pool.specs.Counts.{IsPoolOf}
use Rattle.rx_pool.specs.Ties.{IsPlain, MayJoin}
use Rattle.rx_pool.proofs.Laws.Choices.{chooses_admissible}
use Rattle.rx_pool.proofs.Laws.FewNamers.{few_named}

few_allowed : (base : Kept) (h : List Event) (e : Event) → IsAllowed base h e → makes_node e ≡ true → length (open_nodes h) + 1 ≤ most_nodes
few_allowed base h e (opened free hubbed few two) node = few
few_allowed base h e (connected manual none few) node = (let l = few in omega arith)
few_allowed base h e _ node = absurd (false≢true node)

-- where a node may be made fewer are open than may be
pub few_open : (base : Kept) (h : List Event) (e : Event) → IsSettled base h → MayFollow base h e → makes_node e ≡ true → length (open_nodes h) + 1 ≤ most_nodes
few_open base h e settled (forced f) node = absurd (settled.none e f)
few_open base h e settled (allowed rests a) node = few_allowed base h e a node
few_open base h e settled (opened_with is one o) node = absurd (false≢true node)

most_is : most_nodes ≡ 1048576
unfolding most_nodes
most_is = refl

-- so hubs have room in their counts
pub few_many : (base : Kept) (h : List Event) (e : Event) (hubs : List PooledHub) → IsSettled base h → MayFollow base h e → makes_node e ≡ true → IsPoolOf h hubs →
    (i : ℕ) (hub : PooledHub) → slice_get hubs i ≡ Some hub → hub.many + 2 < 2 ^ 32
few_many base h e hubs settled next node pool i hub there =
    let few = few_open base h e settled next node in
    let most = most_is in
    let many = few_named h hubs pool i hub there in
    omega (arith, few, most, many)

-- the first of them
pub first_may : (base : Kept) (h : List Event) (e : Event) (hubs : List PooledHub) (share : Share) (limit place : ℕ) → IsSettled base h → MayFollow base h e →
    makes_node e ≡ true → IsPoolOf h hubs → IsPlain hubs → choice hubs share limit ≡ Ok place → MayJoin hubs place share.word
first_may base h e hubs share limit place settled next node pool plain chosen =
    (chooses_admissible hubs share limit place plain.apart chosen).may
    (λ hub there. (let few = few_many base h e hubs settled next node pool place hub there in omega (arith, few)))

set_same : (xs : List PooledHub) (i : ℕ) (y : PooledHub) → i < length xs → slice_get (slice_set xs i y) i ≡ Some y
set_same [] i y l = absurd (omega arith)
set_same (x ∷ xs) zero y l = refl
set_same (x ∷ xs) (suc i) y l = set_same xs i y (omega arith)

pub joined_there : (hubs : List PooledHub) (place word : ℕ) (hub : PooledHub) → slice_get hubs place ≡ Some hub →
    slice_get (changed (joined word) place hubs) place ≡ Some (joined word hub)
joined_there hubs place word hub there =
    ap (λ (o : Option PooledHub). slice_get (option_map_or (λ (x : PooledHub). slice_set hubs place (joined word x)) o hubs) place) there ∙
    set_same hubs place (joined word hub) (slice_get_within hubs place hub there)

mode_same : (m : Mode) → same_mode m m ≡ true
mode_same Auto = refl
mode_same Manual = refl

-- and behind it the second
pub second_may : (hubs : List PooledHub) (place word : ℕ) (hub : PooledHub) → slice_get hubs place ≡ Some hub → hub.many + 2 < 2 ^ 32 →
    IsPlain (changed (joined word) place hubs) → MayJoin (changed (joined word) place hubs) place word
second_may hubs place word hub there few plain = record {
  hub = joined word hub;
  there = joined_there hubs place word hub there;
  own = λ some. refl;
  alone = λ i is. plain.apart (record { word = word; mode = hub.mode; level = 0 }) i place is serves_here;
  few = (let l = few in omega (arith, l));
} where
  serves_here : passes (serves hub.mode word) (changed (joined word) place hubs) place ≡ true
  serves_here = ap (λ (o : Option PooledHub). option_map_or (serves hub.mode word) o false) (joined_there hubs place word hub there) ∙
      (rw (mode_same hub.mode, lt-ltb 0 (hub.many + 1) (omega arith), eq-eqb word word refl) refl)
