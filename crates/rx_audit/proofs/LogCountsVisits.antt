-- The log of visits, followed entry by entry, says how often each node is visited.
use Rattle.rx_audit.proofs.Common.{◌≡◌, ℕ, suc, ◌+◌, ◌*◌, ◌-◌, ◌<◌, ◌≤◌, List, [], ◌∷◌, length, take, drop, get_or, refl, sym, ap, ◌∙◌, arith, take-append-drop}
use Rattle.rx_audit.proofs.Common.{sum_by, mul-le-mul_left, sum_by-append, sum_by-cons, sum_by_more, Event, visited, onward, climb, visits, most_visits, Visit}
use Rattle.rx_audit.proofs.Common.{flow, times, IsOften, IsReached, none-some}
use Rattle.std.proofs.Math.Seq.{drop-cons}
use Rattle.std.proofs.lemmas.List.{drop_all}
use Rattle.rx_audit.proofs.FlowIsVisits.{sum_by-mono, flow-more, visits_many, IsWhole, visits_whole}
use Rattle.rx_audit.specs.Flow.{entered, AreEntered, weight}
use Rattle.rx_audit.proofs.Deliveries.{flow_spreads_most, flow_spreads_least, weight_one, weight_marking}
use Rattle.rx_audit.proofs.VisitLogEntries.{count_all, often_push}
use Rattle.std.proofs.Common.{rules}

times-mono : (f g : ℕ → ℕ) → ((n : ℕ) → f n ≤ g n) → (log : List Visit) → sum_by (times f) log ≤ sum_by (times g) log
times-mono f g le [] = omega arith
times-mono f g le (v ∷ log) =
    let a = mul-le-mul_left v.count (le v.node) in
    let b = times-mono f g le log in
    let c = sum_by-cons (times f) v log in
    let d = sum_by-cons (times g) v log in omega arith

times-same : (f g : ℕ → ℕ) → ((n : ℕ) → f n ≡ g n) → (log : List Visit) → sum_by (times f) log ≡ sum_by (times g) log
times-same f g same [] = refl
times-same f g same (v ∷ log) = rw (sum_by-cons (times f) v log, sum_by-cons (times g) v log, same v.node, times-same f g same log) refl

-- the first i entries of the log were followed
pub record IsFlowing (h : List Event) (leaf i : ℕ) (log : List Visit) (so_many : ℕ) : Type 0 where
  pub depth : ℕ
  pub upper : (number : ℕ → ℕ) (d : ℕ)
      → flow d h number leaf ≤ sum_by (times (weight h number)) (take i log) + sum_by (times (flow d h number)) (drop i log)
  pub lower : (number : ℕ → ℕ) (e k : ℕ) → k ≡ suc e + depth
      → sum_by (times (weight h number)) (take i log) + sum_by (times (flow (suc e) h number)) (drop i log) ≤ flow k h number leaf
  pub within : i ≤ length log
  pub total : so_many ≡ sum_by (times (weight h (λ n. 1))) (take i log) + sum_by (times (λ n. 1)) (drop i log)
  pub few : so_many ≤ 1048576
  pub often : IsOften log

-- the entry that is followed next, apart from those behind it
next_entry : (f : ℕ → ℕ) (log : List Visit) (i : ℕ) (v : Visit) → i < length log → v ≡ get_or log i v
    → sum_by (times f) (drop i log) ≡ v.count * f v.node + sum_by (times f) (drop (i + 1) log)
next_entry f log i v l is = let one : i + 1 ≡ suc i = omega arith in rw (one, drop-cons log i v l, ← is) (sum_by-cons (times f) v (drop (suc i) log))

followed_entry : (f : ℕ → ℕ) (log : List Visit) (i : ℕ) (v : Visit) → i < length log → v ≡ get_or log i v
    → sum_by (times f) (take (i + 1) log) ≡ sum_by (times f) (take i log) + v.count * f v.node
followed_entry f log i v l is = search (rules, sum_by_more, sum_by, take, is)

whole_sum : (f : ℕ → ℕ) (log : List Visit) (i : ℕ) → sum_by (times f) (take i log) + sum_by (times f) (drop i log) ≡ sum_by (times f) log
whole_sum f log i = sym (ap (sum_by (times f)) (sym (take-append-drop i log)) ∙ sum_by-append (times f) (take i log) (drop i log))

-- the leaf alone, once
pub flow_starts : (h : List Event) (leaf : ℕ) {log : List Visit} (v : Visit) → log ≡ v ∷ [] → v.node ≡ leaf → v.count ≡ 1 → IsFlowing h leaf 0 log 1
flow_starts h leaf v is node count = rw is (record {
  depth = 0;
  upper = λ number d. (let a = one (flow d h number) in omega arith);
  lower = λ number e k same. (let a = one (flow (suc e) h number) in let b : flow k h number leaf ≡ flow (suc e) h number leaf =
      ap (λ (j : ℕ). flow j h number leaf) (let t : k ≡ suc e = omega arith in t) in omega arith);
  within = omega arith;
  total = let a = one (λ n. 1) in omega arith;
  few = omega arith;
  often = often_push [] v (omega arith) (λ i u e. absurd (none-some u e));
}) where
  one : (f : ℕ → ℕ) → sum_by (times f) (v ∷ []) ≡ f leaf
  one f = let a = sum_by-cons (times f) v [] in let n : f v.node ≡ f leaf = ap f node in let c : v.count * f v.node ≡ 1 * f v.node =
      ap (λ (k : ℕ). k * f v.node) count in omega arith

-- an entry is one visit at least
counted_more : (h : List Event) (i : ℕ) (log : List Visit) → sum_by (times (λ n. 1)) log
    ≤ sum_by (times (weight h (λ n. 1))) (take i log) + sum_by (times (λ n. 1)) (drop i log)
counted_more h i log =
    let a = whole_sum (λ n. 1) log i in
    let b = times-mono (λ n. 1) (weight h (λ n. 1)) (λ n. omega arith) (take i log) in omega arith

-- all entries were followed
pub flow_ends : {h : List Event} {leaf i : ℕ} {log : List Visit} {total : ℕ} → length log ≤ i → IsFlowing h leaf i log total → IsReached h leaf log
unfolding visits climb most_visits
flow_ends {h} {leaf} {i} {log} {total} l s = record {
  few = rw (← count_all (visited 1048577 h (leaf ∷ []))) (let e = sums (λ n. 1) in let t = ended in let f = s.few in omega arith);
  often = s.often;
  sums = λ number marking. sym (sums number ∙ times-same (weight h number) number (weight_marking h number marking) log);
}
  where
    none : (f : ℕ → ℕ) → sum_by (times f) (drop i log) ≡ 0
    none f = ap (sum_by (times f)) (drop_all i log l)

    all : (f : ℕ → ℕ) → sum_by (times f) (take i log) ≡ sum_by (times f) log
    all f = let a = whole_sum f log i in let b = none f in omega arith

    ended : total ≡ sum_by (times (weight h (λ n. 1))) log
    ended = let t = s.total in let a = all (weight h (λ n. 1)) in let b = none (λ n. 1) in omega arith

    whole : (number : ℕ → ℕ) → IsWhole h (leaf ∷ []) s.depth number (sum_by (times (weight h number)) log)
    whole number = record {
      same = λ d m. (
          let u = s.upper number (suc d) in
          let w = s.lower number (d - s.depth) (suc d) (omega arith) in
          let a = all (weight h number) in
          let b = none (flow (suc d) h number) in
          let c = none (flow (suc (d - s.depth)) h number) in
          let e = sum_by-cons (flow (suc d) h number) leaf [] in
          omega arith);
    }

    sums : (number : ℕ → ℕ) → sum_by number (visited 1048577 h (leaf ∷ [])) ≡ sum_by (times (weight h number)) log
    sums number = visits_whole 1048577 h (leaf ∷ []) s.depth (λ f. sum_by (times (weight h f)) log) whole
        (let t = ended in let f = s.few in omega arith) number

-- entry i of the log, and the nodes on which an item goes from it, but for the roots
pub record IsEntry (h : List Event) (log : List Visit) (i : ℕ) (v : Visit) (next : List ℕ) : Type 0 where
  pub within : i < length log
  pub is : v ≡ get_or log i v
  pub goes_on : AreEntered h next (onward h v.node)

-- behind entry i those nodes were added to the log, each as often as the entry is reached
pub record HasSpread (i : ℕ) (log new : List Visit) (v : Visit) (next : List ℕ) : Type 0 where
  pub kept : take (i + 1) new ≡ take (i + 1) log
  pub more : (number : ℕ → ℕ) → sum_by (times number) (drop (i + 1) new) ≡ sum_by (times number) (drop (i + 1) log) + v.count * sum_by number next
  pub often : IsOften new
  pub grows : length log ≤ length new

-- one entry more
pub flow_step : {h : List Event} {leaf i : ℕ} {log new : List Visit} {total : ℕ} {v : Visit} {next : List ℕ} → IsEntry h log i v next
    → HasSpread i log new v next → total + v.count * length (onward h v.node) ≤ 1048576 → IsFlowing h leaf i log total
    → IsFlowing h leaf (i + 1) new (total + v.count * length (onward h v.node))
flow_step {h} {leaf} {i} {log} {new} {total} {v} {next} entry spread few s = record {
  depth = s.depth + 1;
  upper = upper;
  lower = lower;
  within = let l = entry.within in let grows = spread.grows in omega arith;
  total = sums;
  few = few;
  often = spread.often;
}
  where
    followed : (f : ℕ → ℕ) → sum_by (times f) (take (i + 1) new) ≡ sum_by (times f) (take i log) + v.count * f v.node
    followed f = ap (sum_by (times f)) spread.kept ∙ followed_entry f log i v entry.within entry.is

    grown : (f g : ℕ → ℕ) → v.count * (f v.node + sum_by (entered h g) (onward h v.node)) ≡ v.count * f v.node + v.count * sum_by g next
    grown f g = rw (entry.goes_on g) (omega arith)

    upper : (number : ℕ → ℕ) (d : ℕ)
        → flow d h number leaf ≤ sum_by (times (weight h number)) (take (i + 1) new) + sum_by (times (flow d h number)) (drop (i + 1) new)
    upper number d =
        let u = s.upper number d in
        let a = next_entry (flow d h number) log i v entry.within entry.is in
        let b = mul-le-mul_left v.count (flow-more d h number v.node) in
        let m = mul-le-mul_left v.count (flow_spreads_most d h number v.node) in
        let c = grown (weight h number) (flow d h number) in
        let e = spread.more (flow d h number) in
        let f = followed (weight h number) in omega arith

    lower : (number : ℕ → ℕ) (e k : ℕ) → k ≡ suc e + (s.depth + 1)
        → sum_by (times (weight h number)) (take (i + 1) new) + sum_by (times (flow (suc e) h number)) (drop (i + 1) new) ≤ flow k h number leaf
    lower number e k same =
        let w = s.lower number (suc e) k (omega arith) in
        let a = next_entry (flow (suc (suc e)) h number) log i v entry.within entry.is in
        let b = times-mono (flow (suc e) h number) (flow (suc (suc e)) h number) (flow-more (suc e) h number) (drop (i + 1) log) in
        let m = mul-le-mul_left v.count (flow_spreads_least e h number v.node) in
        let c = grown (weight h number) (flow (suc e) h number) in
        let d = spread.more (flow (suc e) h number) in
        let f = followed (weight h number) in omega arith

    sums : total + v.count * length (onward h v.node) ≡ sum_by (times (weight h (λ n. 1))) (take (i + 1) new) + sum_by (times (λ n. 1)) (drop (i + 1) new)
    sums =
        let t = s.total in
        let a = next_entry (λ n. 1) log i v entry.within entry.is in
        let f = followed (weight h (λ n. 1)) in
        let d = spread.more (λ n. 1) in
        let c = grown (weight h (λ n. 1)) (λ n. 1) in
        let e = ap (λ (k : ℕ). v.count * k) (weight_one h v.node) in omega arith

-- too many visits
pub flow_over : {h : List Event} {leaf i : ℕ} {log : List Visit} {total : ℕ} {v : Visit} → i < length log → v ≡ get_or log i v
    → 1048576 < total + v.count * length (onward h v.node) → IsFlowing h leaf i log total → 1048576 < visits h leaf
unfolding visits climb most_visits
flow_over {h} {leaf} {i} {log} {v} within is many s = rw (visits_many 1048577 (2 + s.depth) h (leaf ∷ []) enough) (omega arith) where
  at_least : (n : ℕ) → 1 ≤ flow 1 h (λ n. 1) n
  at_least n = omega arith

  at_least_two : (n : ℕ) → 1 ≤ flow 2 h (λ n. 1) n
  at_least_two n = omega arith

  enough : 1048577 ≤ sum_by (flow (2 + s.depth) h (λ n. 1)) (leaf ∷ [])
  enough =
      let w = s.lower (λ n. 1) 1 (2 + s.depth) refl in
      let a = next_entry (flow 2 h (λ n. 1)) log i v within is in
      let b = times-mono (λ n. 1) (flow 2 h (λ n. 1)) at_least_two (drop (i + 1) log) in
      let c = next_entry (λ n. 1) log i v within is in
      let t = s.total in
      let e = sum_by-mono (λ n. 1) (flow 1 h (λ n. 1)) at_least (onward h v.node) in
      let f = count_all (onward h v.node) in
      let two : 1 + length (onward h v.node) ≤ flow 2 h (λ n. 1) v.node = omega arith in
      let m = mul-le-mul_left v.count two in
      let z = sum_by-cons (flow (2 + s.depth) h (λ n. 1)) leaf [] in omega arith

length_counted : (log : List Visit) → IsOften log → length log ≤ sum_by (times (λ n. 1)) log
length_counted [] often = omega arith
length_counted (v ∷ log) often =
    let a = often 0 v refl in
    let b = length_counted log (λ i u e. often (suc i) u e) in
    let c = sum_by-cons (times (λ n. 1)) v log in omega arith

pub length_few : {h : List Event} {leaf i : ℕ} {log : List Visit} {total : ℕ} → IsFlowing h leaf i log total → length log ≤ total
length_few {h} {i = i} {log = log} s =
    let a = length_counted log s.often in
    let b = counted_more h i log in
    let t = s.total in omega arith

-- what is left, with what is added to it, is no more than may be
pub few_left : {h : List Event} {leaf i : ℕ} {log : List Visit} {total : ℕ} (v : Visit) (next : List ℕ) → IsEntry h log i v next
    → IsFlowing h leaf i log total → total + v.count * length (onward h v.node) ≤ 1048576
    → sum_by (times (λ n. 1)) (drop (i + 1) log) + v.count * length next ≤ 1048576
few_left {h} {i = i} {log = log} v next entry s few =
    let a = counted_more h i log in
    let t = s.total in
    let w = whole_sum (λ n. 1) log (i + 1) in
    let g = entry.goes_on (λ n. 1) in
    let c = count_all next in
    let o = weight_one h v.node in
    let l : length next ≤ length (onward h v.node) = omega arith in
    let m = mul-le-mul_left v.count l in omega arith
