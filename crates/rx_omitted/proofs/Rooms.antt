-- What is left out takes room: without it there is no less.
use Rattle.rx_event.proofs.Laws.Common.{◌≡◌, ℕ, ◌+◌, ◌*◌, ◌<◌, ◌≤◌, Bool, true, false, List, [], ◌∷◌, length, cond, nat_lt, map}
use Rattle.rx_event.proofs.Laws.Common.{refl, sym, ap, ◌∙◌, not, ◌&&◌, arith, Kept, count_by, is_merging, is_auto_hub, places, is_open, open_nodes}
use Rattle.rx_event.proofs.Laws.Common.{open_count, debt, IsLawful, length-map, length-filter, lt-ltb, ltb-true, Stop, stops, sum_by-cons}
use Rattle.rx_event.specs.Totals.{debt_of, kept_debt}
use Rattle.rx_event.specs.Moments.{is_projection}
use Rattle.rx_event.specs.Renumbered.{place_by, kind_by, call_by}
use Rattle.rx_event.specs.Causes.{has_connection, forces_connect, is_crowded, is_over, added_by, end_at, nodes_opened}
use Rattle.rx_event.specs.Calls.{Call, Opening, OpeningUsing, Emitting}
use Rattle.rx_omitted.specs.Imports.{Event, Place, Root, Source, Inner, Notifier, Kind, Sub}
use Rattle.rx_omitted.specs.Named.{named_in_kind, named_in_call, Stay_all}
use Rattle.rx_omitted.specs.Omitted.{number, what_stays}
use Rattle.rx_omitted.proofs.Omits.{Omits}
use Rattle.rx_event.proofs.Laws.TreeRead.{stop_by, merging_by}
use Rattle.rx_omitted.proofs.Numbers.{number-le_itself, length-what_stays}
use Rattle.rx_omitted.proofs.Staying.{at_by, sum_places}
use Rattle.rx_omitted.proofs.Tests.{autos}
use Rattle.rx_omitted.proofs.Tree.{open_by}
use Rattle.rx_omitted.proofs.Fared.{owned_by, held_by, waiting_by, out_by, connections_by}
use Rattle.rx_omitted.proofs.Reached.{stops_by}
use Rattle.rx_omitted.proofs.Kept.{owed_by}
use Rattle.rx_omitted.proofs.May.{few_open}

less_so : (m x y : ℕ) → x ≤ y → nat_lt m x ≡ true → nat_lt m y ≡ true
less_so m x y l holds = let w : m < x = ltb-true m x holds in lt-ltb m y (omega arith)

projection_by : (r : ℕ → ℕ) (s : Stop) → is_projection (stop_by r s) ≡ is_projection s
projection_by r s = grind arith

projected_by_map : (r : ℕ → ℕ) (ss : List Stop) → count_by is_projection (map (stop_by r) ss) ≡ count_by is_projection ss
projected_by_map r [] = refl
projected_by_map r (s ∷ ss) = sum_by-cons (λ x. cond (is_projection x) 1 0) (stop_by r s) (map (stop_by r) ss) ∙
    (λ i. cond (projection_by r s i) 1 0 + projected_by_map r ss i) ∙ sym (sum_by-cons (λ x. cond (is_projection x) 1 0) s ss)

end_at_by : (r : ℕ → ℕ) (place : Place) → end_at (place_by r place) ≡ end_at place
end_at_by r place = grind arith

module _ (base : Kept) (omit : ℕ → Bool) (h : List Event) (a : Omits base omit h) where
  pub has_connection_by : (g : ℕ) → omit g ≡ false → has_connection (what_stays omit h) (number omit g) ≡ has_connection h g
  has_connection_by g up = ap (λ xs. nat_lt 0 (length xs)) (connections_by base omit h a g up) ∙ ap (nat_lt 0) (length-map _ (number omit))

  pub forces_by : (kind : Kind) → Stay_all omit (named_in_kind kind) → forces_connect (what_stays omit h) (kind_by (number omit) kind) ≡ forces_connect h kind
  forces_by (Sub g) all = λ i. at_by base omit h a is_auto_hub is_auto_hub (autos omit).by g all.0 i && not (has_connection_by g all.0 i)
  forces_by _ all = refl

  pub kind_stays : (place : Place) (kind : Kind) → Stay_all omit (named_in_call (Opening place kind)) → Stay_all omit (named_in_kind kind)
  kind_stays Root kind all = all
  kind_stays (Source p) kind all = all.1
  kind_stays (Inner p) kind all = all.1
  kind_stays (Notifier p) kind all = all.1

  added_same : (call : Call) → Stay_all omit (named_in_call call) → added_by (what_stays omit h) (call_by (number omit) call) ≡ added_by h call
  added_same (Opening place kind) all =
      λ i. 1 + end_at_by (number omit) place i + 2 * cond (forces_by kind (kind_stays place kind all) i) 1 0
  added_same (OpeningUsing place tag) all = λ i. 2 + end_at_by (number omit) place i + 2
  added_same (Emitting leaf value) all =
      ap (λ ss. 1 + count_by is_projection ss) (stops_by base omit h a leaf all.0).0 ∙ ap (λ n. 1 + n) (projected_by_map (number omit) (stops h leaf))
  added_same _ all = refl

  pub nodes_opened_by : (kind : Kind) → Stay_all omit (named_in_kind kind) → nodes_opened (what_stays omit h) (kind_by (number omit) kind) ≡ nodes_opened h kind
  nodes_opened_by kind all = λ i. 1 + cond (forces_by kind all i) 1 0

  module _ (law : IsLawful base h) where
    fewer_open : open_count (what_stays omit h) ≤ open_count h
    fewer_open =
        let less = few_open base omit h a law in
        let here : length (open_nodes h) ≡ open_count h = length-filter (is_open h) (places h) in
        let there : length (open_nodes (what_stays omit h)) ≡ open_count (what_stays omit h) =
        length-filter (is_open (what_stays omit h)) (places (what_stays omit h)) in
        omega arith

    pub crowded_by : (more : ℕ) → is_crowded (what_stays omit h) more ≡ true → is_crowded h more ≡ true
    crowded_by more = less_so _ (open_count (what_stays omit h) + more) (open_count h + more) (let less = fewer_open in omega arith)

    kept_debt_by : (n : ℕ) → omit n ≡ false → kept_debt (what_stays omit h) (number omit n) ≡ kept_debt h n
    kept_debt_by n stay = λ i. cond (owned_by base omit h a n stay i) 2 (cond (held_by base omit h a n stay i) 1 (cond (waiting_by base omit h a n stay i) 1 0))

    debt_of_by : (n : ℕ) → omit n ≡ false → debt_of base (what_stays omit h) (number omit n) ≡ debt_of base h n
    debt_of_by n stay = λ i. cond (open_by base omit h a n stay i) 1 0 + kept_debt_by n stay i + cond (out_by base omit h a n stay i) 1 0 +
        cond (open_by base omit h a n stay i && at_by base omit h a is_merging is_merging (λ e all. merging_by (number omit) e) n stay i)
        (owed_by base omit h a law n stay i) 0

    pub less_debt : debt base (what_stays omit h) ≤ debt base h
    unfolding debt
    less_debt = sum_places omit (debt_of base h) (debt_of base (what_stays omit h)) (λ n stay. let same = debt_of_by n stay in omega arith) h

    pub over_by : (limit : ℕ) (call : Call) → Stay_all omit (named_in_call call) →
        is_over base (what_stays omit h) limit (added_by (what_stays omit h) (call_by (number omit) call)) ≡ true →
        is_over base h limit (added_by h call) ≡ true
    over_by limit call all = less_so (base.at_length + limit)
        (length (what_stays omit h) + debt base (what_stays omit h) + added_by (what_stays omit h) (call_by (number omit) call))
        (length h + debt base h + added_by h call)
        (let owes = less_debt in let adds = added_same call all in let long = length-what_stays omit h in let short = number-le_itself omit (length h) in
        omega arith)
