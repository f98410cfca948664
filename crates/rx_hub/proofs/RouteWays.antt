-- What one climb makes of the visits and the stops that are still to come.
use Rattle.rx_hub.proofs.Common.{◌≡◌, ℕ, zero, suc, ◌-◌, ◌<◌, ◌≤◌, ◌++◌, List, [], ◌∷◌, length, Option, Some, None, is_some, refl, sym, ap, ◌∙◌, arith, Key}
use Rattle.rx_hub.proofs.Common.{if◌then◌else◌, filter_map, cons_option, option_and_then, option_map_or, option_or, option_to_list, Slots, Node, Stop, end_of}
use Rattle.rx_hub.proofs.Common.{above_of, stop_of, way_within, Hub, beyond, onward_by, onward_over, visited_over, arrival, arrival_at, beyond_end}
use Rattle.std.proofs.Common.{rules}

or_none : (s : Option Stop) → option_or s None ≡ s
or_none x0 = search rules

one_less : (a : ℕ) → suc a - 1 ≡ a
one_less a = omega arith

both_less : (a b : ℕ) → suc a - suc b ≡ a - b
both_less a b = omega arith

module _ (nodes : Slots Node) (hubs : List Hub) where
  abbrev Visits : ℕ → List Key → List Key
  Visits left keys = visited_over left nodes hubs keys

  abbrev Stops : List Key → List Stop
  Stops keys = filter_map (arrival_at nodes) keys

  abbrev end_arrival : List Key → List Stop
  end_arrival keys = option_to_list (option_and_then arrival (end_of nodes keys))

  -- the way from a node where it stops so, below this one
  abbrev way_by : ℕ → Key → Option Stop → Option Key → List Key
  way_by k key s above = key ∷ option_map_or (way_within k nodes) (if is_some s then None else above) []

  abbrev end_by : ℕ → Option Stop → Option Key → Option Stop
  end_by k s above = option_or s (end_of nodes (option_map_or (way_within k nodes) (if is_some s then None else above) []))

  abbrev onward_in : Option Stop → Option Key → List Key
  onward_in None above = option_to_list above
  onward_in (Some stop) above = beyond nodes hubs stop

  onward_is : (key : Key) (s : Option Stop) → onward_by nodes hubs key s ≡ onward_in s (above_of nodes key)
  onward_is key x1 = search rules

  -- the visits of a way, and then what is beyond its end
  pub visited_way : (k left : ℕ) (key : Key) (rest : List Key) → left ≤ k → length (way_within k nodes key) ≤ left →
      Visits left (key ∷ rest) ≡ way_within k nodes key ++
      Visits (left - length (way_within k nodes key)) (beyond_end nodes hubs (end_of nodes (way_within k nodes key)) ++ rest)
  visited_way zero zero key rest within fits = refl
  visited_way zero (suc left) key rest within fits = absurd (omega (arith, within))
  visited_way (suc k) zero key rest within fits = absurd (omega (arith, fits))
  visited_way (suc k) (suc left) key rest within fits = ap (λ (ns : List Key). key ∷ Visits left (ns ++ rest)) (onward_is key (stop_of nodes key)) ∙
      by_stop (stop_of nodes key) (above_of nodes key) (λ up. visited_way k left up rest (omega (arith, within))) fits where
        by_stop : (s : Option Stop) (above : Option Key) → ((up : Key) → length (way_within k nodes up) ≤ left →
            Visits left (up ∷ rest) ≡ way_within k nodes up ++
            Visits (left - length (way_within k nodes up)) (beyond_end nodes hubs (end_of nodes (way_within k nodes up)) ++ rest)) →
            length (way_by k key s above) ≤ suc left → key ∷ Visits left (onward_in s above ++ rest) ≡
            way_by k key s above ++ Visits (suc left - length (way_by k key s above)) (beyond_end nodes hubs (end_by k s above) ++ rest)
        by_stop None None up short = ap (λ n. key ∷ Visits n rest) (sym (one_less left))
        by_stop None (Some a) up short =
            let w = way_within k nodes a in
            ap (λ (ns : List Key). key ∷ ns) (up a (omega (arith, short))) ∙
            ap (λ n. key ∷ (w ++ Visits n (beyond_end nodes hubs (end_of nodes w) ++ rest))) (sym (both_less left (length w)))
        by_stop (Some s) above up short = ap (λ n. key ∷ Visits n (beyond nodes hubs s ++ rest)) (sym (one_less left))

  -- it arrives at its end alone
  pub stops_way : (k : ℕ) (key : Key) → Stops (way_within k nodes key) ≡ end_arrival (way_within k nodes key)
  stops_way zero key = refl
  stops_way (suc k) key = by_stop (stop_of nodes key) (above_of nodes key) (stops_way k) where
    one : (o : Option Stop) → cons_option o [] ≡ option_to_list o
    one None = refl
    one (Some x) = refl

    by_stop : (s : Option Stop) (above : Option Key) → ((up : Key) → Stops (way_within k nodes up) ≡ end_arrival (way_within k nodes up)) →
        cons_option (option_and_then arrival s) (Stops (option_map_or (way_within k nodes) (if is_some s then None else above) [])) ≡
        option_to_list (option_and_then arrival (end_by k s above))
    by_stop None None up = refl
    by_stop None (Some a) up = up a
    by_stop (Some s) above up = one (arrival s)

  -- and where too few visits are left it makes these and arrives nowhere
  pub visited_cut : (k left : ℕ) (key : Key) (rest : List Key) → left < length (way_within k nodes key) →
      (length (Visits left (key ∷ rest)) ≡ left) × (Stops (Visits left (key ∷ rest)) ≡ [])
  visited_cut k zero key rest cut = (refl, refl)
  visited_cut zero (suc left) key rest cut = absurd (omega (arith, cut))
  visited_cut (suc k) (suc left) key rest cut =
      by_stop (stop_of nodes key) (above_of nodes key) (λ up. visited_cut k left up rest) (onward_is key (stop_of nodes key)) cut where
        by_stop : (s : Option Stop) (above : Option Key) → ((up : Key) → left < length (way_within k nodes up) →
            (length (Visits left (up ∷ rest)) ≡ left) × (Stops (Visits left (up ∷ rest)) ≡ [])) →
            onward_over nodes hubs key ≡ onward_in s above → suc left < length (way_by k key s above) →
            (suc (length (Visits left (onward_over nodes hubs key ++ rest))) ≡ suc left) ×
            (cons_option (option_and_then arrival s) (Stops (Visits left (onward_over nodes hubs key ++ rest))) ≡ [])
        by_stop None None up on short = absurd (omega (arith, short))
        by_stop None (Some a) up on short =
            let there = up a (omega (arith, short)) in
            let same : Visits left (onward_over nodes hubs key ++ rest) ≡ Visits left (a ∷ rest) = ap (λ (ns : List Key). Visits left (ns ++ rest)) on in
            (ap suc (ap length same ∙ there.0), ap Stops same ∙ there.1)
        by_stop (Some s) above up on short = absurd (omega (arith, short))
