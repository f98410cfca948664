-- An item whose way ends in its own tree arrives there alone.
use Rattle.rx_hub.proofs.Common.{◌≡◌, ℕ, zero, suc, ◌-◌, ◌≤◌, List, [], ◌∷◌, length, Some, arith, filter_map, append-nil, option_and_then, option_to_list}
use Rattle.rx_hub.proofs.Common.{length-append, ap, ◌++◌, ◌∙◌, most_visits, beyond_end, none-some, Key, Slots, Node, Stop}
use Rattle.rx_hub.proofs.Common.{way_within, way, end_of, Hub, beyond, visited_over, climb_over, arrival, stops_over}
use Rattle.rx_hub.proofs.RouteWays.{visited_way, stops_way}
use Rattle.std.proofs.Common.{rules}

-- a way has as many nodes as it may at most
way_within-le : (k : ℕ) (nodes : Slots Node) (key : Key) → length (way_within k nodes key) ≤ k
way_within-le zero nodes key = omega arith
way_within-le (suc k) nodes key = search (rules, way_within-le k nodes)

module _ (nodes : Slots Node) (hubs : List Hub) where
  none_beyond : (stop : Stop) → arrival stop ≡ Some stop → beyond nodes hubs stop ≡ []
  none_beyond x0 is = search (rules, none-some)

  visited_none : (left : ℕ) → visited_over left nodes hubs [] ≡ []
  visited_none x0 = search rules

  -- it visits the nodes of its way
  pub climb_over-arrived : (key : Key) (stop : Stop) → end_of nodes (way nodes key) ≡ Some stop → arrival stop ≡ Some stop →
      climb_over nodes hubs key ≡ way nodes key
  climb_over-arrived key stop ends arrives = search (rules, visited_way, way_within-le, none_beyond, visited_none, append-nil)

  -- it visits no fewer where it goes on
  pub climb_over-least : (key : Key) → length (way nodes key) ≤ length (climb_over nodes hubs key)
  climb_over-least key =
      let w = way nodes key in
      let behind = visited_over (suc most_visits - length w) nodes hubs (beyond_end nodes hubs (end_of nodes w) ++ []) in
      let all = visited_way nodes hubs (suc most_visits) (suc most_visits) key [] (omega arith) (way_within-le (suc most_visits) nodes key) in
      omega (arith, ap (length {A = Key}) all ∙ length-append w behind)

  -- and stops at its end
  pub stops_over-arrived : (key : Key) (stop : Stop) → end_of nodes (way nodes key) ≡ Some stop → arrival stop ≡ Some stop →
      stops_over nodes hubs key ≡ stop ∷ []
  stops_over-arrived key stop ends arrives = grind (arith, filter_map, climb_over-arrived, stops_way, option_to_list, option_and_then)
