-- Which connections a node stands inside of, by its record and those above it.
use Rattle.rx_ground.proofs.Common.{◌≡◌, ℕ, suc, ◌<◌, true, false, List, Option, Some, None, is_some, option_map, sym, ap, ◌∙◌, ◌||◌, list_any, option_and_then}
use Rattle.rx_ground.proofs.Common.{option_map_or, Kept, Ghosts, Event, parent_named, at, parent, if_less, parent-lt, ancestors_step, Key, Slots, find, Node}
use Rattle.rx_ground.proofs.Common.{Tree, IsSound, named_above, parent_number, some_of, named_parent, connects_up_to, IsTied, is_inside_up_to}
use Rattle.std.proofs.Common.{rules}

-- a record that is found has the key of the node that its place names
pub parent_read : (nodes : Slots Node) (key : Key) (node : Node) → find nodes key ≡ Some node → IsSound nodes →
    option_map (λ (p : Key). p.number) node.above ≡ parent_number nodes key
parent_read nodes key node found sound = named_parent nodes key node found sound

pub parent_none : (nodes : Slots Node) (key : Key) → find nodes key ≡ None → None ≡ parent_number nodes key
parent_none nodes key none = sym (ap (option_and_then (named_above key.number)) none)

-- a record names the node above as the history does
pub parent_told : (base : Kept) → {T : Type 0} (g : Ghosts T) (h : List Event) (tree : Tree T) → IsTied base g h tree → (key : Key) →
    is_some (find tree.nodes key) ≡ true → parent_number tree.nodes key ≡ parent h key.number
unfolding parent
parent_told base g h tree tied key there =
    let x = some_of (find tree.nodes key) there in
    let is = tied.records.each key x.0 x.1 in
    ap (option_and_then (named_above key.number)) x.1 ∙ ap (λ o. option_and_then (if_less key.number) (option_and_then parent_named o)) (sym is.made)

-- a node is inside such a connection where it is one itself, or where the node above is inside one
inside_step : (h : List Event) (g n : ℕ) → is_inside_up_to h g (Some n) ≡ (at (connects_up_to g) h n || is_inside_up_to h g (parent h n))
inside_step h g n = search (rules, list_any, ancestors_step, option_map_or)

pub inside_here : (h : List Event) (g n : ℕ) → at (connects_up_to g) h n ≡ true → is_inside_up_to h g (Some n) ≡ true
inside_here h g n is = inside_step h g n ∙ ap (λ b. b || is_inside_up_to h g (parent h n)) is

pub inside_above : (h : List Event) (g n : ℕ) → at (connects_up_to g) h n ≡ false → is_inside_up_to h g (Some n) ≡ is_inside_up_to h g (parent h n)
inside_above h g n is = inside_step h g n ∙ ap (λ b. b || is_inside_up_to h g (parent h n)) is

-- a climb from a key, if there is one: it ends at such a connection, and else goes on at the key above, whose number is less
abbrev pub number_of : Option Key → Option ℕ
number_of o = option_map (λ (key : Key). key.number) o

abbrev pub steps_from : Option Key → ℕ
steps_from o = option_map_or (λ (key : Key). suc key.number) o 0

module _ (h : List Event) (g : ℕ) (from : Option Key) (key : Key) (is : from ≡ Some key) where
  pub climb_ends : at (connects_up_to g) h key.number ≡ true → is_inside_up_to h g (number_of from) ≡ true
  climb_ends here = ap (λ (o : Option Key). is_inside_up_to h g (number_of o)) is ∙ inside_here h g key.number here

  pub climb_on : at (connects_up_to g) h key.number ≡ false → (above : Option Key) → number_of above ≡ parent h key.number →
      is_inside_up_to h g (number_of above) ≡ is_inside_up_to h g (number_of from)
  climb_on elsewhere above named = search (rules, inside_above)

pub climb_nearer : (h : List Event) (from above : Option Key) (key : Key) → from ≡ Some key → number_of above ≡ parent h key.number →
    steps_from above < steps_from from
climb_nearer h from above key is named = search (rules, parent-lt)
