-- What made a node is what its words and numbers tell.
use Rattle.rx_tree.proofs.Common.{◌≡◌, ℕ, Option, Some, None, true, option_map, IfSome, true≢false, option_map_or, makes_node, Event, parent_named, Key, Node}
use Rattle.rx_tree.proofs.Common.{Made, PlaceWord, place_word, kind_word, words_of, made_of, above_of, node_in}
use Rattle.std.proofs.Common.{rules}

-- of a number that the key of the node above has
named : (n : ℕ) (above : Option Key) → Some n ≡ option_map (λ key. key.number) above → option_map_or (λ key. key.number) above 0 ≡ n
named n x1 e = search (rules, true≢false)

unnamed : (above : Option Key) → None ≡ option_map (λ key. key.number) above → None ≡ above
unnamed x0 e = search (rules, true≢false)

keyed : (n : ℕ) (above : Option Key) → Some n ≡ option_map (λ key. key.number) above →
    Some (record { slot = option_map_or (λ key. key.slot) above 0; number = option_map_or (λ key. key.number) above 0 }) ≡ above
keyed n x1 e = search (rules, true≢false)

pub made_back : (made : Event) (above : Option Key) → makes_node made ≡ true → parent_named made ≡ option_map (λ key. key.number) above →
    made_of (place_word made) (kind_word made) (words_of made above) ≡ made
made_back x0 above m e = search (rules, named, true≢false)

pub above_back : (made : Event) (above : Option Key) → makes_node made ≡ true → parent_named made ≡ option_map (λ key. key.number) above →
    above_of (place_word made) (words_of made above) ≡ above
above_back x0 above m e = search (rules, unnamed, true≢false)

pub node_back : (node : Node) → makes_node node.made ≡ true → parent_named node.made ≡ option_map (λ key. key.number) node.above →
    node_in (words_of node.made node.above) node.marks ≡ node
node_back node m e = λ i. record {
  made = made_back node.made node.above m e i;
  above = above_back node.made node.above m e i;
  marks = node.marks;
}

-- the slot beside the words is that of the node above
pub slot_above : (place : PlaceWord) (o : Made) → IfSome (above_of place o) (λ key. o.slot ≡ key.slot)
slot_above x0 o = search rules
