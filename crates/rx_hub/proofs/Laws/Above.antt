-- The key above a node is the only one of the number that its place names.
use Rattle.rx_hub.proofs.Common.{◌≡◌, Option, Some, None, IsSome, IfSome, option_map, refl, sym, ap, ◌∙◌, option_and_then, same_Some, none-some, Key, Slots}
use Rattle.rx_hub.proofs.Common.{find, Node, IsSound, named_above, parent_number, named_parent, above_of}

same_number : (nodes : Slots Node) → IsSound nodes → (r above : Option Key) → IfSome r (λ k. IsSome (find nodes k)) →
    IfSome above (λ k. IsSome (find nodes k)) → option_map (λ k. k.number) r ≡ option_map (λ k. k.number) above → r ≡ above
same_number nodes sound None None one other same = refl
same_number nodes sound (Some a) None one other same = absurd (none-some a.number (sym same))
same_number nodes sound None (Some b) one other same = absurd (none-some b.number same)
same_number nodes sound (Some a) (Some b) one other same = ap (λ k. Some k) (sound.apart a b one other (same_Some a.number b.number same))

-- a key of the number that the place of a node names is that above it
pub parent_above : (nodes : Slots Node) → IsSound nodes → (key : Key) (r : Option Key) → option_map (λ k. k.number) r ≡ parent_number nodes key →
    IfSome r (λ k. IsSome (find nodes k)) → r ≡ above_of nodes key
parent_above nodes sound key r numbered there = by_node (find nodes key) refl where
  by_node : (o : Option Node) → find nodes key ≡ o → r ≡ option_and_then (λ node. node.above) o
  by_node None at_key = by_answer r (numbered ∙ ap (option_and_then (named_above key.number)) at_key) where
    by_answer : (a : Option Key) → option_map (λ k. k.number) a ≡ None → a ≡ None
    by_answer None none = refl
    by_answer (Some k) none = absurd (none-some k.number (sym none))
  by_node (Some node) at_key = same_number nodes sound r node.above there (sound.placed key node at_key).there
      (numbered ∙ sym (named_parent nodes key node at_key sound))
