-- What the keys of a sound tree say of parents and children.
use Rattle.rx_tree.proofs.Common.{◌≡◌, ℕ, ◌<◌, Option, Some, None, is_some, IsSome, IfSome, option_map, refl, sym, ap, ◌∙◌, arith, true≢false, nat_tests, Key}
use Rattle.rx_tree.proofs.Common.{option_and_then, if_less, Slots, find, Node, IsSound, IsChild, named_above, parent_number}
use Rattle.std.proofs.Common.{rules}

-- the number of the parent's key is that which the place names
pub named_parent : (s : Slots Node) (key : Key) (node : Node) → find s key ≡ Some node → IsSound s → option_map (λ p. p.number) node.above ≡ parent_number s key
named_parent s key node found sound =
    let placed = sound.placed key node found in
    sym (ap (option_and_then (named_above key.number)) found ∙ ap (option_and_then (if_less key.number)) placed.named ∙ less node.above placed.lower) where
      less : (above : Option Key) → IfSome above (λ p. p.number < key.number) → option_and_then (if_less key.number) (option_map (λ p. p.number) above) ≡
          option_map (λ p. p.number) above
      less None lower = refl
      less (Some p) lower = grind (arith, nat_tests, lower)

-- a key that stands below one finds a record
pub child_found : (s : Slots Node) (key : Key) (n : ℕ) → parent_number s key ≡ Some n → IsSome (find s key)
child_found s key n named = search (rules, true≢false)

-- the key of a parent is the only one of its number
pub parent_key : (s : Slots Node) (parent child : Key) (o : Option Key) → IsSound s → IsChild s parent child →
    option_map (λ p. p.number) o ≡ parent_number s child → IfSome o (λ p. IsSome (find s p)) → o ≡ Some parent
parent_key s parent child None sound is numbers found = absurd (let e = is.named in true≢false (ap is_some (sym (numbers ∙ e))))
parent_key s parent child (Some p) sound is numbers found =
    let e : Some p.number ≡ Some parent.number = numbers ∙ is.named in
    let same : p.number ≡ parent.number = cc in ap (λ k. Some k) (sound.apart p parent found is.there same)
