-- What ties between places change.
use Rattle.rx_tree.proofs.Common.{◌≡◌, cond, IsTrue, ◌∙◌, Link, Place, Store, set_step, is_place, places, stands, Relinks, is_there}
use Rattle.std.proofs.Common.{rules}

-- one link is written
module _ (l l1 : Place → Link) (p : Place) (link : Link) (h : (q : Place) → l1 q ≡ cond (is_place p q) link (l q)) where
  pub wrote_next : (to : Place) → link.next ≡ to → (q : Place) → (l1 q).next ≡ set_step places p to (λ q. (l q).next) q
  wrote_next to is q = search rules

  pub wrote_previous : (to : Place) → link.previous ≡ to → (q : Place) → (l1 q).previous ≡ set_step places p to (λ q. (l q).previous) q
  wrote_previous to is q = search rules

  pub left_next : link.next ≡ (l p).next → (q : Place) → (l1 q).next ≡ (l q).next
  left_next is q = search rules

  pub left_previous : link.previous ≡ (l p).previous → (q : Place) → (l1 q).previous ≡ (l q).previous
  left_previous is q = search rules

module _ {T : Type 0} where
  pub there_still : (old new : Store T) (p : Place) → Relinks old new → is_there new p ≡ is_there old p
  there_still old new p r = λ i. stands (r.nodes i) (r.resources i) p

  pub still_there : (old new : Store T) (p : Place) → Relinks old new → IsTrue (is_there old p) → IsTrue (is_there new p)
  still_there old new p r there = there_still old new p r ∙ there

  pub relinks_both : (old mid new : Store T) → Relinks old mid → Relinks mid new → Relinks old new
  relinks_both old mid new a b = search rules
