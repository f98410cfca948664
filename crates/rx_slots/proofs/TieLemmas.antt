-- What ties between places change.
use Rattle.rx_slots.proofs.Common.{◌≡◌, true, cond, ◌∙◌, Link, Place, Links, set_step, is_place, places, within}
use Rattle.rx_slots.specs.Links.{is_there, Relinks}
use Rattle.std.proofs.Common.{rules}

module _ (l l1 l2 : Place → Link) (one other : Place) (first second : Link) (h1 : (q : Place) → l1 q ≡ cond (is_place one q) first (l q))
    (h2 : (q : Place) → l2 q ≡ cond (is_place other q) second (l1 q)) where
  pub tied_next : first.next ≡ other → second.next ≡ (l1 other).next → (q : Place) → (l2 q).next ≡ set_step places one other (λ q. (l q).next) q
  tied_next to kept q = search (rules, cond)

  pub tied_previous : first.previous ≡ (l one).previous → second.previous ≡ one → (q : Place) →
      (l2 q).previous ≡ set_step places other one (λ q. (l q).previous) q
  tied_previous kept back q = search (rules, cond)

pub still_there : (old new : Links) (p : Place) → Relinks old new → is_there old p ≡ true → is_there new p ≡ true
still_there old new p r there = (λ i. within (r.ends i) (r.members i) p) ∙ there

pub relinks_both : (old mid new : Links) → Relinks old mid → Relinks mid new → Relinks old new
relinks_both old mid new a b = search rules
