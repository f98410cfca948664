-- The places of a tree's rings are told apart.
use Rattle.std.proofs.Common.{◌≡◌, ℕ, ◌==◌, cond, rules}
use Rattle.rx_tree.specs.declared.links.Place.{Place}
use Rattle.rx_tree.specs.declared.links.Place.TheVariants.{Roots, Due, Waiting, Children, Held, Sibling, Noted, Stored}
use Rattle.rx_tree.specs.Places.{tag_of, slot_of, is_end, places}
use Rattle.rx_slots.proofs.Laws.Places.{Tells, told_by}

place_from : ℕ → ℕ → Place
place_from t s = cond (t == 0) Roots (cond (t == 1) Due (cond (t == 2) Waiting
    (cond (t == 3) (Children s) (cond (t == 4) (Held s) (cond (t == 5) (Sibling s) (cond (t == 6) (Noted s) (Stored s)))))))

same_from : (p : Place) → place_from (tag_of p) (slot_of p) ≡ p
unfolding place_from
same_from x0 = search rules

pub tells : Tells places
tells = told_by tag_of slot_of is_end place_from same_from
