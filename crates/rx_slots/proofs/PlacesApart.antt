-- The places of rings are told apart.
use Rattle.rx_slots.proofs.Common.{◌≡◌, ℕ, ◌==◌, cond, Place, End, Member, number_of, is_end, places}
use Rattle.rx_slots.specs.Places.{tag_of}
use Rattle.rx_slots.proofs.Laws.Places.{Tells, told_by}
use Rattle.std.proofs.Common.{rules}

place_from : ℕ → ℕ → Place
place_from t n = cond (t == 0) (End n) (Member n)

same_from : (p : Place) → place_from (tag_of p) (number_of p) ≡ p
unfolding place_from
same_from x0 = search rules

pub tells : Tells places
tells = told_by tag_of number_of is_end place_from same_from
