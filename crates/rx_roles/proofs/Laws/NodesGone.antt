-- Which nodes have gone behind a step.
use Rattle.rx_event.proofs.Laws.Common.{◌≡◌, ℕ, ◌<◌, ◌≤◌, Bool, true, false, List, length, refl, ap, ◌∙◌}
use Rattle.rx_event.proofs.Laws.Common.{◌⊎◌, inl, inr, ◌&&◌, not}
use Rattle.rx_event.proofs.Laws.Common.{cases_lt}
use Rattle.rx_event.proofs.Laws.Common.{false≢true, le-ltb, slice_get_past, and_true, and_false}
use Rattle.rx_event.proofs.Laws.Common.{at, is_open, makes_node}
use Rattle.rx_event.specs.declared.event.Event.{Event}
use Rattle.rx_event.specs.Gone.{goes, has_gone}
use Rattle.rx_event.proofs.Laws.Openness.{is_open_past}
use Rattle.rx_roles.proofs.Laws.JustThose.{just_among}
use Rattle.rx_roles.proofs.Laws.NodesAfterStep.{same_sort, open_node, StepMakes}

-- what was made in the step is open, so what has gone was open before, and is no more
pub goes_is : {h k : List Event} {made : List ℕ} → StepMakes h k made → (n : ℕ) → goes h k n ≡ (is_open h n && not (is_open k n))
goes_is {h} {k} {made} s n = by_place (cases_lt n (length h)) where
  older : (a o c : Bool) → (o ≡ true → a ≡ true) → ((a && not c) && not (a && not o)) ≡ (o && not c)
  older true true c makes = and_true (not c)
  older true false c makes = and_false (not c)
  older false true c makes = absurd (false≢true (makes refl))
  older false false c makes = refl

  newer : (a c : Bool) → (a ≡ true → c ≡ true) → ((a && not c) && true) ≡ false
  newer true true opens = refl
  newer true false opens = absurd (false≢true (opens refl))
  newer false c opens = refl

  by_place : (n < length h) ⊎ (length h ≤ n) → goes h k n ≡ (is_open h n && not (is_open k n))
  by_place (inl l) = ap (λ (a : Bool). (a && not (is_open k n)) && not (has_gone h n)) (same_sort s.grown makes_node n l) ∙
      older (at makes_node h n) (is_open h n) (is_open k n) (open_node h n)
  by_place (inr past) = rw (slice_get_past h n past, is_open_past h n past)
      (newer (at makes_node k n) (is_open k n) (λ makes. s.opens n (just_among s.makes n ∙ (rw (makes, le-ltb n (length h) past) refl))))
