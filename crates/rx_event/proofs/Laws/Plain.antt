-- What is no FlatMap or Switch owes nothing.
use Rattle.rx_event.proofs.Laws.Common.{◌≡◌, ℕ, ◌<◌, true, false, List, [], ◌∷◌, ◌++◌, length, sym, ap, ◌∙◌, arith, inl, inr, ◌⊎◌, length-append, cases_Bool}
use Rattle.rx_event.proofs.Laws.Common.{cases_order, both_ways, Event, Kept, is_merging, at, is_open, owed, MayFollow, IsLawful}
use Rattle.rx_event.proofs.Laws.Places.{at-append}
use Rattle.rx_event.proofs.Laws.Openness.{is_open_within, stays_closed}
use Rattle.rx_event.proofs.Laws.Steps.{by_events}
use Rattle.rx_event.proofs.Laws.Projections.{projects_none, owed-push, owed_new}

pub owed_plain : (base : Kept) → (h : List Event) → IsLawful base h → (f : ℕ) → is_open h f ≡ true → at is_merging h f ≡ false → owed base h f ≡ 0
owed_plain base = by_events base (λ h. (f : ℕ) → is_open h f ≡ true → at is_merging h f ≡ false → owed base h f ≡ 0) (λ started. started.plain)
    (λ h e law next before f alive plain. after e law next before f alive plain (cases_order f (length h))) where
      after : {h : List Event} (e : Event) → IsLawful base h → MayFollow base h e →
          ((f : ℕ) → is_open h f ≡ true → at is_merging h f ≡ false → owed base h f ≡ 0) →
          (f : ℕ) → is_open (h ++ e ∷ []) f ≡ true → at is_merging (h ++ e ∷ []) f ≡ false → (f ≡ length h) ⊎ ((f < length h) ⊎ (length h < f)) →
          owed base (h ++ e ∷ []) f ≡ 0
      after {h} e law next before f alive plain (inl last) = ap (owed base (h ++ e ∷ [])) last ∙ owed_new base h law e
      after {h} e law next before f alive plain (inr (inl l)) =
          let was : at is_merging h f ≡ false = sym (at-append is_merging h (e ∷ []) f l) ∙ plain in
          let zero = before f (by_test (cases_Bool (is_open h f))) was in
          let none = projects_none h e f was in
          let rise = owed-push base h e law next f in
          omega arith
        where
          by_test : (is_open h f ≡ true) ⊎ (is_open h f ≡ false) → is_open h f ≡ true
          by_test (inl o) = o
          by_test (inr shut) = absurd (both_ways _ (stays_closed h e f l shut) alive)
      after {h} e law next before f alive plain (inr (inr g)) = let w = is_open_within (h ++ e ∷ []) f alive in absurd (omega (arith, length-append h (e ∷ [])))
