-- A node has one source at most.
use Rattle.rx_event.proofs.Laws.Common.{◌≡◌, ℕ, zero, suc, ◌<◌, Bool, true, false, List, [], ◌∷◌, Option, Some, refl, sym, ap, ◌∙◌, arith, inl, inr}
use Rattle.rx_event.proofs.Laws.Common.{◌⊎◌, slice_get, take, ◌||◌, list_any, option_map_or, cases_order, both_ways, false≢true, eqb-true, slice_get_within}
use Rattle.rx_event.proofs.Laws.Common.{Source, Event, Open, Kept, shown, is_source_of, at, source_opened, IsLawful, or_parts, or_right}
use Rattle.rx_event.proofs.Laws.Places.{at-take, at_within}
use Rattle.rx_event.proofs.Laws.Lawful.{FoundAt, in_base, since_base, found_at}
use Rattle.rx_event.proofs.Laws.Steps.{may_open}

at_any : (p : Event → Bool) (h : List Event) (n : ℕ) → at p h n ≡ true → list_any p h ≡ true
at_any p [] n passes = absurd (false≢true passes)
at_any p (x ∷ h) zero passes = ap (λ b. b || list_any p h) passes
at_any p (x ∷ h) (suc n) passes = or_right (p x) (list_any p h) (at_any p h n passes)

-- a second one is not opened
no_later : {base : Kept} → (h : List Event) → IsLawful base h → (f a b : ℕ) → a < b → at (is_source_of f) h a ≡ true → at (is_source_of f) h b ≡ true → ⊥
no_later {base} h law f a b l one other = by_event (slice_get h b) refl other where
  before : at (is_source_of f) (take b h) a ≡ true
  before = at-take (is_source_of f) h b a l (at_within (is_source_of f) h b other) ∙ one

  by_event : (o : Option Event) → slice_get h b ≡ o → option_map_or (is_source_of f) o false ≡ true → ⊥
  by_event (Some (Open (Source q) kind)) at_b source = by_case (found_at base h law b (Open (Source q) kind) at_b) where
    by_case : FoundAt base h b (Open (Source q) kind) → ⊥
    by_case (in_base found same) =
        let there : at (is_source_of f) (shown base) a ≡ true =
        sym (at-take (is_source_of f) (shown base) b a l (slice_get_within (shown base) b _ found)) ∙ ap (λ k. at (is_source_of f) k a) (sym same) ∙ before in
        let twice = law.started.one_source f a b there (ap (λ o. option_map_or (is_source_of f) o false) found ∙ source) in absurd (omega arith)
    by_case (since_base next) =
        let free = (may_open base next).2 in
        let none : source_opened base (take b h) f ≡ false = ap (source_opened base (take b h)) (sym (eqb-true q f source)) ∙ free in
        both_ways (list_any (is_source_of f) (take b h)) (or_parts _ (list_any (is_source_of f) (take b h)) none).1
        (at_any (is_source_of f) (take b h) a before)
  by_event _ at_b source = false≢true source

pub one_source : (base : Kept) → (h : List Event) → IsLawful base h → (f a b : ℕ) → at (is_source_of f) h a ≡ true → at (is_source_of f) h b ≡ true → a ≡ b
one_source base h law f a b one other = by_order (cases_order a b) where
  by_order : (a ≡ b) ⊎ ((a < b) ⊎ (b < a)) → a ≡ b
  by_order (inl same) = same
  by_order (inr (inl l)) = absurd (no_later h law f a b l one other)
  by_order (inr (inr l)) = absurd (no_later h law f b a l other one)
