-- What one more event adds to the counts.
use Rattle.rx_script.proofs.Common.{◌≡◌, ℕ, ◌<◌, ◌≤◌, ◌==◌, Bool, true, false, List, [], ◌∷◌, ◌++◌, length, cond, refl, sym, ap, ◌∙◌, arith, inl, inr, ◌⊎◌}
use Rattle.rx_script.proofs.Common.{length-append, option_map_or, cases_order, ne_eqb, eq-eqb, slice_get_past, count_by-le-length, Event, Use, is_use_of}
use Rattle.rx_script.proofs.Common.{nothing_kept, uses, at, slice_get_last, is_told}
use Rattle.rx_event.proofs.Laws.Places.{at-append}
use Rattle.std.proofs.Common.{rules}

beyond : (p : Event → Bool) (h : List Event) (n : ℕ) → length h ≤ n → at p h n ≡ false
beyond p h n past = ap (λ o. option_map_or p o false) (slice_get_past h n past)

at-push : (p : Event → Bool) (h : List Event) (e : Event) (n : ℕ) → at p (h ++ e ∷ []) n ≡ cond (length h == n) (p e) (at p h n)
at-push p h e n = by_order (cases_order (length h) n) where
  at_end : (b : Bool) → (length h == n) ≡ b → cond b (p e) (at p h n) ≡ cond (length h == n) (p e) (at p h n)
  at_end b is = ap (λ b. cond b (p e) (at p h n)) (sym is)

  by_order : (length h ≡ n) ⊎ ((length h < n) ⊎ (n < length h)) → at p (h ++ e ∷ []) n ≡ cond (length h == n) (p e) (at p h n)
  by_order (inl same) = ap (at p (h ++ e ∷ [])) (sym same) ∙ ap (λ o. option_map_or p o false) (slice_get_last h e) ∙ at_end true (eq-eqb (length h) n same)
  by_order (inr (inl past)) =
      beyond p (h ++ e ∷ []) n (omega (arith, length-append h (e ∷ []))) ∙ sym (beyond p h n (omega arith)) ∙ at_end false (ne_eqb (length h) n (omega arith))
  by_order (inr (inr older)) = at-append p h (e ∷ []) n older ∙ at_end false (ne_eqb (length h) n (omega arith))

-- a node that is told something, and an event that makes none
pub told_more : (h : List Event) (e : Event) (n : ℕ) {place : ℕ} {old : Bool} (new : Bool) → place ≡ length h → is_told e ≡ true
    → old ≡ at is_told h n → new ≡ cond (place == n) true old → new ≡ at is_told (h ++ e ∷ []) n
told_more h e n new is told before here = here ∙ (λ i. cond (is i == n) (sym told i) (before i)) ∙ sym (at-push is_told h e n)

pub told_same : (h : List Event) (e : Event) (n : ℕ) → is_told e ≡ false → at is_told h n ≡ at is_told (h ++ e ∷ []) n
told_same h e n untold = sym (at-push is_told h e n ∙ by_order (cases_order (length h) n)) where
  by_order : (length h ≡ n) ⊎ ((length h < n) ⊎ (n < length h)) → cond (length h == n) (is_told e) (at is_told h n) ≡ at is_told h n
  by_order (inl same) = ap (λ b. cond b (is_told e) (at is_told h n)) (eq-eqb (length h) n same) ∙ untold ∙ sym (beyond is_told h n (omega arith))
  by_order (inr apart) = ap (λ b. cond b (is_told e) (at is_told h n)) (ne_eqb (length h) n (by_side apart)) where
    by_side : (length h < n) ⊎ (n < length h) → length h ≡ n → ⊥
    by_side (inl past) same = omega arith
    by_side (inr older) same = omega arith

-- no resource was used more often than events happened
pub uses_few : (h : List Event) (r : ℕ) → uses nothing_kept h r ≤ length h
unfolding uses
uses_few h r = count_by-le-length (is_use_of r) h

pub unused : (e : Event) → ((r : ℕ) → e ≡ Use r → ⊥) → (r : ℕ) → is_use_of r e ≡ false
unused x0 no_use r = search rules

-- nothing happened yet
pub none_used : (r : ℕ) → uses nothing_kept [] r ≡ 0
unfolding uses
none_used r = refl
