-- What stands at a place of a longer history.
use Rattle.rx_event.proofs.Laws.Common.{◌≡◌, ℕ, zero, suc, ◌<◌, Bool, true, false, List, [], ◌∷◌, ◌++◌, length, take, drop, Some, refl, sym, ap, ◌∙◌, arith}
use Rattle.rx_event.proofs.Laws.Common.{inl, inr, ◌⊎◌, slice_get, length-append, option_map_or, cases_order, false≢true, slice_get_within, same_Some, Event, at}
use Rattle.rx_event.proofs.Laws.Common.{common_steps}
use Rattle.std.proofs.Common.{take-append-drop, rules}

-- an element stays where it was
pub slice_get-append : {X : Type 0} (xs ys : List X) (n : ℕ) → n < length xs → slice_get (xs ++ ys) n ≡ slice_get xs n
slice_get-append [] ys n l = absurd (omega arith)
slice_get-append (x ∷ xs) ys zero l = refl
slice_get-append (x ∷ xs) ys (suc n) l = slice_get-append xs ys n (omega arith)

-- the new element is at the end
pub slice_get_last : {X : Type 0} (xs : List X) (y : X) → slice_get (xs ++ y ∷ []) (length xs) ≡ Some y
slice_get_last [] y = refl
slice_get_last (x ∷ xs) y = slice_get_last xs y

-- a test of the event at a place stays as it was
pub at-append : (p : Event → Bool) (h t : List Event) (n : ℕ) → n < length h → at p (h ++ t) n ≡ at p h n
at-append p h t n l = ap (λ o. option_map_or p o false) (slice_get-append h t n l)

-- a test of an event that stands before c
pub at-take : (q : Event → Bool) (h : List Event) (c n : ℕ) → n < c → c < length h → at q (take c h) n ≡ at q h n
at-take q h c n l m = sym (at-append q (take c h) (drop c h) n (grind (arith, common_steps))) ∙ ap (λ k. at q k n) (take-append-drop c h)

-- what passes a test is in the history
pub at_within : (q : Event → Bool) (h : List Event) (n : ℕ) → at q h n ≡ true → n < length h
at_within q h n passes = search (rules, slice_get, option_map_or, length, false≢true, slice_get_within)

-- where a place is in the longer history
pub cases_push : (h : List Event) (e x : Event) (i : ℕ) → slice_get (h ++ e ∷ []) i ≡ Some x → (slice_get h i ≡ Some x) ⊎ (e ≡ x)
cases_push h e x i at_i = by_place (cases_order i (length h)) where
  by_place : (i ≡ length h) ⊎ ((i < length h) ⊎ (length h < i)) → (slice_get h i ≡ Some x) ⊎ (e ≡ x)
  by_place (inr (inl l)) = inl (sym (slice_get-append h (e ∷ []) i l) ∙ at_i)
  by_place (inl same) = inr (same_Some e x (sym (slice_get_last h e) ∙ ap (slice_get (h ++ e ∷ [])) (sym same) ∙ at_i))
  by_place (inr (inr g)) = let l = slice_get_within (h ++ e ∷ []) i x at_i in absurd (omega (arith, length-append {A = Event}))
