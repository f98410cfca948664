-- The open nodes of one sort, in order, after one more event.
use Rattle.rx_event.proofs.Laws.Common.{◌≡◌, ℕ, zero, suc, ◌+◌, ◌<◌, Bool, true, false, List, [], ◌∷◌, ◌++◌, length, cond, refl, sym, ap, ◌∙◌, arith, filter}
use Rattle.rx_event.proofs.Laws.Common.{not, ◌&&◌, range_with_len, option_map_or, Kept, Event, makes_node, at, places, is_open, MayFollow}
use Rattle.std.proofs.lemmas.List.Elements.{filter-append}
use Rattle.rx_event.proofs.Laws.Places.{slice_get_last, at-append}
use Rattle.rx_event.proofs.Laws.Openness.{is_cut, is_open_cut}
use Rattle.rx_event.proofs.Laws.Sums.{places-push}
use Rattle.rx_event.proofs.Laws.Totals.{is_open_new}
use Rattle.std.proofs.Common.{rules}

-- filters -----------------------------------------------------------------------------------------

-- one filter after another
filter_twice : {X : Type 0} (p q : X → Bool) (xs : List X) → filter p (filter q xs) ≡ filter (λ x. q x && p x) xs
filter_twice p q [] = refl
filter_twice {X = X} p q (x ∷ xs) = search (rules, filter, cond, filter_twice p q xs)

-- two tests that agree at each number
pub filter_below : (p q : ℕ → Bool) (s n : ℕ) → ((k : ℕ) → k < s + n → p k ≡ q k) → filter p (range_with_len s n) ≡ filter q (range_with_len s n)
filter_below p q s zero same = refl
filter_below p q s (suc n) same =
    let rest = filter_below p q (s + 1) n (λ k l. same k (omega arith)) in (λ i. cond (same s (omega arith) i) (s ∷ rest i) (rest i))

-- open nodes --------------------------------------------------------------------------------------

-- the open nodes of one sort, by rising number
abbrev pub open_of : (Event → Bool) → List Event → List ℕ
open_of sort h = filter (λ n. at sort h n && is_open h n) (places h)

-- after one more event those that are still open, and then the node that it makes
pub open_of-push : (base : Kept) → (sort : Event → Bool) (h : List Event) (e : Event) → MayFollow base h e → (sort e ≡ true → makes_node e ≡ true) →
    open_of sort (h ++ e ∷ []) ≡ filter (is_open (h ++ e ∷ [])) (open_of sort h) ++ cond (sort e) (length h ∷ []) []
open_of-push base sort h e next makes =
    let older : filter passes (places h) ≡ filter (is_open (h ++ e ∷ [])) (open_of sort h) =
    filter_below passes (λ n. (at sort h n && is_open h n) && is_open (h ++ e ∷ []) n) 0 (length h) still ∙
    sym (filter_twice (is_open (h ++ e ∷ [])) (λ n. at sort h n && is_open h n) (places h)) in
    let last : filter passes (length h ∷ []) ≡ cond (sort e) (length h ∷ []) [] = ap (λ b. cond b (length h ∷ []) [])
    ((λ i. option_map_or sort (slice_get_last h e i) false && is_open_new base h e next i) ∙ made (sort e) (makes_node e) makes) in
    ap (filter passes) (places-push h e) ∙ filter-append passes (places h) (length h ∷ []) ∙ (λ i. older i ++ last i) where
      passes : ℕ → Bool
      passes n = at sort (h ++ e ∷ []) n && is_open (h ++ e ∷ []) n

      regrouped : (a b c : Bool) → (a && (b && c)) ≡ ((a && b) && (b && c))
      regrouped a b c = grind arith

      still : (n : ℕ) → n < 0 + length h → passes n ≡ ((at sort h n && is_open h n) && is_open (h ++ e ∷ []) n)
      still n l =
          let l2 : n < length h = omega (arith, l) in
          let sorted : at sort (h ++ e ∷ []) n ≡ at sort h n = at-append sort h (e ∷ []) n l2 in
          let cut : is_open (h ++ e ∷ []) n ≡ (is_open h n && not (is_cut h e n)) = is_open_cut h e n l2 in
          (λ i. sorted i && cut i) ∙ regrouped (at sort h n) (is_open h n) (not (is_cut h e n)) ∙ ap (λ b. (at sort h n && is_open h n) && b) (sym cut)

      made : (a b : Bool) → (a ≡ true → b ≡ true) → (a && b) ≡ a
      made a b yes_b = grind arith
