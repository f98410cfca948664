-- Places, and lists of them.
use Rattle.rx_slots.proofs.Common.{◌≡◌, ◌≢◌, ℕ, zero, suc, ◌<◌, ◌≤◌, ◌==◌, ◌&&◌, ◌||◌, cond, Bool, true, false, List, [], ◌∷◌, ◌++◌, length, refl, sym, ap}
use Rattle.rx_slots.proofs.Common.{subst, ◌∙◌, inl, inr, ◌⊎◌, arith, true≢false, not, and_parts, cases_eq, false≢true, false_from_ne_true, nat_tests, Places}
use Rattle.rx_slots.proofs.Common.{is_among, AreDifferent, without}
use Rattle.std.proofs.Common.{rules}

-- the test of places tells them apart
pub record Tells {Place : Type 0} (places : Places Place) : Type 0 where
  pub same : (p q : Place) → places.is_place p q ≡ true → p ≡ q
  pub self : (p : Place) → places.is_place p p ≡ true

-- places that are told by two numbers
pub told_by : {Place : Type 0} (tag number : Place → ℕ) (is_end : Place → Bool) (from : ℕ → ℕ → Place) → ((p : Place) → from (tag p) (number p) ≡ p) →
    Tells (record { is_place = λ p q. (tag p == tag q) && (number p == number q); is_end = is_end })
told_by tag number is_end from same_from = record {
  same = search (rules, and_parts);
  self = λ p. (λ i. eq_self (tag p) i && eq_self (number p) i);
} where
  eq_of : (a b : ℕ) → (a == b) ≡ true → a ≡ b
  eq_of a b e = grind (arith, nat_tests, e)

  eq_self : (a : ℕ) → (a == a) ≡ true
  eq_self a = grind (arith, nat_tests)

pub or_true : (a b : Bool) → b ≡ true → (a || b) ≡ true
or_true x0 b e = search rules

module _ {Place : Type 0} {places : Places Place} (tells : Tells places) where
  pub place_apart : (p q : Place) → p ≢ q → places.is_place p q ≡ false
  place_apart p q apart = search rules

  pub place_differs : (p q : Place) → places.is_place p q ≡ false → p ≢ q
  place_differs p q apart same = true≢false (sym (tells.self p) ∙ ap (places.is_place p) same ∙ apart)

  pub cases_place : (p q : Place) → (p ≡ q) ⊎ (p ≢ q)
  cases_place p q = of (places.is_place p q) refl where
    of : (b : Bool) → places.is_place p q ≡ b → (p ≡ q) ⊎ (p ≢ q)
    of true e = inl (tells.same p q e)
    of false e = inr (place_differs p q e)

  pub among_here : (p : Place) (ps : List Place) → is_among places p (p ∷ ps) ≡ true
  among_here p ps = ap (λ b. b || is_among places p ps) (tells.self p)

  pub among_there : (p q : Place) (ps : List Place) → is_among places p ps ≡ true → is_among places p (q ∷ ps) ≡ true
  among_there p q ps e = or_true (places.is_place p q) (is_among places p ps) e

  -- one of a list is its first or among the rest
  pub among_cons : (p q : Place) (ps : List Place) → is_among places p (q ∷ ps) ≡ true → (p ≡ q) ⊎ (is_among places p ps ≡ true)
  among_cons p q ps e = search (rules, is_among)

  pub among_append : (p : Place) (ps qs : List Place) → is_among places p (ps ++ qs) ≡ true → (is_among places p ps ≡ true) ⊎ (is_among places p qs ≡ true)
  among_append p [] qs e = inr e
  among_append p (x ∷ ps) qs e =
      elim (among_cons p x (ps ++ qs) e) [
        | inl same ↦ inl (ap (λ b. b || is_among places p ps) (subst (λ y. places.is_place p y ≡ true) same (tells.self p)))
        | inr rest ↦ elim (among_append p ps qs rest) [
          | inl l ↦ inl (among_there p x ps l)
          | inr r ↦ inr r
        ]
      ]

  pub among_left : (p : Place) (ps qs : List Place) → is_among places p ps ≡ true → is_among places p (ps ++ qs) ≡ true
  among_left p [] qs e = absurd (false≢true e)
  among_left p (x ∷ ps) qs e =
      elim (among_cons p x ps e) [
        | inl same ↦ ap (λ b. b || is_among places p (ps ++ qs)) (subst (λ y. places.is_place p y ≡ true) same (tells.self p))
        | inr rest ↦ among_there p x (ps ++ qs) (among_left p ps qs rest)
      ]

  pub among_right : (p : Place) (ps qs : List Place) → is_among places p qs ≡ true → is_among places p (ps ++ qs) ≡ true
  among_right p [] qs e = e
  among_right p (x ∷ ps) qs e = among_there p x (ps ++ qs) (among_right p ps qs e)

  -- what stays where a place is taken out
  pub among_without : (p q : Place) (ps : List Place) → is_among places q (without places p ps) ≡ true → (is_among places q ps ≡ true) × (p ≢ q)
  among_without p q [] e = absurd (false≢true e)
  among_without p q (x ∷ ps) e = of (λ e. among_without p q ps e) (places.is_place p x) refl e where
    of : (is_among places q (without places p ps) ≡ true → (is_among places q ps ≡ true) × (p ≢ q)) → (b : Bool) → places.is_place p x ≡ b →
        is_among places q (cond (not b) (x ∷ without places p ps) (without places p ps)) ≡ true → (is_among places q (x ∷ ps) ≡ true) × (p ≢ q)
    of again true t e = let h = again e in (among_there q x ps h.0, h.1)
    of again false t e =
        elim (among_cons q x (without places p ps) e) [
          | inl same ↦ (
            ap (λ b. b || is_among places q ps) (subst (λ y. places.is_place q y ≡ true) same (tells.self q)),
            λ s. place_differs p x t (s ∙ same),
          )
          | inr rest ↦ let h = again rest in (among_there q x ps h.0, h.1)
        ]

  pub without_keeps : (p q : Place) (ps : List Place) → p ≢ q → is_among places q ps ≡ true → is_among places q (without places p ps) ≡ true
  without_keeps p q [] apart e = e
  without_keeps p q (x ∷ ps) apart e = of (λ e. without_keeps p q ps apart e) (places.is_place p x) refl where
    of : (is_among places q ps ≡ true → is_among places q (without places p ps) ≡ true) → (b : Bool) → places.is_place p x ≡ b →
        is_among places q (cond (not b) (x ∷ without places p ps) (without places p ps)) ≡ true
    of again true t =
        elim (among_cons q x ps e) [
          | inl same ↦ absurd (apart (tells.same p x t ∙ sym same))
          | inr rest ↦ again rest
        ]
    of again false t =
        elim (among_cons q x ps e) [
          | inl same ↦ ap (λ b. b || is_among places q (without places p ps)) (subst (λ y. places.is_place q y ≡ true) same (tells.self q))
          | inr rest ↦ among_there q x (without places p ps) (again rest)
        ]

  pub without_none : (p : Place) (ps : List Place) → is_among places p ps ≡ false → without places p ps ≡ ps
  without_none p [] e = refl
  without_none p (x ∷ ps) e = of (λ e. without_none p ps e) (places.is_place p x) refl where
    of : (is_among places p ps ≡ false → without places p ps ≡ ps) → (b : Bool) → places.is_place p x ≡ b →
        cond (not b) (x ∷ without places p ps) (without places p ps) ≡ x ∷ ps
    of again true t = absurd (true≢false (sym (ap (λ b. b || is_among places p ps) t) ∙ e))
    of again false t = ap (λ (ys : List Place). x ∷ ys) (again (sym (ap (λ b. b || is_among places p ps) t) ∙ e))

  pub different_without : (p : Place) (ps : List Place) → AreDifferent places ps → AreDifferent places (without places p ps)
  different_without p [] d = tt
  different_without p (x ∷ ps) d = search (rules, AreDifferent, without, cond, not, false_from_ne_true, is_among, true≢false, among_without, different_without p ps d.1)

  pub different_append : (ps qs : List Place) → AreDifferent places ps → AreDifferent places qs →
      ((p : Place) → is_among places p ps ≡ true → is_among places p qs ≡ false) →
      AreDifferent places (ps ++ qs)
  different_append [] qs d d2 apart = d2
  different_append (x ∷ ps) qs d d2 apart = (
    false_from_ne_true (is_among places x (ps ++ qs)) (search (rules, among_append, true≢false, among_here)),
    different_append ps qs d.1 d2 (λ p e. apart p (among_there p x ps e)),
  )

  length_without : (x : Place) (ps : List Place) → AreDifferent places ps → length ps ≤ suc (length (without places x ps))
  length_without x [] d = omega arith
  length_without x (p ∷ ps) d = search (rules, length, without, cond, not, is_among, without_none, length_without x ps d.1)

  -- different places below a bound are no more than the bound
  pub few_places : (make : ℕ → Place) (number : Place → ℕ) (k : ℕ) (ps : List Place) → AreDifferent places ps →
      ((q : Place) → is_among places q ps ≡ true → (number q < k) × (q ≡ make (number q))) → length ps ≤ k
  few_places make number zero [] d all = omega arith
  few_places make number zero (p ∷ ps) d all = absurd (let l = (all p (among_here p ps)).0 in omega (arith, l))
  few_places make number (suc k) ps d all =
      let few = few_places make number k (without places (make k) ps) (different_without (make k) ps d)
      (λ q i. let h = among_without (make k) q ps i in let a = all q h.0 in (below q a.0 a.1 h.1, a.1)) in
      omega (arith, length_without (make k) ps d, few) where
        below : (q : Place) → number q < suc k → q ≡ make (number q) → make k ≢ q → number q < k
        below q less is other = elim (cases_eq (number q) k) [
          | inl same ↦ absurd (other (ap make (sym same) ∙ sym is))
          | inr apart ↦ omega (arith, less, apart)
        ]
