-- What stands in a list, and lists of which each two members are related.
use Rattle.rx_agenda.proofs.Common.{◌≡◌, ◌<◌, ℕ, zero, suc, List, [], ◌∷◌, ◌++◌, length, Bool, true, false, cond, nat_eq, refl, sym, ap, subst, ◌∙◌, inl, inr}
use Rattle.rx_agenda.proofs.Common.{arith, ◌⊎◌, Some, slice_get, lookup}
use Rattle.std.specs.Map.{remove_entry}
use Rattle.std.proofs.lemmas.Bool.{eqb-true}
use Rattle.std.proofs.lemmas.Bool.Decides.{nat_tests}
use Rattle.std.proofs.Common.{rules}

module _ {A : Type 0} where
  abbrev pub IsIn : A → List A → Type 0
  IsIn x [] = ⊥
  IsIn x (y ∷ ys) = (x ≡ y) ⊎ IsIn x ys

  pub in-append : (x : A) (xs ys : List A) → IsIn x (xs ++ ys) → IsIn x xs ⊎ IsIn x ys
  in-append x [] ys there = inr there
  in-append x (y ∷ xs) ys (inl same) = inl (inl same)
  in-append x (y ∷ xs) ys (inr there) = elim (in-append x xs ys there) [ inl a ↦ inl (inr a) | inr b ↦ inr b ]

  pub in_front : (x : A) (xs ys : List A) → IsIn x xs → IsIn x (xs ++ ys)
  in_front x [] ys there = absurd there
  in_front x (y ∷ xs) ys (inl same) = inl same
  in_front x (y ∷ xs) ys (inr there) = inr (in_front x xs ys there)

  pub in_back : (x : A) (xs ys : List A) → IsIn x ys → IsIn x (xs ++ ys)
  in_back x [] ys there = there
  in_back x (y ∷ xs) ys there = inr (in_back x xs ys there)

  -- the last one, or one of the others
  pub in-push : (x : A) (xs : List A) (y : A) → IsIn x (xs ++ y ∷ []) → IsIn x xs ⊎ (x ≡ y)
  in-push x xs y there = elim (in-append x xs (y ∷ []) there) [ inl a ↦ inl a | inr b ↦ elim b [ inl same ↦ inr same | inr none ↦ absurd none ] ]

  abbrev pub Pairwise : (A → A → Type 0) → List A → Type 0
  Pairwise R [] = Unit {0}
  Pairwise R (x ∷ xs) = ((y : A) → IsIn y xs → R x y) × Pairwise R xs

  pub pairwise_push : (R : A → A → Type 0) (xs : List A) (x : A) → Pairwise R xs → ((y : A) → IsIn y xs → R y x) → Pairwise R (xs ++ x ∷ [])
  pairwise_push R [] x pairs before = ((λ y there. absurd there), tt)
  pairwise_push R (y ∷ ys) x pairs before = (
    (λ z there. elim (in-push z ys x there) [
      | inl a ↦ pairs.0 z a
      | inr same ↦ subst (λ (w : A). R y w) (sym same) (before y (inl refl))
    ]),
    pairwise_push R ys x pairs.1 (λ z there. before z (inr there)),
  )

  -- the members by their places
  pub get_push : (xs : List A) (x y : A) (k : ℕ) → slice_get (xs ++ x ∷ []) k ≡ Some y → (slice_get xs k ≡ Some y) ⊎ ((k ≡ length xs) × (x ≡ y))
  get_push [] x y zero got = inr (refl, cc)
  get_push [] x y (suc k) got = absurd (cc)
  get_push (z ∷ zs) x y zero got = inl got
  get_push (z ∷ zs) x y (suc k) got = elim (get_push zs x y k got) [ inl old ↦ inl old | inr new ↦ inr (omega arith, new.1) ]

  pub get_old : (xs : List A) (x y : A) (k : ℕ) → slice_get xs k ≡ Some y → slice_get (xs ++ x ∷ []) k ≡ Some y
  get_old [] x y k got = absurd (cc)
  get_old (z ∷ zs) x y zero got = got
  get_old (z ∷ zs) x y (suc k) got = get_old zs x y k got

  pub get_last : (xs : List A) (x : A) → slice_get (xs ++ x ∷ []) (length xs) ≡ Some x
  get_last [] x = refl
  get_last (z ∷ zs) x = get_last zs x

-- entries under numbers ----------------------------------------------------------------------------

module _ {V : Type 0} where
  pub lookup_in : (t : ℕ) (w : V) (es : List (ℕ × V)) → lookup (nat_eq t) es ≡ Some w → IsIn (t, w) es
  lookup_in t w [] found = absurd (cc)
  lookup_in t w (e ∷ es) found =
      elim (nat_eq t e.0) as (λ b. nat_eq t e.0 ≡ b → cond b (Some e.1) (lookup (nat_eq t) es) ≡ Some w → IsIn (t, w) (e ∷ es)) [
        | true ↦ λ same here. let number : t ≡ e.0 = eqb-true t e.0 same in let value : e.1 ≡ w = cc in inl (λ i. (number i, sym value i))
        | false ↦ λ apart later. inr (lookup_in t w es later)
      ] refl found

  pub removed_in : (p : ℕ → Bool) (e : ℕ × V) (es : List (ℕ × V)) → IsIn e (remove_entry p es) → IsIn e es
  removed_in p e [] there = there
  removed_in p e (f ∷ es) there =
      elim (p f.0) as (λ b. IsIn e (cond b es (f ∷ remove_entry p es)) → IsIn e (f ∷ es)) [
        | true ↦ λ rest. inr rest
        | false ↦ λ rest. elim rest [ inl same ↦ inl same | inr more ↦ inr (removed_in p e es more) ]
      ] there

  pub removed_or_stays : (t : ℕ) (w : V) (e : ℕ × V) (es : List (ℕ × V)) → lookup (nat_eq t) es ≡ Some w → IsIn e es
      → (e ≡ (t, w)) ⊎ IsIn e (remove_entry (nat_eq t) es)
  removed_or_stays t w e [] found there = absurd there
  removed_or_stays t w e (f ∷ es) found there =
      elim (nat_eq t f.0) as (λ b. nat_eq t f.0 ≡ b → cond b (Some f.1) (lookup (nat_eq t) es) ≡ Some w → (e ≡ f) ⊎ IsIn e es
      → (e ≡ (t, w)) ⊎ IsIn e (cond b es (f ∷ remove_entry (nat_eq t) es))) [
        | true ↦ λ same here at. elim at [
          | inl is ↦ (let number : t ≡ f.0 = eqb-true t f.0 same in let value : f.1 ≡ w = cc in
              inl (is ∙ (λ i. (sym number i, value i))))
          | inr rest ↦ inr rest
        ]
        | false ↦ λ apart later at. elim at [
          | inl is ↦ inr (inl is)
          | inr rest ↦ elim (removed_or_stays t w e es later rest) [ inl a ↦ inl a | inr b ↦ inr (inr b) ]
        ]
      ] refl found there

  pub pairwise_removed : (R : ℕ × V → ℕ × V → Type 0) (p : ℕ → Bool) (es : List (ℕ × V)) → Pairwise R es → Pairwise R (remove_entry p es)
  pairwise_removed R p [] pairs = tt
  pairwise_removed R p (e ∷ es) pairs =
      search (rules, cond, removed_in, pairwise_removed R p es pairs.1)

  -- numbers that rise
  module _ (R : ℕ × V → ℕ × V → Type 0) (rises : (e f : ℕ × V) → R e f → e.0 < f.0) where
    pub lookup_at : (e : ℕ × V) (es : List (ℕ × V)) → Pairwise R es → IsIn e es → lookup (nat_eq e.0) es ≡ Some e.1
    lookup_at e [] pairs there = absurd there
    lookup_at e (f ∷ es) pairs (inl same) = subst (λ (g : ℕ × V). lookup (nat_eq e.0) (g ∷ es) ≡ Some e.1) same (found e.0 refl) where
      found : (t : ℕ) → t ≡ e.0 → lookup (nat_eq t) (e ∷ es) ≡ Some e.1
      found t is = grind (arith, nat_tests)
    lookup_at e (f ∷ es) pairs (inr there) =
        let before : f.0 < e.0 = rises f e (pairs.0 e there) in
        let later : lookup (nat_eq e.0) es ≡ Some e.1 = lookup_at e es pairs.1 there in
        grind (arith, nat_tests)

    pub removed_apart : (t : ℕ) (e : ℕ × V) (es : List (ℕ × V)) (w : V) → Pairwise R es → lookup (nat_eq t) es ≡ Some w → IsIn e
        (remove_entry (nat_eq t) es) → ¬ (e.0 ≡ t)
    removed_apart t e [] w pairs found there = absurd there
    removed_apart t e (f ∷ es) w pairs found there =
        elim (nat_eq t f.0) as (λ b. nat_eq t f.0 ≡ b → cond b (Some f.1) (lookup (nat_eq t) es) ≡ Some w → IsIn e
        (cond b es (f ∷ remove_entry (nat_eq t) es)) → ¬ (e.0 ≡ t)) [
          | true ↦ λ same here rest is. let number : t ≡ f.0 = eqb-true t f.0 same in let above : f.0 < e.0 = rises f e (pairs.0 e rest) in absurd (omega arith)
          | false ↦ λ apart later rest. elim rest [
            | inl at ↦ λ is. let other : e.0 ≡ f.0 = ap (λ (g : ℕ × V). g.0) at in absurd (clash t f.0 apart (sym is ∙ other))
            | inr more ↦ removed_apart t e es w pairs.1 later more
          ]
        ] refl found there
      where
        clash : (a b : ℕ) → nat_eq a b ≡ false → a ≡ b → ⊥
        clash a b apart same = absurd (grind (arith, nat_tests))

-- of two members one comes before the other, or they are one
pub pairwise_cases : {A : Type 0} (R : A → A → Type 0) (x y : A) (xs : List A) → Pairwise R xs → IsIn x xs → IsIn y xs → (x ≡ y) ⊎ (R x y ⊎ R y x)
pairwise_cases R x y [] pairs at there = absurd at
pairwise_cases R x y (z ∷ xs) pairs (inl a) (inl b) = inl (a ∙ sym b)
pairwise_cases {A} R x y (z ∷ xs) pairs (inl a) (inr b) = inr (inl (subst (λ (v : A). R v y) (sym a) (pairs.0 y b)))
pairwise_cases {A} R x y (z ∷ xs) pairs (inr a) (inl b) = inr (inr (subst (λ (v : A). R v x) (sym b) (pairs.0 x a)))
pairwise_cases R x y (z ∷ xs) pairs (inr a) (inr b) = pairwise_cases R x y xs pairs.1 a b
