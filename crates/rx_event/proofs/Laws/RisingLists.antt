-- Lists of rising numbers: two with the same members are the same.
use Rattle.rx_event.proofs.Laws.Common.{◌≡◌, ℕ, zero, suc, ◌+◌, ◌<◌, ◌≤◌, Bool, true, false, List, [], ◌∷◌, cond, refl, sym, ap, inl, inr, ◌⊎◌, arith}
use Rattle.rx_event.proofs.Laws.Common.{filter, map, subst, AllByRecursion, range_with_len, cases_order}
use Rattle.std.proofs.Common.{rules}

abbrev pub In : ℕ → List ℕ → Type 0
In k [] = ⊥
In k (x ∷ xs) = (x ≡ k) ⊎ In k xs

abbrev pub Rises : List ℕ → Type 0
Rises [] = Unit {0}
Rises (x ∷ xs) = AllByRecursion (λ y. x < y) xs × Rises xs

all_in : (P : ℕ → Type 0) (xs : List ℕ) → ((k : ℕ) → In k xs → P k) → AllByRecursion P xs
all_in P [] each = tt
all_in P (x ∷ xs) each = (each x (inl refl), all_in P xs (λ k i. each k (inr i)))

in_all : (x k : ℕ) (xs : List ℕ) → AllByRecursion (λ y. x < y) xs → In k xs → x < k
in_all x k [] all i = absurd i
in_all x k (y ∷ xs) all (inl same) = let l = all.0 in omega arith
in_all x k (y ∷ xs) all (inr i) = in_all x k xs all.1 i

pub rising_same : (xs ys : List ℕ) → Rises xs → Rises ys → ((k : ℕ) → In k xs → In k ys) → ((k : ℕ) → In k ys → In k xs) → xs ≡ ys
rising_same [] [] a b there back = refl
rising_same [] (y ∷ ys) a b there back = absurd (back y (inl refl))
rising_same (x ∷ xs) [] a b there back = absurd (there x (inl refl))
rising_same (x ∷ xs) (y ∷ ys) a b there back = λ i. first i ∷ rising_same xs ys a.1 b.1 onwards backwards i where
  first_by : (y ≡ x) ⊎ In x ys → (x ≡ y) ⊎ In y xs → x ≡ y
  first_by (inl same) other = sym same
  first_by (inr i) (inl same) = same
  first_by (inr i) (inr j) = absurd (let l = in_all y x ys b.0 i in let m = in_all x y xs a.0 j in omega arith)

  first : x ≡ y
  first = first_by (there x (inl refl)) (back y (inl refl))

  onwards : (k : ℕ) → In k xs → In k ys
  onwards k i = elim (there k (inr i)) [ inr j ↦ j | inl same ↦ absurd (let l = in_all x k xs a.0 i in let f = first in omega arith) ]

  backwards : (k : ℕ) → In k ys → In k xs
  backwards k i = elim (back k (inr i)) [ inr j ↦ j | inl same ↦ absurd (let l = in_all y k ys b.0 i in let f = first in omega arith) ]

-- filters --------------------------------------------------------------------------------------------------------------

pub in_filter : (p : ℕ → Bool) (xs : List ℕ) (k : ℕ) → In k xs → p k ≡ true → In k (filter p xs)
in_filter p [] k i holds = absurd i
in_filter p (x ∷ xs) k (inl same) holds = search (rules, In, cond, filter)
in_filter p (x ∷ xs) k (inr i) holds = search (rules, filter, cond, in_filter p xs k i holds)

pub filter_in : (p : ℕ → Bool) (xs : List ℕ) (k : ℕ) → In k (filter p xs) → In k xs × (p k ≡ true)
filter_in p [] k i = absurd i
filter_in p (x ∷ xs) k i = search (rules, cond, filter, filter_in p xs k)

pub filter_rises : (p : ℕ → Bool) (xs : List ℕ) → Rises xs → Rises (filter p xs)
filter_rises p [] a = tt
filter_rises p (x ∷ xs) a = by_test (p x) (filter_rises p xs a.1) where
  by_test : (b : Bool) → Rises (filter p xs) → Rises (cond b (x ∷ filter p xs) (filter p xs))
  by_test true rest = (all_in (λ y. x < y) (filter p xs) (λ k i. in_all x k xs a.0 (filter_in p xs k i).0), rest)
  by_test false rest = rest

-- ranges ----------------------------------------------------------------------------------------------------------------

pub range_in : (s n k : ℕ) → In k (range_with_len s n) → (s ≤ k) × (k < s + n)
range_in s zero k i = absurd i
range_in s (suc n) k (inl same) = (omega arith, omega arith)
range_in s (suc n) k (inr i) = let w = range_in (s + 1) n k i in let l = w.0 in let m = w.1 in (omega arith, omega arith)

pub in_range : (s n k : ℕ) → s ≤ k → k < s + n → In k (range_with_len s n)
in_range s zero k l m = absurd (omega arith)
in_range s (suc n) k l m = search (rules, cases_order, range_with_len, in_range (s + 1) n k)

pub range_rises : (s n : ℕ) → Rises (range_with_len s n)
range_rises s zero = tt
range_rises s (suc n) = (all_in (λ y. s < y) (range_with_len (s + 1) n) (λ k i. let w = (range_in (s + 1) n k i).0 in omega arith), range_rises (s + 1) n)

-- maps ------------------------------------------------------------------------------------------------------------------

pub in_map : (r : ℕ → ℕ) (xs : List ℕ) (k : ℕ) → In k xs → In (r k) (map r xs)
in_map r [] k i = absurd i
in_map r (x ∷ xs) k (inl same) = inl (ap r same)
in_map r (x ∷ xs) k (inr i) = inr (in_map r xs k i)

pub map_in : (r : ℕ → ℕ) (xs : List ℕ) (m : ℕ) → In m (map r xs) → (k : ℕ) × In k xs × (r k ≡ m)
map_in r [] m i = absurd i
map_in r (x ∷ xs) m (inl same) = (x, inl refl, same)
map_in r (x ∷ xs) m (inr i) = let w = map_in r xs m i in (w.0, inr w.1, w.2)

pub map_rises : (r : ℕ → ℕ) (xs : List ℕ) → ((a b : ℕ) → In a xs → In b xs → a < b → r a < r b) → Rises xs → Rises (map r xs)
map_rises r [] grows a = tt
map_rises r (x ∷ xs) grows a = (all_in (λ y. r x < y) (map r xs) less, map_rises r xs (λ c d i j. grows c d (inr i) (inr j)) a.1) where
  less : (m : ℕ) → In m (map r xs) → r x < m
  less m i =
      let w : (k : ℕ) × In k xs × (r k ≡ m) = map_in r xs m i in
      let l : r x < r w.0 = grows x w.0 (inl refl) (inr w.1) (in_all x w.0 xs a.0 w.1) in
      let same = w.2 in omega arith

-- r leads from the numbers below m that pass p to those below n that pass q, in their order, and s leads back
pub record LeadsInOrder (r s : ℕ → ℕ) (p q : ℕ → Bool) (m n : ℕ) : Type 0 where
  pub within : (k : ℕ) → p k ≡ true → k < m
  pub within_there : (k : ℕ) → q k ≡ true → k < n
  pub there : (k : ℕ) → p k ≡ true → q (r k) ≡ true
  pub back : (k : ℕ) → q k ≡ true → (p (s k) ≡ true) × (r (s k) ≡ k)
  pub grows : (j k : ℕ) → p j ≡ true → p k ≡ true → j < k → r j < r k

pub same_list : (r s : ℕ → ℕ) (p q : ℕ → Bool) (m n : ℕ) → LeadsInOrder r s p q m n → filter q (range_with_len 0 n) ≡ map r (filter p (range_with_len 0 m))
same_list r s p q m n leads = rising_same (filter q (range_with_len 0 n)) (map r (filter p (range_with_len 0 m)))
    (filter_rises q (range_with_len 0 n) (range_rises 0 n))
    (map_rises r (filter p (range_with_len 0 m)) (λ j k i l. leads.grows j k (filter_in p (range_with_len 0 m) j i).1 (filter_in p (range_with_len 0 m) k l).1)
    (filter_rises p (range_with_len 0 m) (range_rises 0 m))) onwards backwards
  where
    onwards : (k : ℕ) → In k (filter q (range_with_len 0 n)) → In k (map r (filter p (range_with_len 0 m)))
    onwards k i =
        let w = filter_in q (range_with_len 0 n) k i in
        let b = leads.back k w.1 in
        let l : s k < m = leads.within (s k) b.0 in
        subst (λ (j : ℕ). In j (map r (filter p (range_with_len 0 m)))) b.1
        (in_map r (filter p (range_with_len 0 m)) (s k) (in_filter p (range_with_len 0 m) (s k) (in_range 0 m (s k) (omega arith) (omega arith)) b.0))

    backwards : (k : ℕ) → In k (map r (filter p (range_with_len 0 m))) → In k (filter q (range_with_len 0 n))
    backwards k i =
        let w = map_in r (filter p (range_with_len 0 m)) k i in
        let holds : q (r w.0) ≡ true = leads.there w.0 (filter_in p (range_with_len 0 m) w.0 w.1).1 in
        let l : r w.0 < n = leads.within_there (r w.0) holds in
        subst (λ (j : ℕ). In j (filter q (range_with_len 0 n))) w.2
        (in_filter q (range_with_len 0 n) (r w.0) (in_range 0 n (r w.0) (omega arith) (omega arith)) holds)
