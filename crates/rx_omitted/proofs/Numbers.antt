-- The numbers of what stays.
use Rattle.rx_event.proofs.Laws.Common.{◌≡◌, ℕ, zero, suc, ◌+◌, ◌-◌, ◌<◌, ◌≤◌, Bool, true, false, List, [], ◌∷◌, ◌++◌, length, cond}
use Rattle.rx_event.proofs.Laws.Common.{refl, sym, ap, ◌∙◌, inl, inr, ◌⊎◌, ◌==◌, nat_lt, arith}
use Rattle.rx_event.proofs.Laws.Common.{eqb-true, eq-eqb, lt-ltb, le-ltb}
use Rattle.rx_event.proofs.Laws.Common.{cases_lt, cases_order, event_by}
use Rattle.rx_omitted.specs.Imports.{Event}
use Rattle.rx_omitted.specs.Omitted.{number, staying, what_stays}
use Rattle.std.proofs.Common.{rules}

-- numbers rise --------------------------------------------------------------------------------------------

number_next : (omit : ℕ → Bool) (n : ℕ) → number omit n ≤ number omit (suc n)
number_next omit n = by_test (omit n) where
  by_test : (b : Bool) → number omit n ≤ cond b (number omit n) (suc (number omit n))
  by_test true = omega arith
  by_test false = omega arith

pub number_stays : (omit : ℕ → Bool) (n : ℕ) → omit n ≡ false → number omit (suc n) ≡ suc (number omit n)
number_stays omit n stay = rw stay refl

number_adds : (omit : ℕ → Bool) (n d : ℕ) → number omit n ≤ number omit (d + n)
number_adds omit n zero = let same : 0 + n ≡ n = omega arith in rw same (omega arith)
number_adds omit n (suc d) = let more = number_adds omit n d in let next = number_next omit (d + n) in let same : suc d + n ≡ suc (d + n) = omega arith in
    rw same (omega arith)

pub number-le : (omit : ℕ → Bool) (m n : ℕ) → m ≤ n → number omit m ≤ number omit n
number-le omit m n l = let same : (n - m) + m ≡ n = omega arith in rw same at (number_adds omit m (n - m))

pub number-lt : (omit : ℕ → Bool) (m n : ℕ) → omit m ≡ false → m < n → number omit m < number omit n
number-lt omit m n stay l = let more = number-le omit (suc m) n (omega arith) in let next = number_stays omit m stay in omega arith

pub number_same : (omit : ℕ → Bool) (m n : ℕ) → omit m ≡ false → omit n ≡ false → number omit m ≡ number omit n → m ≡ n
number_same omit m n stay also same = by_order (cases_order m n) where
  by_order : (m ≡ n) ⊎ ((m < n) ⊎ (n < m)) → m ≡ n
  by_order (inl e) = e
  by_order (inr (inl l)) = absurd (let w = number-lt omit m n stay l in omega arith)
  by_order (inr (inr l)) = absurd (let w = number-lt omit n m also l in omega arith)

pub number_eq : (omit : ℕ → Bool) (m n : ℕ) → omit m ≡ false → omit n ≡ false → (number omit m == number omit n) ≡ (m == n)
number_eq omit m n stay also = search (rules, eq-eqb, eqb-true, number_same)

pub number_less : (omit : ℕ → Bool) (m n : ℕ) → omit m ≡ false → nat_lt (number omit m) (number omit n) ≡ nat_lt m n
number_less omit m n stay = by_order (cases_lt m n) where
  by_order : (m < n) ⊎ (n ≤ m) → nat_lt (number omit m) (number omit n) ≡ nat_lt m n
  by_order (inl l) = lt-ltb (number omit m) (number omit n) (number-lt omit m n stay l) ∙ sym (lt-ltb m n l)
  by_order (inr l) = le-ltb (number omit m) (number omit n) (number-le omit n m l) ∙ sym (le-ltb m n l)

-- each number below the last is that of a place that stays
pub numbered : (omit : ℕ → Bool) (n m : ℕ) → m < number omit n → (k : ℕ) × (k < n) × (omit k ≡ false) × (number omit k ≡ m)
numbered omit zero m l = absurd (omega arith)
numbered omit (suc n) m l = by_test (omit n) refl l (numbered omit n m) where
  by_test : (b : Bool) → omit n ≡ b → m < cond b (number omit n) (suc (number omit n)) →
      (m < number omit n → (k : ℕ) × (k < n) × (omit k ≡ false) × (number omit k ≡ m)) → (k : ℕ) × (k < suc n) × (omit k ≡ false) × (number omit k ≡ m)
  by_test true gone less before = let w = before less in (w.0, (let i = w.1 in omega arith), w.2, w.3)
  by_test false stay less before = by_order (cases_lt m (number omit n)) where
    by_order : (m < number omit n) ⊎ (number omit n ≤ m) → (k : ℕ) × (k < suc n) × (omit k ≡ false) × (number omit k ≡ m)
    by_order (inl i) = let w = before i in (w.0, (let j = w.1 in omega arith), w.2, w.3)
    by_order (inr i) = (n, omega arith, stay, omega arith)

-- what stays of a list ------------------------------------------------------------------------------------

pub staying-append : (omit : ℕ → Bool) (place : ℕ) (xs ys : List Event) →
    staying omit place (xs ++ ys) ≡ staying omit place xs ++ staying omit (place + length xs) ys
staying-append omit place [] ys = let same : place + 0 ≡ place = omega arith in ap (λ n. staying omit n ys) (sym same)
staying-append omit place (x ∷ xs) ys =
    let same : suc place + length xs ≡ place + suc (length xs) = omega arith in
    let rest = staying-append omit (suc place) xs ys ∙ ap (λ n. staying omit (suc place) xs ++ staying omit n ys) same in
    by_test (omit place) rest
  where
    by_test : (b : Bool) → staying omit (suc place) (xs ++ ys) ≡ staying omit (suc place) xs ++ staying omit (place + suc (length xs)) ys →
        cond b (staying omit (suc place) (xs ++ ys)) (event_by (number omit) x ∷ staying omit (suc place) (xs ++ ys)) ≡
        cond b (staying omit (suc place) xs) (event_by (number omit) x ∷ staying omit (suc place) xs) ++ staying omit (place + suc (length xs)) ys
    by_test true rest = rest
    by_test false rest = ap (λ zs. event_by (number omit) x ∷ zs) rest

length_staying : (omit : ℕ → Bool) (place : ℕ) (xs : List Event) → number omit place + length (staying omit place xs) ≡ number omit (place + length xs)
length_staying omit place [] = let same : place + 0 ≡ place = omega arith in rw same (omega arith)
length_staying omit place (x ∷ xs) =
    let same : suc place + length xs ≡ place + suc (length xs) = omega arith in
    by_test (omit place) refl (length_staying omit (suc place) xs ∙ ap (number omit) same)
  where
    by_test : (b : Bool) → omit place ≡ b → number omit (suc place) + length (staying omit (suc place) xs) ≡ number omit (place + suc (length xs)) →
        number omit place + length (cond b (staying omit (suc place) xs) (event_by (number omit) x ∷ staying omit (suc place) xs)) ≡
        number omit (place + suc (length xs))
    by_test true gone rest = rw gone at rest
    by_test false stay rest = let next = number_stays omit place stay in omega arith

pub length-what_stays : (omit : ℕ → Bool) (h : List Event) → length (what_stays omit h) ≡ number omit (length h)
length-what_stays omit h = let e = length_staying omit 0 h in let same : 0 + length h ≡ length h = omega arith in omega (arith, ap (number omit) same)

-- where none is left out ----------------------------------------------------------------------------------

pub number-le_itself : (omit : ℕ → Bool) (n : ℕ) → number omit n ≤ n
number-le_itself omit zero = omega arith
number-le_itself omit (suc n) = by_test (omit n) (number-le_itself omit n) where
  by_test : (b : Bool) → number omit n ≤ n → cond b (number omit n) (suc (number omit n)) ≤ suc n
  by_test true less = omega arith
  by_test false less = omega arith

-- where a number stays as it is, all before it do
pub number_itself : (omit : ℕ → Bool) (n : ℕ) → number omit n ≡ n → (k : ℕ) → k ≤ n → number omit k ≡ k
number_itself omit zero same k l = let z : k ≡ 0 = omega arith in rw z refl
number_itself omit (suc n) same k l = by_test (omit n) same (number_itself omit n) (cases_lt n k) where
  by_test : (b : Bool) → cond b (number omit n) (suc (number omit n)) ≡ suc n → (number omit n ≡ n → (j : ℕ) → j ≤ n → number omit j ≡ j) →
      (n < k) ⊎ (k ≤ n) → number omit k ≡ k
  by_test true is before there = absurd (let w = number-le_itself omit n in omega arith)
  by_test false is before (inr less) = before (omega arith) k less
  by_test false is before (inl more) = let e : k ≡ suc n = omega arith in rw e same
