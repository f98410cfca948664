-- Sums over the places of a history.
use Rattle.rx_event.proofs.Laws.Common.{◌≡◌, ℕ, zero, suc, ◌+◌, ◌<◌, ◌≤◌, Bool, true, false, List, [], ◌∷◌, ◌++◌, length, cond, refl, sym, ap, ◌∙◌, arith, inl}
use Rattle.rx_event.proofs.Laws.Common.{inr, ◌⊎◌, ◌==◌, length-append, sum_by, count_by, range_with_len, cases_order, eq-eqb, ne_eqb, sum_by_push, Event, at}
use Rattle.rx_event.proofs.Laws.Common.{places}
use Rattle.std.proofs.Common.{add-zero, rules}
use Rattle.rx_event.proofs.Laws.Places.{slice_get_last, at-append}
use Rattle.rx_event.proofs.Laws.Steps.{by_pushes}

-- one number more ---------------------------------------------------------------------------------

pub range_push : (a n : ℕ) → range_with_len a (suc n) ≡ range_with_len a n ++ (a + n) ∷ []
range_push a zero = ap (λ (k : ℕ). k ∷ []) (sym (add-zero a))
range_push a (suc n) = search (rules, range_with_len, range_push (a + 1) n)

-- the last number comes last
pub below_push : (n : ℕ) → range_with_len 0 (suc n) ≡ range_with_len 0 n ++ n ∷ []
below_push n = let same : 0 + n ≡ n = omega arith in range_push 0 n ∙ ap (λ (k : ℕ). range_with_len 0 n ++ k ∷ []) same

-- the last place comes last
pub places-push : (h : List Event) (e : Event) → places (h ++ e ∷ []) ≡ places h ++ length h ∷ []
places-push h e = search (rules, length, length-append, range_with_len, below_push)

pub sum_by-places-push : (f : ℕ → ℕ) (h : List Event) (e : Event) → sum_by f (places (h ++ e ∷ [])) ≡ sum_by f (places h) + f (length h)
sum_by-places-push f h e = ap (sum_by f) (places-push h e) ∙ sum_by_push f (places h) (length h)

sum_below-suc : (f : ℕ → ℕ) (n : ℕ) → sum_by f (range_with_len 0 (suc n)) ≡ sum_by f (range_with_len 0 n) + f n
sum_below-suc f n = ap (sum_by f) (below_push n) ∙ sum_by_push f (range_with_len 0 n) n

-- sums term by term -------------------------------------------------------------------------------

-- sums whose terms balance
pub sums_balance : (a b c d : ℕ → ℕ) (n : ℕ) → ((k : ℕ) → k < n → a k + b k ≡ c k + d k) →
    sum_by a (range_with_len 0 n) + sum_by b (range_with_len 0 n) ≡ sum_by c (range_with_len 0 n) + sum_by d (range_with_len 0 n)
sums_balance a b c d zero each = refl
sums_balance a b c d (suc n) each = let rest = sums_balance a b c d n (λ k l. each k (omega arith)) in search (rules, sum_below-suc)

pub sum_by-same : (f g : ℕ → ℕ) (n : ℕ) → ((k : ℕ) → k < n → g k ≡ f k) → sum_by g (range_with_len 0 n) ≡ sum_by f (range_with_len 0 n)
sum_by-same f g zero each = refl
sum_by-same f g (suc n) each =
    let rest = sum_by-same f g n (λ k l. each k (omega arith)) in
    let last = each n (omega arith) in omega (arith, sum_below-suc f n, sum_below-suc g n)

pub sum_by-plus : (f g : ℕ → ℕ) (n : ℕ) → sum_by (λ k. f k + g k) (range_with_len 0 n) ≡ sum_by f (range_with_len 0 n) + sum_by g (range_with_len 0 n)
sum_by-plus f g zero = refl
sum_by-plus f g (suc n) = search (rules, sum_below-suc, sum_by-plus f g n)

-- no term rises
pub sum_by_no_rise : (f g : ℕ → ℕ) (n : ℕ) → ((k : ℕ) → k < n → g k ≤ f k) → sum_by g (range_with_len 0 n) ≤ sum_by f (range_with_len 0 n)
sum_by_no_rise f g zero each = omega arith
sum_by_no_rise f g (suc n) each =
    let rest = sum_by_no_rise f g n (λ k l. each k (omega arith)) in
    let last = each n (omega arith) in omega (arith, sum_below-suc f n, sum_below-suc g n)

-- no term rises, and one falls
pub sum_by_falls : (f g : ℕ → ℕ) (n c : ℕ) → c < n → ((k : ℕ) → k < n → g k ≤ f k) → g c + 1 ≤ f c →
    sum_by g (range_with_len 0 n) + 1 ≤ sum_by f (range_with_len 0 n)
sum_by_falls f g zero c l each less = absurd (omega arith)
sum_by_falls f g (suc n) c l each less = by_place (λ (m : c < n). sum_by_falls f g n c m (λ k b. each k (omega arith)) less) (cases_order c n) where
  rest : sum_by g (range_with_len 0 n) ≤ sum_by f (range_with_len 0 n)
  rest = sum_by_no_rise f g n (λ k m. each k (omega arith))

  by_place : (c < n → sum_by g (range_with_len 0 n) + 1 ≤ sum_by f (range_with_len 0 n)) → (c ≡ n) ⊎ ((c < n) ⊎ (n < c)) →
      sum_by g (range_with_len 0 (suc n)) + 1 ≤ sum_by f (range_with_len 0 (suc n))
  by_place before (inl same) = let r = rest in let last : g n + 1 ≤ f n = rw (← same) less in omega (arith, sum_below-suc f n, sum_below-suc g n)
  by_place before (inr (inl m)) = let r = before m in let last = each n (omega arith) in omega (arith, sum_below-suc f n, sum_below-suc g n)
  by_place before (inr (inr m)) = absurd (omega arith)

-- all terms are 0
pub sum_by_none : (f : ℕ → ℕ) (n : ℕ) → ((k : ℕ) → k < n → f k ≡ 0) → sum_by f (range_with_len 0 n) ≡ 0
sum_by_none f zero each = refl
sum_by_none f (suc n) each = let rest = sum_by_none f n (λ k l. each k (omega arith)) in let last = each n (omega arith) in omega (arith, sum_below-suc f n)

-- one term alone is not 0
pub sum_by_one : (f : ℕ → ℕ) (c n : ℕ) → c < n → sum_by (λ k. cond (c == k) (f k) 0) (range_with_len 0 n) ≡ f c
sum_by_one f c zero l = absurd (omega arith)
sum_by_one f c (suc n) l = sum_below-suc (λ k. cond (c == k) (f k) 0) n ∙ by_place (sum_by_one f c n) (cases_order c n) where
  by_place : (c < n → sum_by (λ k. cond (c == k) (f k) 0) (range_with_len 0 n) ≡ f c) → (c ≡ n) ⊎ ((c < n) ⊎ (n < c)) →
      sum_by (λ k. cond (c == k) (f k) 0) (range_with_len 0 n) + cond (c == n) (f n) 0 ≡ f c
  by_place before (inl same) = rw (eq-eqb c n same) (search (rules, sum_by_none, cond, ne_eqb))
  by_place before (inr (inl m)) = rw (ne_eqb c n (omega arith)) (let r = before m in omega arith)
  by_place before (inr (inr m)) = absurd (omega arith)

-- a term is within the sum
pub term_in_sum : (f : ℕ → ℕ) (c n : ℕ) → c < n → f c ≤ sum_by f (range_with_len 0 n)
term_in_sum f c n l =
    let one = sum_by_one f c n l in
    let less = sum_by_no_rise f (λ k. cond (c == k) (f k) 0) n (λ k m. by_test k (c == k)) in
    omega arith
  where
    by_test : (k : ℕ) (b : Bool) → cond b (f k) 0 ≤ f k
    by_test k true = omega arith
    by_test k false = omega arith

-- one number is counted once
pub count_by_one : (c n : ℕ) → c < n → count_by (λ k. c == k) (range_with_len 0 n) ≡ 1
count_by_one c n l = sum_by_one (λ k. 1) c n l

-- a count of events by their places
pub count_by-places : (p : Event → Bool) (h : List Event) → count_by p h ≡ count_by (at p h) (places h)
count_by-places p = by_pushes (λ h. count_by p h ≡ count_by (at p h) (places h)) refl (λ h e before.
    sum_by_push (λ (x : Event). cond (p x) 1 0) h e ∙ (λ i. before i + cond (p e) 1 0) ∙ sym (longer h e))
  where
    longer : (h : List Event) (e : Event) → count_by (at p (h ++ e ∷ [])) (places (h ++ e ∷ [])) ≡ count_by (at p h) (places h) + cond (p e) 1 0
    longer h e = search (rules, sum_by-same, at-append, sum_by-places-push, slice_get_last)
