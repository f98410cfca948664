-- Sums over the numbers below a bound that pass a test: with one less, with one more, and over those alone that fail another test.
use Rattle.rx_audit.proofs.Common.{◌≡◌, ℕ, zero, suc, ◌+◌, ◌<◌, ◌≤◌, Bool, true, false, List, ◌∷◌, length, refl, sym, ap, ◌∙◌, arith, inl, inr, ◌⊎◌, cond, ◌&&◌, not}
use Rattle.rx_audit.proofs.Common.{sum_by, sum_by-cons, cases_order, false_from_ne_true, and_false, Event, is_subscriber_of, at, is_open, open_subscribers, falling}
use Rattle.rx_audit.proofs.Common.{get_or, Subscribers, on_list, AreLinked, AreOpenListed}
use Rattle.rx_event.specs.Events.{is_root}
use Rattle.rx_event.proofs.Laws.Connections.{sum_by-falling}
use Rattle.rx_audit.specs.Flow.{entered}
use Rattle.rx_audit.specs.HubTables.{AreNestedListed}
use Rattle.rx_audit.proofs.Neighbours.{IsLess}
use Rattle.rx_audit.proofs.VisitLogEntries.{count_all}
use Rattle.std.proofs.Common.{rules}

pub falling_same : (p q : ℕ → Bool) → ((k : ℕ) → p k ≡ q k) → (k : ℕ) → falling p k ≡ falling q k
falling_same p q same zero = refl
falling_same p q same (suc k) = search (rules, cond, falling_same p q same k)

pub falling_below : (p q : ℕ → Bool) (k : ℕ) → ((j : ℕ) → j < k → p j ≡ q j) → falling p k ≡ falling q k
falling_below p q zero same = refl
falling_below p q (suc k) same = rw (same k (omega arith), falling_below p q k (λ j l. same j (omega arith))) refl

-- one less
pub falling_less : {p q : ℕ → Bool} {s : ℕ} → IsLess p q s → (w : ℕ → ℕ) (k : ℕ) → s < k → sum_by w (falling p k) ≡ w s + sum_by w (falling q k)
falling_less less w zero l = absurd (omega arith)
falling_less {p} {q} {s} less w (suc k) l = by_place (λ m. falling_less less w k m) (cases_order k s) where
  step : (b : Bool) → sum_by w (falling p k) ≡ w s + sum_by w (falling q k)
      → sum_by w (cond b (k ∷ falling p k) (falling p k)) ≡ w s + sum_by w (cond b (k ∷ falling q k) (falling q k))
  step true rest = let a = sum_by-cons w k (falling p k) in let b = sum_by-cons w k (falling q k) in omega arith
  step false rest = rest

  by_place : (s < k → sum_by w (falling p k) ≡ w s + sum_by w (falling q k)) → (k ≡ s) ⊎ ((k < s) ⊎ (s < k))
      → sum_by w (falling p (suc k)) ≡ w s + sum_by w (falling q (suc k))
  by_place below (inl is) =
      let here : p k ≡ true = ap p is ∙ less.here in
      let gone : q k ≡ false = ap q is ∙ less.gone in
      let a : sum_by w (falling p (suc k)) ≡ w k + sum_by w (falling p k) =
      ap (λ b. sum_by w (cond b (k ∷ falling p k) (falling p k))) here ∙ sum_by-cons w k (falling p k) in
      let b : sum_by w (falling q (suc k)) ≡ sum_by w (falling q k) = ap (λ b. sum_by w (cond b (k ∷ falling q k) (falling q k))) gone in
      let c : sum_by w (falling q k) ≡ sum_by w (falling p k) = ap (sum_by w) (falling_below q p k (λ j m. less.same j (omega arith))) in
      let d : w k ≡ w s = ap w is in omega arith
  by_place below (inr (inl m)) = absurd (omega arith)
  by_place below (inr (inr m)) =
      let same : q k ≡ p k = less.same k (omega arith) in
      step (p k) (below m) ∙ ap (λ b. w s + sum_by w (cond b (k ∷ falling q k) (falling q k))) (sym same)

-- the bound is one more, and does not pass, or does
pub falling_longer : (p q : ℕ → Bool) (n : ℕ) → ((k : ℕ) → q k ≡ p k) → ((k : ℕ) → p k ≡ true → k < n) → falling q (suc n) ≡ falling p n
falling_longer p q n same within =
    let out : q n ≡ false = false_from_ne_true _ (λ y. let l = within n (sym (same n) ∙ y) in omega arith) in
    ap (λ b. cond b (n ∷ falling q n) (falling q n)) out ∙ falling_same q p same n

pub falling_more : (p q : ℕ → Bool) (w : ℕ → ℕ) (n : ℕ) → ((k : ℕ) → k < n → q k ≡ p k) → q n ≡ true
    → sum_by w (falling q (suc n)) ≡ w n + sum_by w (falling p n)
falling_more p q w n same new =
    ap (λ b. sum_by w (cond b (n ∷ falling q n) (falling q n))) new ∙ sum_by-cons w n (falling q n)
    ∙ ap (λ (xs : List ℕ). w n + sum_by w xs) (falling_below q p n same)

pub falling_few : (p : ℕ → Bool) (n : ℕ) → sum_by (λ k. 1) (falling p n) ≤ n
falling_few p zero = omega arith
falling_few p (suc n) = by_test (p n) (falling_few p n) where
  by_test : (b : Bool) → sum_by (λ k. 1) (falling p n) ≤ n → sum_by (λ k. 1) (cond b (n ∷ falling p n) (falling p n)) ≤ suc n
  by_test true few = let a = sum_by-cons (λ k. 1) n (falling p n) in omega arith
  by_test false few = omega arith

-- those that fail another test
falling_kept : (p q t : ℕ → Bool) (w : ℕ → ℕ) → ((k : ℕ) → q k ≡ (not (t k) && p k)) → (n : ℕ)
    → sum_by w (falling q n) ≡ sum_by (λ k. cond (t k) 0 (w k)) (falling p n)
falling_kept p q t w both zero = refl
falling_kept p q t w both (suc n) =
    ap (λ b. sum_by w (cond b (n ∷ falling q n) (falling q n))) (both n) ∙ by_tests (t n) (p n) refl (falling_kept p q t w both n) where
      by_tests : (a b : Bool) → t n ≡ a → sum_by w (falling q n) ≡ sum_by (λ k. cond (t k) 0 (w k)) (falling p n)
          → sum_by w (cond (not a && b) (n ∷ falling q n) (falling q n)) ≡ sum_by (λ k. cond (t k) 0 (w k)) (cond b (n ∷ falling p n) (falling p n))
      by_tests true true is rest =
          let a = sum_by-cons (λ k. cond (t k) 0 (w k)) n (falling p n) in
          let z : cond (t n) 0 (w n) ≡ 0 = ap (λ c. cond c 0 (w n)) is in omega arith
      by_tests false true is rest =
          let a = sum_by-cons (λ k. cond (t k) 0 (w k)) n (falling p n) in
          let b = sum_by-cons w n (falling q n) in
          let z : cond (t n) 0 (w n) ≡ w n = ap (λ c. cond c 0 (w n)) is in omega arith
      by_tests true false is rest = rest
      by_tests false false is rest = rest

-- the lists of subscribers ------------------------------------------------------------------------------

pub on_open : (h : List Event) (s : Subscribers) (g k : ℕ) → AreOpenListed h s → on_list h s.listed.items g k ≡ (at (is_subscriber_of g) h k && is_open h k)
on_open h s g k listed = by_test (at (is_subscriber_of g) h k) refl where
  by_test : (b : Bool) → at (is_subscriber_of g) h k ≡ b → (b && get_or s.listed.items k false) ≡ (b && is_open h k)
  by_test true y = listed g k y
  by_test false z = refl

on_nested : (h : List Event) (s : Subscribers) (g k : ℕ) → AreNestedListed h s
    → on_list h s.listed.items g k ≡ (not (at is_root h k) && (at (is_subscriber_of g) h k && is_open h k))
on_nested h s g k listed = by_test (at (is_subscriber_of g) h k) refl where
  by_test : (b : Bool) → at (is_subscriber_of g) h k ≡ b → (b && get_or s.listed.items k false) ≡ (not (at is_root h k) && (b && is_open h k))
  by_test true y = listed g k y
  by_test false z = sym (and_false (not (at is_root h k)))

pub count_open : (h : List Event) (size : ℕ) (s : Subscribers) (g word : ℕ) → AreLinked h size s → AreOpenListed h s → word ≡ get_or s.counts.items g 0
    → word ≡ length (open_subscribers h g)
count_open h size s g word w listed is = is ∙ w.counted g
    ∙ ap (sum_by (λ k. 1)) (falling_same (on_list h s.listed.items g) (λ n. at (is_subscriber_of g) h n && is_open h n)
    (λ k. on_open h s g k listed) (length h))
    ∙ sum_by-falling (λ n. at (is_subscriber_of g) h n && is_open h n) (λ k. 1) (length h) ∙ count_all (open_subscribers h g)

pub nested_entered : (h : List Event) (s : Subscribers) (g : ℕ) (number : ℕ → ℕ) → AreNestedListed h s
    → sum_by number (falling (on_list h s.listed.items g) (length h)) ≡ sum_by (entered h number) (open_subscribers h g)
nested_entered h s g number listed =
    falling_kept (λ n. at (is_subscriber_of g) h n && is_open h n) (on_list h s.listed.items g) (at is_root h) number
    (λ k. on_nested h s g k listed) (length h)
    ∙ sum_by-falling (λ n. at (is_subscriber_of g) h n && is_open h n) (entered h number) (length h)
