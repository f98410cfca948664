-- Lists by rising number are told by what their members are.
use Rattle.rx_ground.proofs.Common.{◌≡◌, ◌≢◌, ℕ, zero, suc, ◌+◌, ◌<◌, ◌≤◌, ◌==◌, Bool, true, false, cond, List, [], ◌∷◌, map, get_or, IsTrue, refl, sym, ap}
use Rattle.rx_ground.proofs.Common.{subst, ◌∙◌, inl, inr, ◌⊎◌, arith, AllPairs, Contains, AllByRecursion, IsDistinct, filter, range_with_len, IsPermutation}
use Rattle.rx_ground.proofs.Common.{both_ways, eqb-true, eq-eqb, ne_eqb, All-contains, IsPermutation-map, IsPermutation-sym, Contains-permutation, IsByNumber}
use Rattle.std.specs.List.Sorted.{IsNonDecreasingBy}
use Rattle.std.proofs.lemmas.Map.Keys.{IsDistinct-IsPermutation, IsDistinct-from_apart, IsDistinct-head, IsDistinct-tail}
use Rattle.rx_ground.proofs.Laws.Members.{Contains-head, Contains-later, Contains-none, Contains-cases, Contains-from_map}
use Rattle.rx_ground.proofs.Laws.Numbers.{ListsJust}
use Rattle.std.proofs.Common.{rules}

-- each number is less than all after it
abbrev pub Rising : List ℕ → Type 0
Rising [] = Unit {0}
Rising (n ∷ ns) = ((k : ℕ) → Contains ns k → n < k) × Rising ns

-- two such lists with the same members are one
pub same_rising : (xs ys : List ℕ) → Rising xs → Rising ys → ((k : ℕ) → Contains xs k → Contains ys k) → ((k : ℕ) → Contains ys k → Contains xs k) → xs ≡ ys
same_rising [] [] up down there back = refl
same_rising [] (y ∷ ys) up down there back = absurd (Contains-none y (back y (Contains-head y ys)))
same_rising (x ∷ xs) [] up down there back = absurd (Contains-none x (there x (Contains-head x xs)))
same_rising (x ∷ xs) (y ∷ ys) up down there back = λ i. heads i ∷ same_rising xs ys up.1 down.1 onward backward i where
  heads : x ≡ y
  heads = by_places (Contains-cases y ys x (there x (Contains-head x xs))) (Contains-cases x xs y (back y (Contains-head y ys))) where
    by_places : (y ≡ x) ⊎ Contains ys x → (x ≡ y) ⊎ Contains xs y → x ≡ y
    by_places (inl same) other = sym same
    by_places (inr later) (inl same) = same
    by_places (inr later) (inr further) = absurd (let a = down.0 x later in let b = up.0 y further in omega arith)

  onward : (k : ℕ) → Contains xs k → Contains ys k
  onward k c = by_place (Contains-cases y ys k (there k (Contains-later x xs k c))) where
    by_place : (y ≡ k) ⊎ Contains ys k → Contains ys k
    by_place (inl same) = absurd (let a = up.0 k c in let b = heads in omega arith)
    by_place (inr later) = later

  backward : (k : ℕ) → Contains ys k → Contains xs k
  backward k c = by_place (Contains-cases x xs k (back k (Contains-later y ys k c))) where
    by_place : (x ≡ k) ⊎ Contains xs k → Contains xs k
    by_place (inl same) = absurd (let a = down.0 k c in let b = heads in omega arith)
    by_place (inr later) = later

-- numbers in a range ------------------------------------------------------------------------------

from_filter : (test : ℕ → Bool) (s n k : ℕ) → Contains (filter test (range_with_len s n)) k → (test k ≡ true) × (s ≤ k)
from_filter test s zero k c = absurd (Contains-none k c)
from_filter test s (suc n) k c = search (rules, filter, range_with_len, cond, from_filter test (s + 1) n k)

beyond : (s k : ℕ) → s ≤ k → (s ≡ k → ⊥) → s + 1 ≤ k
beyond s k l apart = omega arith

to_filter : (test : ℕ → Bool) (s n k : ℕ) → test k ≡ true → s ≤ k → k < s + n → Contains (filter test (range_with_len s n)) k
to_filter test s zero k passes l m = absurd (omega arith)
to_filter test s (suc n) k passes l m = by_test (λ further. to_filter test (s + 1) n k passes further (omega arith)) (test s) refl (s == k) refl where
  more : List ℕ
  more = filter test (range_with_len (s + 1) n)

  later : (s + 1 ≤ k → Contains more k) → (s == k) ≡ false → Contains more k
  later rest apart = rest (beyond s k l (λ same. both_ways (s == k) apart (eq-eqb s k same)))

  by_test : (s + 1 ≤ k → Contains more k) → (b : Bool) → test s ≡ b → (c : Bool) → (s == k) ≡ c → Contains (cond b (s ∷ more) more) k
  by_test rest true is true same = subst (λ (j : ℕ). Contains (s ∷ more) j) (eqb-true s k same) (Contains-head s more)
  by_test rest true is false apart = Contains-later s more k (later rest apart)
  by_test rest false is true same = absurd (both_ways (test s) is (ap test (eqb-true s k same) ∙ passes))
  by_test rest false is false apart = later rest apart

rising_filter : (test : ℕ → Bool) (s n : ℕ) → Rising (filter test (range_with_len s n))
rising_filter test s zero = tt
rising_filter test s (suc n) = by_test (rising_filter test (s + 1) n) (test s) where
  more : List ℕ
  more = filter test (range_with_len (s + 1) n)

  by_test : Rising more → (b : Bool) → Rising (cond b (s ∷ more) more)
  by_test rest true = ((λ k c. let l = (from_filter test (s + 1) n k c).1 in omega arith), rest)
  by_test rest false = rest

-- the numbers that pass, by rising number
pub rising_just : (test : ℕ → Bool) (m : ℕ) (ns : List ℕ) → Rising ns → ((k : ℕ) → Contains ns k → test k ≡ true) → ((k : ℕ) → test k ≡ true → Contains ns k) →
    ((k : ℕ) → test k ≡ true → k < m) → ns ≡ filter test (range_with_len 0 m)
rising_just test m ns up each every below = same_rising ns (filter test (range_with_len 0 m)) up (rising_filter test 0 m)
    (λ k c. to_filter test 0 m k (each k c) (omega arith) (let l = below k (each k c) in omega arith)) (λ k c. every k (from_filter test 0 m k c).0)

-- records by number ---------------------------------------------------------------------------------

member_of : {X : Type 0} (P : X → Type 0) (xs : List X) → AllByRecursion P xs → (x : X) → Contains xs x → P x
member_of P [] all x c = absurd (Contains-none x c)
member_of P (y ∷ xs) all x c = search (rules, member_of P xs all.1 x)

flips : (a b : ℕ) → (a == b) ≡ (b == a)
flips a b = search (rules, eq-eqb, eqb-true, ne_eqb, both_ways)

distinct : (ns : List ℕ) → AllPairs (λ a b. a ≢ b) ns → IsDistinct (λ a b. a == b) ns
distinct ns pairs = IsDistinct-from_apart (λ a b. a == b) ns (λ i j d l m. ne_eqb (get_or ns i d) (get_or ns j d) (pairs i j d l m))

strictly : (a b k : ℕ) → a ≤ b → b ≡ k → (a ≡ k → ⊥) → a < k
strictly a b k l same apart = omega arith

module _ {X : Type 0} (number : X → ℕ) where
  tail_up : (x : X) (xs : List X) → IsNonDecreasingBy number (x ∷ xs) → IsNonDecreasingBy number xs
  tail_up x xs up i j d l m = up (suc i) (suc j) d (omega arith) (omega arith)

  head_up : (x : X) (xs : List X) → IsNonDecreasingBy number (x ∷ xs) → (y : X) → Contains xs y → number x ≤ number y
  head_up x xs up y c =
      let later : number x ≤ number (get_or (x ∷ xs) (suc c.0) y) = up 0 (suc c.0) y (omega arith) (let l = c.1 in omega arith) in
      subst (λ (z : X). number x ≤ number z) c.2 later

  rises : (xs : List X) → IsNonDecreasingBy number xs → IsDistinct (λ a b. a == b) (map number xs) → Rising (map number xs)
  rises [] up apart = tt
  rises (x ∷ xs) up apart = (above, rises xs (tail_up x xs up) (IsDistinct-tail (λ a b. a == b) (number x) (map number xs) apart)) where
    above : (k : ℕ) → Contains (map number xs) k → number x < k
    above k c =
        let m = Contains-from_map number xs k c in
        let l : number x ≤ number m.0 = head_up x xs up m.0 m.1 in
        let other : (number x == k) ≡ false =
        member_of (λ y. (number x == y) ≡ false) (map number xs) (IsDistinct-head (λ a b. a == b) (number x) (map number xs) apart) k c in
        strictly (number x) (number m.0) k l m.2 (λ e. both_ways (number x == k) other (eq-eqb (number x) k e))

  rebuilt : (keep : ℕ → X) (xs : List X) → ((x : X) → Contains xs x → x ≡ keep (number x)) → xs ≡ map keep (map number xs)
  rebuilt keep [] each = refl
  rebuilt keep (x ∷ xs) each = λ i. each x (Contains-head x xs) i ∷ rebuilt keep xs (λ y c. each y (Contains-later x xs y c)) i

  -- what is kept of just these numbers, in the order of the numbers
  pub in_order : (keep : ℕ → X) {test : ℕ → Bool} (m : ℕ) (xs ys : List X) → IsByNumber number xs ys → ((x : X) → Contains xs x → x ≡ keep (number x)) →
      ListsJust test (map number xs) → ((n : ℕ) → test n ≡ true → n < m) → ys ≡ map keep (filter test (range_with_len 0 m))
  in_order keep {test} m xs ys order each just below = rebuilt keep ys kept ∙ ap (map keep) (rising_just test m (map number ys) up passes listed below) where
    same : IsPermutation (map number xs) (map number ys)
    same = IsPermutation-map number xs ys order.same

    kept : (x : X) → Contains ys x → x ≡ keep (number x)
    kept x c = each x (Contains-permutation ys xs x (IsPermutation-sym xs ys order.same) c)

    up : Rising (map number ys)
    up = rises ys order.rising (IsDistinct-IsPermutation (λ a b. a == b) flips (map number xs) (map number ys) same (distinct (map number xs) just.once))

    passes : (k : ℕ) → Contains (map number ys) k → test k ≡ true
    passes k c = All-contains (λ n. IsTrue (test n)) (map number xs) k just.each
        (Contains-permutation (map number ys) (map number xs) k (IsPermutation-sym (map number xs) (map number ys) same) c)

    listed : (k : ℕ) → test k ≡ true → Contains (map number ys) k
    listed k is = Contains-permutation (map number xs) (map number ys) k same (just.every k is)
