-- Notes that are handed out one after another.
use Rattle.std.proofs.Common.{◌≡◌, ℕ, suc, zero, ◌+◌, ◌<◌, ◌≤◌, List, [], ◌∷◌, length, map, drop, Some, None, slice_get, sym, ap, ◌∙◌, arith}
use Rattle.std.proofs.lemmas.Option.{same_Some}
use Rattle.std.proofs.lemmas.List.{drop_all, length-map}
use Rattle.rx_slots.specs.declared.Key.{Key}
use Rattle.rx_event.specs.declared.mail.Mail.{Mail}
use Rattle.rx_event.specs.Notes.{notes}
use Rattle.rx_book.specs.State.{State}
use Rattle.rx_engine.specs.Settlements.{mail_left}

plus_one : (n : ℕ) → suc n ≡ n + 1
plus_one n = omega arith

pub drop_one : {X : Type 0} (xs : List X) (k : ℕ) (x : X) → slice_get xs k ≡ Some x → drop k xs ≡ x ∷ drop (k + 1) xs
drop_one {X} xs k x is = one xs k is ∙ ap (λ (n : ℕ). x ∷ drop n xs) (plus_one k) where
  one : (ys : List X) (j : ℕ) → slice_get ys j ≡ Some x → drop j ys ≡ x ∷ drop (suc j) ys
  one [] j is = absurd (cc)
  one (y ∷ ys) zero is = ap (λ (z : X). z ∷ ys) (same_Some y x is)
  one (y ∷ ys) (suc j) is = one ys j is

pub get_within : {X : Type 0} (xs : List X) (k : ℕ) (x : X) → slice_get xs k ≡ Some x → k < length xs
get_within [] k x is = absurd (cc)
get_within (y ∷ ys) zero x is = omega arith
get_within (y ∷ ys) (suc k) x is = let w = get_within ys k x is in omega arith

pub get_past : {X : Type 0} (xs : List X) (k : ℕ) → slice_get xs k ≡ None → length xs ≤ k
get_past [] k is = omega arith
get_past (y ∷ ys) zero is = absurd (cc)
get_past (y ∷ ys) (suc k) is = let w = get_past ys k is in omega arith

-- the next note comes first of those that are left
pub left_more : (s t : State) (m : Mail) → Some m ≡ slice_get (notes s.history) s.given → t ≡ record s { given = s.given + 1 } → mail_left s ≡ m ∷ mail_left t
left_more s t m found is = drop_one (notes s.history) s.given m (sym found) ∙ ap (λ (x : State). m ∷ mail_left x) (sym is)

pub left_none : (s : State) → None ≡ slice_get (notes s.history) s.given → mail_left s ≡ []
left_none s none = drop_all s.given (notes s.history) (get_past (notes s.history) s.given (sym none))

-- only how many were handed out changes
pub given_on : (first s t : State) → s ≡ record first { given = s.given } → t ≡ record s { given = s.given + 1 } → t ≡ record first { given = t.given }
given_on first s t so is =
    is ∙ ap (λ (x : State). record x { given = s.given + 1 }) so ∙ ap (λ (n : ℕ). record first { given = n }) (sym (ap (λ (x : State). x.given) is))

-- the next of the nodes that were closed comes first of those that are left
pub closed_more : (ks : List Key) (at : ℕ) (k : Key) → slice_get ks at ≡ Some k →
    drop at (map (λ (j : Key). j.number) ks) ≡ k.number ∷ drop (at + 1) (map (λ (j : Key). j.number) ks)
closed_more ks at k is = one ks at is ∙ ap (λ (n : ℕ). k.number ∷ drop n (map (λ (j : Key). j.number) ks)) (plus_one at) where
  one : (xs : List Key) (i : ℕ) → slice_get xs i ≡ Some k → drop i (map (λ (j : Key). j.number) xs) ≡ k.number ∷ drop (suc i) (map (λ (j : Key). j.number) xs)
  one [] i is = absurd (cc)
  one (x ∷ xs) zero is = ap (λ (z : Key). z.number ∷ map (λ (j : Key). j.number) xs) (same_Some x k is)
  one (x ∷ xs) (suc i) is = one xs i is

pub closed_none : (ks : List Key) (at : ℕ) → slice_get ks at ≡ None → drop at (map (λ (j : Key). j.number) ks) ≡ []
closed_none ks at none = drop_all at (map (λ (j : Key). j.number) ks) (let p = get_past ks at none in let l = length-map ks (λ (j : Key). j.number) in
    omega (arith, p, l))
