-- The first number on a list, and what leaves its list.
use Rattle.std.proofs.Common.{◌≡◌, ℕ, ◌<◌, ◌==◌, ◌||◌, true, false, List, [], ◌∷◌, Some, sym, ◌∙◌, ap, subst}
use Rattle.rx_slots.specs.Lists.{Lists, list_at, is_in, take_out, AreApart, head_of, IsPlain}
use Rattle.rx_lanes.proofs.NumbersOnLists.{eq_self, take_out-gone, take_out-first}

head_on : (xs : List ℕ) (c : ℕ) → head_of xs ≡ Some c → is_in c xs ≡ true
head_on [] c e = cc
head_on (x ∷ xs) c e = let s : x ≡ c = cc in ap (λ b. b || is_in c xs) (subst (λ z. (c == z) ≡ true) (sym s) (eq_self c))

pub head_rest : (xs : List ℕ) (c : ℕ) → AreApart xs → head_of xs ≡ Some c → xs ≡ c ∷ take_out c xs
head_rest [] c a e = cc
head_rest (x ∷ xs) c a e =
    let s : x ≡ c = cc in
    subst (λ z. z ∷ xs ≡ c ∷ take_out c (z ∷ xs)) (sym s)
    (ap (λ (ys : List ℕ). c ∷ ys) (sym (take_out-first c xs (subst (λ z. is_in z xs ≡ false) s a.0))))

-- the first of a list
pub record IsFirst (s : Lists) (from cell : ℕ) : Type 0 where
  pub plain : IsPlain s
  pub head : head_of (list_at s from) ≡ Some cell

module _ {s : Lists} {from cell : ℕ} (first : IsFirst s from cell) where
  pub on_it : is_in cell (list_at s from) ≡ true
  on_it = head_on (list_at s from) cell first.head

  pub first_below : cell < s.members
  first_below = first.plain.below from cell on_it

-- what left stands on no list
pub left_free : (a b : Lists) (cell : ℕ) → ((e : ℕ) → list_at b e ≡ take_out cell (list_at a e)) → (e : ℕ) → is_in cell (list_at b e) ≡ false
left_free a b cell leaves e = ap (is_in cell) (leaves e) ∙ take_out-gone cell (list_at a e)
