-- Lists of numbers, no number on two of them.
use Rattle.std.specs.Prelude.{◌≡◌, ℕ, ◌<◌, ◌==◌, Bool, true, false, cond, List, [], ◌∷◌, Option, Some, None, slice_index_or}
use Rattle.std.specs.List.{list_any, filter}
use Rattle.std.proofs.Math.Bool.{not}

-- so many lists, numbers below a bound that may stand on them, and room for so many lists more
pub record Lists : Type 0 where
  pub lists : List (List ℕ)
  pub members : ℕ
  pub room : ℕ

abbrev pub list_at : Lists → ℕ → List ℕ
list_at s e = slice_index_or s.lists e []

abbrev pub is_in : ℕ → List ℕ → Bool
is_in m xs = list_any (λ k. m == k) xs

abbrev pub take_out : ℕ → List ℕ → List ℕ
take_out m xs = filter (λ k. not (m == k)) xs

abbrev pub head_of : List ℕ → Option ℕ
head_of [] = None
head_of (x ∷ xs) = Some x

-- the last of a list, after these
abbrev pub last_from : Option ℕ → List ℕ → Option ℕ
last_from before [] = before
last_from before (x ∷ xs) = last_from (Some x) xs

abbrev pub last_of : List ℕ → Option ℕ
last_of xs = last_from None xs

-- what follows a number on a list
abbrev pub after : ℕ → List ℕ → Option ℕ
after m [] = None
after m (x ∷ xs) = cond (m == x) (head_of xs) (after m xs)

-- no number stands twice
abbrev pub AreApart : List ℕ → Type 0
AreApart [] = Unit {0}
AreApart (x ∷ xs) = (is_in x xs ≡ false) × AreApart xs

-- each number stands on one list at most, and once
pub record IsPlain (s : Lists) : Type 0 where
  pub apart : (e : ℕ) → AreApart (list_at s e)
  pub once : (e f m : ℕ) → is_in m (list_at s e) ≡ true → is_in m (list_at s f) ≡ true → e ≡ f
  pub below : (e m : ℕ) → is_in m (list_at s e) ≡ true → m < s.members
