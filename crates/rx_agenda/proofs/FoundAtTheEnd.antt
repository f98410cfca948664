-- What is found once one more stands at the end.
use Rattle.rx_agenda.proofs.Common.{◌≡◌, List, [], ◌∷◌, ◌++◌, Bool, cond, refl, Option, Some, None, find}
use Rattle.std.proofs.Common.{rules}

-- the last where none was found before
abbrev pub or_last : {A : Type 0} → (A → Bool) → A → Option A → Option A
or_last p x (Some y) = Some y
or_last p x None = cond (p x) (Some x) None

pub find-push : {A : Type 0} (p : A → Bool) (xs : List A) (x : A) → find p (xs ++ x ∷ []) ≡ or_last p x (find p xs)
find-push p [] x = refl
find-push p (y ∷ ys) x = search (rules, cond, find, find-push p ys x)
