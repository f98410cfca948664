-- Members of a list, pairs of them, and the members of a list that is mapped.
use Rattle.rx_ground.proofs.Common.{◌≡◌, zero, suc, List, [], ◌∷◌, map, get_or, refl, ap, subst, arith, ◌⊎◌, All, AllPairs, Contains, AllPairs-cons}
use Rattle.std.proofs.lemmas.List.Elements.{Contains-get_or}
use Rattle.std.proofs.Common.{rules}

module _ {X : Type 0} where
  pub Contains-head : (x : X) (xs : List X) → Contains (x ∷ xs) x
  Contains-head x xs = (0, omega arith, refl)

  pub Contains-later : (x : X) (xs : List X) (y : X) → Contains xs y → Contains (x ∷ xs) y
  Contains-later x xs y c = (suc c.0, (let l = c.1 in omega arith), c.2)

  pub Contains-none : (x : X) → Contains [] x → ⊥
  Contains-none x c = absurd (let l = c.1 in omega arith)

  pub Contains-cases : (x : X) (xs : List X) (y : X) → Contains (x ∷ xs) y → (x ≡ y) ⊎ Contains xs y
  Contains-cases x xs y x3 = search rules

  -- what holds of each member
  pub All-members : (P : X → Type 0) (xs : List X) → ((x : X) → Contains xs x → P x) → All P xs
  All-members P xs each k d l = each (get_or xs k d) (Contains-get_or xs k d l)

  -- the head against what comes later
  pub AllPairs-head : (R : X → X → Type 0) (x : X) (xs : List X) → AllPairs R (x ∷ xs) → (y : X) → Contains xs y → R x y
  AllPairs-head R x xs pairs y c = subst (R x) c.2 (let l = c.1 in pairs 0 (suc c.0) y (omega arith) (omega arith))

  pub AllPairs-tail : (R : X → X → Type 0) (x : X) (xs : List X) → AllPairs R (x ∷ xs) → AllPairs R xs
  AllPairs-tail R x xs pairs i j d l m = pairs (suc i) (suc j) d (omega arith) (omega arith)

  pub AllPairs-nil : (R : X → X → Type 0) → AllPairs R []
  AllPairs-nil R i j d l m = absurd (omega arith)

-- members of a mapped list
pub Contains-map : {X Y : Type 0} (f : X → Y) (xs : List X) (x : X) → Contains xs x → Contains (map f xs) (f x)
Contains-map f [] x c = absurd (omega (arith, c.1))
Contains-map f (y ∷ xs) x (zero, within, at) = (0, omega arith, ap f at)
Contains-map f (y ∷ xs) x (suc k, within, at) = Contains-later (f y) (map f xs) (f x) (Contains-map f xs x (k, omega arith, at))

pub Contains-from_map : {X Y : Type 0} (f : X → Y) (xs : List X) (y : Y) → Contains (map f xs) y → (x : X) × Contains xs x × (f x ≡ y)
Contains-from_map f [] y c = absurd (omega (arith, c.1))
Contains-from_map f (x ∷ xs) y (zero, within, at) = (x, Contains-head x xs, at)
Contains-from_map f (x ∷ xs) y (suc k, within, at) = let c = Contains-from_map f xs y (k, omega arith, at) in (c.0, Contains-later x xs c.0 c.1, c.2)

pub AllPairs-map : {X Y : Type 0} (f : X → Y) (R : Y → Y → Type 0) (xs : List X) → AllPairs (λ a b. R (f a) (f b)) xs → AllPairs R (map f xs)
AllPairs-map f R [] pairs = AllPairs-nil R
AllPairs-map {X} {Y} f R (x ∷ xs) pairs = AllPairs-cons R (f x) (map f xs) (All-members (R (f x)) (map f xs) apart) (AllPairs-map f R xs later) where
  later : AllPairs (λ a b. R (f a) (f b)) xs
  later = AllPairs-tail (λ a b. R (f a) (f b)) x xs pairs

  apart : (y : Y) → Contains (map f xs) y → R (f x) y
  apart y c = let m = Contains-from_map f xs y c in subst (R (f x)) m.2 (AllPairs-head (λ a b. R (f a) (f b)) x xs pairs m.0 m.1)

-- pairs of members, of which more is known
pub AllPairs-by : {X : Type 0} (R S : X → X → Type 0) (xs : List X) → ((x y : X) → Contains xs x → Contains xs y → R x y → S x y) →
    AllPairs R xs → AllPairs S xs
AllPairs-by R S [] by pairs = AllPairs-nil S
AllPairs-by R S (x ∷ xs) by pairs = AllPairs-cons S x xs
    (All-members (S x) xs (λ y c. by x y (Contains-head x xs) (Contains-later x xs y c) (AllPairs-head R x xs pairs y c)))
    (AllPairs-by R S xs (λ a b c d r. by a b (Contains-later x xs a c) (Contains-later x xs b d) r) (AllPairs-tail R x xs pairs))
