-- Names that stand for other numbers.
use Rattle.rx_script.proofs.Common.{◌≡◌, ℕ, Bool, true, false, List, [], ◌∷◌, Option, Some, cond, map, refl, ap, subst, ◌∙◌, is_some, is_none}
use Rattle.rx_script.proofs.Common.{option_map, bytes_eq, AllByRecursion, map-append, same_Some, none-some, AllByRecursion-both, Name, Binding, bound}
use Rattle.rx_script.proofs.Common.{is_unbound, is_bound, with_binding}
use Rattle.std.specs.Prelude.{find}
use Rattle.std.proofs.Common.{rules}

abbrev pub renamed : (ℕ → ℕ) → Binding → Binding
renamed r b = record { name = b.name; number = r b.number }

-- each name stands for a number of this sort
abbrev pub AllNumbers : (ℕ → Type 0) → List Binding → Type 0
AllNumbers P bindings = AllByRecursion (λ b. P b.number) bindings

number_of : (r : ℕ → ℕ) (o : Option Binding) → option_map (λ b. b.number) (option_map (renamed r) o) ≡ option_map r (option_map (λ b. b.number) o)
number_of r x1 = search rules

find_renamed : (r : ℕ → ℕ) (bindings : List Binding) (name : Name)
    → find (λ b. bytes_eq b.name name) (map (renamed r) bindings) ≡ option_map (renamed r) (find (λ b. bytes_eq b.name name) bindings)
find_renamed r [] name = refl
find_renamed r (b ∷ bindings) name = by_test (bytes_eq b.name name) (find_renamed r bindings name) where
  by_test : (t : Bool) → find (λ x. bytes_eq x.name name) (map (renamed r) bindings) ≡ option_map (renamed r) (find (λ x. bytes_eq x.name name) bindings)
      → cond t (Some (renamed r b)) (find (λ x. bytes_eq x.name name) (map (renamed r) bindings))
      ≡ option_map (renamed r) (cond t (Some b) (find (λ x. bytes_eq x.name name) bindings))
  by_test true rest = refl
  by_test false rest = rest

-- what a name stands for
pub bound-renamed : (r : ℕ → ℕ) (bindings : List Binding) (name : Name) → bound (map (renamed r) bindings) name ≡ option_map r (bound bindings name)
unfolding bound
bound-renamed r bindings name = search (rules, option_map, find_renamed, bytes_eq)

is_some-map : (r : ℕ → ℕ) (o : Option ℕ) → is_some (option_map r o) ≡ is_some o
is_some-map r x1 = search rules

is_none-map : (r : ℕ → ℕ) (o : Option ℕ) → is_none (option_map r o) ≡ is_none o
is_none-map r x1 = search rules

pub bound-same : (r : ℕ → ℕ) (bindings others : List Binding) (name : Name) → others ≡ map (renamed r) bindings
    → bound others name ≡ option_map r (bound bindings name)
bound-same r bindings others name same = ap (λ (l : List Binding). bound l name) same ∙ bound-renamed r bindings name

pub is_bound-same : (r : ℕ → ℕ) (bindings others : List Binding) (name : Name) → others ≡ map (renamed r) bindings
    → is_bound others name ≡ is_bound bindings name
is_bound-same r bindings others name same = ap is_some (bound-same r bindings others name same) ∙ is_some-map r (bound bindings name)

pub is_unbound-same : (r : ℕ → ℕ) (bindings others : List Binding) (name : Name) → others ≡ map (renamed r) bindings
    → is_unbound others name ≡ is_unbound bindings name
is_unbound-same r bindings others name same = ap is_none (bound-same r bindings others name same) ∙ is_none-map r (bound bindings name)

found_holds : (P : ℕ → Type 0) (bindings : List Binding) (name : Name) (n : ℕ) → AllNumbers P bindings
    → option_map (λ b. b.number) (find (λ b. bytes_eq b.name name) bindings) ≡ Some n → P n
found_holds P [] name n all found = absurd (none-some n found)
found_holds P (b ∷ bindings) name n all found = by_test (bytes_eq b.name name) found (found_holds P bindings name n all.1) where
  by_test : (t : Bool) → option_map (λ (x : Binding). x.number) (cond t (Some b) (find (λ x. bytes_eq x.name name) bindings)) ≡ Some n
      → (option_map (λ (x : Binding). x.number) (find (λ x. bytes_eq x.name name) bindings) ≡ Some n → P n) → P n
  by_test true found rest = subst P (same_Some b.number n found) all.0
  by_test false found rest = rest found

-- what holds of all numbers holds of the one that a name stands for
pub bound-holds : (P : ℕ → Type 0) (bindings : List Binding) (name : Name) (n : ℕ) → AllNumbers P bindings → bound bindings name ≡ Some n → P n
unfolding bound
bound-holds P bindings name n all found = found_holds P bindings name n all found

pub all_numbers : (P Q : ℕ → Type 0) (bindings : List Binding) → ((n : ℕ) → P n → Q n) → AllNumbers P bindings → AllNumbers Q bindings
all_numbers P Q [] each all = tt
all_numbers P Q (b ∷ bindings) each all = (each b.number all.0, all_numbers P Q bindings each all.1)

pub renamed-same : (q r : ℕ → ℕ) (bindings : List Binding) → AllNumbers (λ n. q n ≡ r n) bindings → map (renamed q) bindings ≡ map (renamed r) bindings
renamed-same q r [] all = refl
renamed-same q r (b ∷ bindings) all = λ i. (let x : Binding = record { name = b.name; number = all.0 i } in x) ∷ renamed-same q r bindings all.1 i

-- one more name
pub with_binding-renamed : (r : ℕ → ℕ) (bindings others : List Binding) (name : Name) (n m : ℕ) → others ≡ map (renamed r) bindings → r n ≡ m
    → with_binding others name m ≡ map (renamed r) (with_binding bindings name n)
with_binding-renamed r bindings others name n m same number = search (rules, map-append)

pub with_binding-all : (P : ℕ → Type 0) (bindings : List Binding) (name : Name) (n : ℕ) → AllNumbers P bindings → P n
    → AllNumbers P (with_binding bindings name n)
with_binding-all P bindings name n all holds = search (rules, AllByRecursion-both)
