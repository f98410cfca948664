-- What names stand for, by keys and by numbers.
use Rattle.rx_agenda.proofs.Common.{◌≡◌, ℕ, List, [], ◌∷◌, ◌++◌, Bool, true, false, map, cond, refl, subst, arith, Option, Some, None, is_some}
use Rattle.rx_agenda.proofs.Common.{option_map, find, bytes_eq, bytes_eq-Decides, Name, Named, name_bytes, key_named, Binding, bound, number_binding}
use Rattle.std.specs.List.{All}
use Rattle.std.proofs.lemmas.List.Elements.{All-tail}
use Rattle.rx_agenda.proofs.FoundAtTheEnd.{or_last, find-push}
pub use Rattle.rx_agenda.proofs.RunsInOrder.{runs_in_order}
pub use Rattle.rx_agenda.proofs.OneOrder.{Agrees, determined, determined_so_far, cancel_alike}
use Rattle.std.proofs.Common.{rules}

find-map : {A B : Type 0} (p : B → Bool) (f : A → B) (xs : List A) → find p (map f xs) ≡ option_map f (find (λ x. p (f x)) xs)
find-map p f [] = refl
find-map p f (x ∷ xs) =
    search (rules, cond, find, map, option_map, find-map p f xs)

found_passes : {A : Type 0} (P : A → Type 0) (p : A → Bool) (xs : List A) (x : A) → All P xs → find p xs ≡ Some x → P x
found_passes P p [] x all e = absurd (cc)
found_passes P p (y ∷ ys) x all e =
    let here : P y = all 0 y (omega arith) in
    let branch : (b : Bool) → cond b (Some y) (find p ys) ≡ Some x → P x = λ b. elim b as (λ b. cond b (Some y) (find p ys) ≡ Some x → P x)
    [ true ↦ λ e. let same : y ≡ x = cc in subst P same here | false ↦ λ e. found_passes P p ys x (All-tail P y ys all) e ] in
    branch (p y) e

option_key : {K : Type 0} (P : K → Type 0) (o : Option (Named K)) (k : K) → ((n : Named K) → o ≡ Some n → P n.key) → option_map (λ n. n.key) o ≡ Some k → P k
option_key x0 x1 k each e = search rules

-- what holds of all keys holds of the one that a name stands for
pub key_named-holds : {K : Type 0} (P : K → Type 0) (names : List (Named K)) (name : Name) (k : K) → All (λ n. P n.key) names
    → key_named names name ≡ Some k → P k
unfolding key_named
key_named-holds P names name k all e = option_key P _ k (λ n. found_passes (λ n. P n.key) (λ n. bytes_eq (name_bytes n) name) names n all) e

-- names that stand for keys, each of which has a number
module _ {K : Type 0} (number_of : K → ℕ) where
  abbrev pub binding_of : Named K → Binding
  binding_of n = record { name = name_bytes n; number = number_of n.key }

  keyed_number : (o : Option (Named K)) → option_map (λ (b : Binding). b.number) (option_map binding_of o) ≡ option_map number_of (option_map (λ n. n.key) o)
  keyed_number x0 = search rules

  pub bound-keys : (names : List (Named K)) (name : Name) → bound (map binding_of names) name ≡ option_map number_of (key_named names name)
  unfolding bound key_named
  bound-keys names name = search (rules, option_map, find-map, bytes_eq, keyed_number)

numbers_number : (o : Option (Named ℕ)) → option_map (λ b. b.number) (option_map number_binding o) ≡ option_map (λ n. n.key) o
numbers_number x0 = search rules

-- of hubs, or of labels
pub bound-numbers : (names : List (Named ℕ)) (name : Name) → bound (map number_binding names) name ≡ key_named names name
unfolding bound key_named
bound-numbers names name = search (rules, option_map, find-map, bytes_eq, numbers_number)

-- one more name is bound ---------------------------------------------------------------------------

module _ {K : Type 0} (n : Named K) where
  -- where the name stood for nothing, it stands for the new key, and every other name for what it stood for
  answered : (b : Bool) (o : Option (Named K)) → (b ≡ true → option_map (λ m. m.key) o ≡ None)
      → option_map (λ m. m.key) (or_last (λ m. b) n o) ≡ cond b (Some n.key) (option_map (λ m. m.key) o)
  answered x0 x1 free = search rules

  same_last : (p : Named K → Bool) (o : Option (Named K)) → or_last p n o ≡ or_last (λ m. p n) n o
  same_last p x1 = search rules

  pub key_named-bind : (names : List (Named K)) (q : Name) → key_named names (name_bytes n) ≡ None
      → key_named (names ++ n ∷ []) q ≡ cond (bytes_eq (name_bytes n) q) (Some n.key) (key_named names q)
  unfolding key_named
  key_named-bind names q free =
      search (rules, bytes_eq, bytes_eq-Decides, option_map, find-push, same_last, find, answered)

pub none_there : {K : Type 0} (o : Option K) → is_some o ≡ false → o ≡ None
none_there x0 free = search rules
