-- What stands in a prefix of a history, and what one event more makes of it.
use Rattle.rx_picture.proofs.Common.{◌≡◌, ℕ, zero, suc, ◌<◌, ◌≤◌, Bool, true, false, List, [], ◌∷◌, ◌++◌, length, take, Option, Some, sym, ap, ◌∙◌, arith}
use Rattle.rx_picture.proofs.Common.{slice_get, option_map_or, length-take-le, none-some, same_Some, Event, at, parent}
use Rattle.std.proofs.Common.{drop, take-append-drop}
use Rattle.rx_event.proofs.Laws.Places.{slice_get-append}
use Rattle.rx_event.proofs.Laws.Parents.{parent-append}

-- two tests that hold together
pub same_tests : (a b : Bool) → (a ≡ true → b ≡ true) → (b ≡ true → a ≡ true) → a ≡ b
same_tests a b e e2 = grind arith

pub take_next : (h : List Event) (i : ℕ) (e : Event) → slice_get h i ≡ Some e → take (suc i) h ≡ take i h ++ e ∷ []
take_next [] i e at_i = absurd (none-some e at_i)
take_next (x ∷ h) zero e at_i = ap (λ (y : Event). y ∷ []) (same_Some x e at_i)
take_next (x ∷ h) (suc i) e at_i = ap (λ (k : List Event). x ∷ k) (take_next h i e at_i)

pub in_prefix : (h : List Event) (k n : ℕ) → n < k → k ≤ length h → n < length (take k h)
in_prefix h k n l m = let size : length (take k h) ≡ k = length-take-le k h m in omega arith

pub past_prefix : (h : List Event) (k n : ℕ) → k ≤ n → k ≤ length h → length (take k h) ≤ n
past_prefix h k n l m = let size : length (take k h) ≡ k = length-take-le k h m in omega arith

pub get_prefix : (h : List Event) (k n : ℕ) → n < k → k ≤ length h → slice_get (take k h) n ≡ slice_get h n
get_prefix h k n l m = sym (slice_get-append (take k h) (drop k h) n (in_prefix h k n l m)) ∙ ap (λ (x : List Event). slice_get x n) (take-append-drop k h)

pub at_prefix : (p : Event → Bool) (h : List Event) (k n : ℕ) → n < k → k ≤ length h → at p (take k h) n ≡ at p h n
at_prefix p h k n l m = ap (λ (o : Option Event). option_map_or p o false) (get_prefix h k n l m)

pub parent_prefix : (h : List Event) (k n : ℕ) → n < k → k ≤ length h → parent (take k h) n ≡ parent h n
parent_prefix h k n l m = sym (parent-append (take k h) (drop k h) n (in_prefix h k n l m)) ∙ ap (λ (x : List Event). parent x n) (take-append-drop k h)
