-- What leaks and what is left, by the tables.
use Rattle.rx_picture.proofs.Common.{◌≡◌, ℕ, ◌<◌, ◌≤◌, Bool, true, false, List, length, get_or, sym, ap, ◌∙◌, arith, nat_lt, not, ◌&&◌, ◌||◌}
use Rattle.rx_picture.proofs.Common.{take-length, list_any, cases_Bool, lt-ltb, le-ltb, Event, makes_resource, is_take_of, at, is_open, is_taken, at_within}
use Rattle.rx_picture.proofs.Common.{leaks, is_left_behind, AreTurns, AreLines, has_taken, and_false, and_true}
use Rattle.std.proofs.Common.{rules}

open_whole : (h : List Event) (ends : List ℕ) (n : ℕ) → AreLines h (length h) ends → n < length h → is_open h n ≡ not (nat_lt (get_or ends n 0) (length h))
open_whole h ends n lines l =
    sym (ap (λ (k : List Event). is_open k n) (take-length h)) ∙ lines.spans n l (length h) (omega arith)
    ∙ ap (λ (x : Bool). x && not (nat_lt (get_or ends n 0) (length h))) (lt-ltb n (length h) l)

taken_whole : (h : List Event) (taken : List ℕ) (n : ℕ) → AreTurns h has_taken (length h) taken → n < length h →
    is_taken h n ≡ (at makes_resource h n && nat_lt (get_or taken n 0) (length h))
unfolding is_taken
taken_whole h taken n turns l =
    let size = turns.size in
    ap (λ (x : Bool). at makes_resource h n && x) (sym (ap (λ (k : List Event). list_any (is_take_of n) k) (take-length h))
    ∙ (turns.each n (omega arith)).turns (length h) (omega arith))

shape : (made taken : Bool) → (made && not (made && taken)) ≡ (made && not taken)
shape made taken = grind arith

unmade : (made out known : Bool) → made ≡ false → (made && not out) ≡ (made && not known)
unmade made out known none = ap (λ (x : Bool). x && not out) none ∙ sym (ap (λ (x : Bool). x && not known) none)

leaks_by : (h : List Event) (taken : List ℕ) (n : ℕ) → AreTurns h has_taken (length h) taken →
    leaks h n ≡ (at makes_resource h n && not (nat_lt (get_or taken n 0) (length h)))
leaks_by h taken n turns = search (rules, cases_Bool, not, nat_lt, get_or, length, Bool, taken_whole, at_within, shape, unmade)

module _ (h : List Event) (taken : List ℕ) (n : ℕ) (turns : AreTurns h has_taken (length h) taken) where
  pub leaks_not : get_or taken n 0 < length h → leaks h n ≡ false
  leaks_not l = leaks_by h taken n turns
      ∙ ap (λ (x : Bool). at makes_resource h n && not x) (lt-ltb (get_or taken n 0) (length h) l) ∙ and_false (at makes_resource h n)

  pub leaks_if_made : length h ≤ get_or taken n 0 → leaks h n ≡ at makes_resource h n
  leaks_if_made l = leaks_by h taken n turns
      ∙ ap (λ (x : Bool). at makes_resource h n && not x) (le-ltb (get_or taken n 0) (length h) l) ∙ and_true (at makes_resource h n)

module _ (h : List Event) (ends : List ℕ) (n : ℕ) (lines : AreLines h (length h) ends) (within : n < length h) where
  pub left_open : length h ≤ get_or ends n 0 → is_left_behind h n ≡ true
  left_open l = ap (λ (x : Bool). x || leaks h n) (open_whole h ends n lines within ∙ ap not (le-ltb (get_or ends n 0) (length h) l))

  pub left_shut : get_or ends n 0 < length h → is_left_behind h n ≡ leaks h n
  left_shut l = ap (λ (x : Bool). x || leaks h n) (open_whole h ends n lines within ∙ ap not (lt-ltb (get_or ends n 0) (length h) l))
