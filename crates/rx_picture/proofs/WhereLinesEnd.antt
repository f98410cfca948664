-- Where the line of a node ends: where it is itself taken away, or with the line of the node above it.
use Rattle.rx_picture.proofs.Common.{◌≡◌, ℕ, zero, suc, ◌<◌, ◌≤◌, min, max, Bool, true, false, List, [], ◌∷◌, ◌++◌, length, take, get_or, Option, Some, None}
use Rattle.rx_picture.proofs.Common.{refl, sym, ap, ◌∙◌, arith, inl, inr, ◌⊎◌, nat_lt, not, ◌&&◌, ◌||◌, option_map_or, cases_lt, lt-ltb, le-ltb, ltb-true}
use Rattle.rx_picture.proofs.Common.{and_left, or_left, or_right, or_cases, Event, makes_node, at, parent, is_shut, is_open, is_open_past, parent-lt, Spans}
use Rattle.rx_picture.proofs.Common.{TurnsAt, was_shut, ◌+◌, length_push, AreLines}
use Rattle.rx_event.proofs.Laws.Openness.{is_open_step}
use Rattle.rx_picture.proofs.Prefixes.{same_tests, past_prefix, at_prefix, parent_prefix}
use Rattle.std.proofs.Common.{rules, subst, ⊎_elim}

-- numbers -----------------------------------------------------------------------------------------

pub cut_either : (s u n k : ℕ) → n < k → nat_lt (max (min s u) n) k ≡ (nat_lt s k || nat_lt u k)
cut_either s u n k l =
    same_tests _ _ (λ passes. there (ltb-true (max (min s u) n) k passes) (cases_lt s k))
    (λ passes. back (or_cases _ _ passes))
  where
    there : max (min s u) n < k → (s < k) ⊎ (k ≤ s) → (nat_lt s k || nat_lt u k) ≡ true
    there m (inl a) = or_left _ _ (lt-ltb s k a)
    there m (inr a) = or_right _ _ (lt-ltb u k (omega arith))

    back : (nat_lt s k ≡ true) ⊎ (nat_lt u k ≡ true) → nat_lt (max (min s u) n) k ≡ true
    back (inl a) = let m = ltb-true s k a in lt-ltb (max (min s u) n) k (omega arith)
    back (inr a) = let m = ltb-true u k a in lt-ltb (max (min s u) n) k (omega arith)

pub cut_alone : (s n k : ℕ) → n < k → nat_lt (max s n) k ≡ nat_lt s k
cut_alone s n k l = search (rules, same_tests, ltb-true, max, lt-ltb)

pub neither : (a b : Bool) → ((true && not a) && not b) ≡ (true && not (a || b))
neither a b = grind arith

pub and_not : (a : Bool) → (a && not a) ≡ false
and_not a = grind arith

-- a line ------------------------------------------------------------------------------------------

open_prefix : (h : List Event) (n k : ℕ) → n < k → k ≤ length h →
    is_open (take k h) n ≡ ((at makes_node h n && not (is_shut (take k h) n)) && option_map_or (is_open (take k h)) (parent h n) true)
open_prefix h n k l m =
    search (rules, is_open_step, take, Bool, not, option_map_or, at_prefix, Option, ℕ, parent_prefix)

pub line_none : (h : List Event) (n : ℕ) → at makes_node h n ≡ false → Spans h (λ k. is_open k n) n n
line_none h n none k m = by_place (cases_lt n k) ∙ sym (and_not (nat_lt n k)) where
  by_place : (n < k) ⊎ (k ≤ n) → is_open (take k h) n ≡ false
  by_place (inl l) =
      open_prefix h n k l m
      ∙ ap (λ (x : Bool). (x && not (is_shut (take k h) n)) && option_map_or (is_open (take k h)) (parent h n) true)
      none
  by_place (inr l) = is_open_past (take k h) n (past_prefix h k n l m)

module _ (h : List Event) (n s : ℕ) (node : at makes_node h n ≡ true) (shut : TurnsAt h (was_shut n) (length h) (length h) s) where
  line_whole : (k until : ℕ) (above : Bool) → n < k → k ≤ length h
      → option_map_or (is_open (take k h)) (parent h n) true ≡ not above → nat_lt until k ≡ (nat_lt s k || above) →
      is_open (take k h) n ≡ (nat_lt n k && not (nat_lt until k))
  line_whole k until above l m stays cuts =
      search (rules, open_prefix, Bool, not, take, option_map_or, nat_lt, neither, lt-ltb)

  line_short : (k until : ℕ) → k ≤ n → k ≤ length h → is_open (take k h) n ≡ (nat_lt n k && not (nat_lt until k))
  line_short k until l m = is_open_past (take k h) n (past_prefix h k n l m) ∙ sym (and_left _ _ (le-ltb n k l))

  pub line_top : parent h n ≡ None → Spans h (λ k. is_open k n) n (max s n)
  line_top none k m = by_place (cases_lt n k) where
    or_false : (b : Bool) → b ≡ (b || false)
    or_false b = grind arith

    by_place : (n < k) ⊎ (k ≤ n) → is_open (take k h) n ≡ (nat_lt n k && not (nat_lt (max s n) k))
    by_place (inl l) =
        line_whole k (max s n) false l m (ap (λ (o : Option ℕ). option_map_or (is_open (take k h)) o true) none) (cut_alone s n k l ∙ or_false (nat_lt s k))
    by_place (inr l) = line_short k (max s n) l m

  pub line_below : (p u : ℕ) → parent h n ≡ Some p → Spans h (λ k. is_open k p) p u → Spans h (λ k. is_open k n) n (max (min s u) n)
  line_below p u below spans k m = by_place (cases_lt n k) where
    by_place : (n < k) ⊎ (k ≤ n) → is_open (take k h) n ≡ (nat_lt n k && not (nat_lt (max (min s u) n) k))
    by_place (inl l) =
        let less : p < n = parent-lt h n p below in
        line_whole k (max (min s u) n) (nat_lt u k) l m
        (ap (λ (o : Option ℕ). option_map_or (is_open (take k h)) o true) below
        ∙ spans k m ∙ ap (λ (x : Bool). x && not (nat_lt u k)) (lt-ltb p k (omega arith)))
        (cut_either s u n k l)
    by_place (inr l) = line_short k (max (min s u) n) l m

-- a table -----------------------------------------------------------------------------------------

pub get_old : (xs : List ℕ) (y i : ℕ) → i < length xs → get_or (xs ++ y ∷ []) i 0 ≡ get_or xs i 0
get_old [] y i l = absurd (omega arith)
get_old (x ∷ xs) y zero l = refl
get_old (x ∷ xs) y (suc i) l = get_old xs y i (omega arith)

pub get_new : (xs : List ℕ) (y : ℕ) → get_or (xs ++ y ∷ []) (length xs) 0 ≡ y
get_new [] y = refl
get_new (x ∷ xs) y = get_new xs y

-- what holds of each number holds with one value more
each_pushed : (P : ℕ → ℕ → Type 0) (n : ℕ) (xs : List ℕ) (y : ℕ) → length xs ≡ n
    → ((k : ℕ) → k < n → P k (get_or xs k 0)) → P n y → (k : ℕ) → k < n + 1 → P k (get_or (xs ++ y ∷ []) k 0)
each_pushed P n xs y size each last k l =
    let more = xs ++ y ∷ [] in
    let is_last : get_or more n 0 ≡ y = ap (λ (j : ℕ). get_or more j 0) (sym size) ∙ get_new xs y in
    ⊎_elim (λ m. subst (λ (v : ℕ). P k v) (sym (get_old xs y k (omega arith))) (each k m))
    (λ m. let same : n ≡ k = omega arith in
    subst (λ (j : ℕ). P j (get_or more j 0)) same (subst (λ (v : ℕ). P n v) (sym is_last) last)) (cases_lt k n)

pub lines_more : (h : List Event) (n : ℕ) (ends : List ℕ) (until : ℕ) → AreLines h n ends → n ≤ until
    → until ≤ length h → Spans h (λ k. is_open k n) n until → AreLines h (n + 1) (ends ++ until ∷ [])
lines_more h n ends until lines begun within spans = record {
  size = length_push ends until ∙ ap (λ (j : ℕ). j + 1) lines.size;
  begun = each_pushed (λ k v. k ≤ v) n ends until lines.size lines.begun begun;
  within = each_pushed (λ k v. v ≤ length h) n ends until lines.size lines.within within;
  spans = each_pushed (λ k v. Spans h (λ front. is_open front k) k v) n ends until lines.size lines.spans spans;
}
