-- What each mark of a node finds in the history.
use Rattle.rx_event.proofs.Laws.Common.{◌≡◌, ℕ, ◌≤◌, Bool, true, false, List, length, Option, Some, None, cond, refl, sym, ap, ◌∙◌, arith, inl, inr, ◌⊎◌}
use Rattle.rx_event.proofs.Laws.Common.{◌==◌, ◌||◌, count_by, list_any, option_map_or, cases_Bool, both_ways, false≢true, and_parts, and_from, eq-eqb}
use Rattle.rx_event.proofs.Laws.Common.{eqb-true, or_cases, none-some, Terminal, Completed, Kept, node_kept, Event, End, is_merging, is_source_of, at, places}
use Rattle.rx_event.proofs.Laws.Common.{parent, is_open, is_open_child_of, is_child_of, completes_source, passes_on, child_terminal, source_completed}
use Rattle.rx_event.proofs.Laws.Common.{open_children, cond_some, ChildEnded, or_right}
use Rattle.rx_event.specs.Forced.{Has}
use Rattle.rx_event.proofs.Laws.Openness.{is_open_within}
use Rattle.rx_event.proofs.Laws.Sums.{sum_by_none, sum_by_no_rise, count_by_one}
use Rattle.rx_event.proofs.Laws.Searches.{list_any_found, list_any_holds, first_found, first_none}
use Rattle.std.proofs.Common.{rules}

-- what the marks find -----------------------------------------------------------------------------

child_named : (o : Option ℕ) (p : ℕ) → option_map_or (λ q. q == p) o false ≡ true → o ≡ Some p
child_named o p named = grind arith

pub is_child_parent : (h : List Event) (p n : ℕ) → is_child_of h p n ≡ true → parent h n ≡ Some p
is_child_parent h p n child = child_named (parent h n) p child

pub parent_is_child : (h : List Event) (p n : ℕ) → parent h n ≡ Some p → is_child_of h p n ≡ true
parent_is_child h p n below = rw below (eq-eqb p p refl)

-- the terminal is that of a child
pub child_terminal_some : (h : List Event) (n : ℕ) (t : Terminal) → child_terminal h n ≡ Some t → ChildEnded h n t × (passes_on (at is_merging h n) t ≡ true)
unfolding child_terminal
child_terminal_some h n t found = search (rules, first_found, cond_some, and_parts, is_child_parent, none-some)

-- where there is none, no child ended so that the node ends by it
pub child_terminal_none : (h : List Event) (n : ℕ) (t : Terminal) → child_terminal h n ≡ None → passes_on (at is_merging h n) t ≡ true → ¬ ChildEnded h n t
unfolding child_terminal
child_terminal_none h n t none passes c = search (rules, first_none, parent_is_child, none-some)

-- the source completed before the base, or since
pub completed_by : (base : Kept) → (h : List Event) (n : ℕ) → source_completed base h n ≡ true →
    (option_map_or (λ k. k.source_completed) (node_kept base n) false ≡ true) ⊎ (list_any (completes_source h n) h ≡ true)
unfolding source_completed
completed_by base h n found = search (rules, or_cases, option_map_or, list_any)

pub completed_kept : (base : Kept) → (h : List Event) (n : ℕ) → option_map_or (λ k. k.source_completed) (node_kept base n) false ≡ true →
    source_completed base h n ≡ true
unfolding source_completed
completed_kept base h n kept = ap (λ m. m || list_any (completes_source h n) h) kept

pub source_completed_true : (base : Kept) → (h : List Event) (n : ℕ) → list_any (completes_source h n) h ≡ true →
    (s : ℕ) × (at (is_source_of n) h s ≡ true) × Has h (End s Completed)
unfolding source_completed
source_completed_true base h n found = search (rules, list_any_found, false≢true)

pub source_completed_has : (base : Kept) → (h : List Event) (n s : ℕ) → at (is_source_of n) h s ≡ true → Has h (End s Completed) →
    source_completed base h n ≡ true
unfolding source_completed
source_completed_has base h n s source ended = search (rules, or_right, option_map_or, list_any, list_any_holds)

pub open_children_none : (h : List Event) (n : ℕ) → open_children h n ≡ 0 → (c : ℕ) → parent h c ≡ Some n → is_open h c ≡ false
unfolding open_children
open_children_none h n none c below = by_test (cases_Bool (is_open h c)) where
  least : (k : ℕ) → (b : Bool) → (c == k) ≡ b → is_open h c ≡ true → cond {A = ℕ} b 1 0 ≤ cond (is_open_child_of h n k) 1 0
  least k true same o =
      let child : is_open_child_of h n k ≡ true = ap (is_open_child_of h n) (sym (eqb-true c k same)) ∙
      and_from (is_open h c) (is_child_of h n c) o (parent_is_child h n c below) in rw child (omega arith)
  least k false apart o = omega arith

  by_test : (is_open h c ≡ true) ⊎ (is_open h c ≡ false) → is_open h c ≡ false
  by_test (inr closed) = closed
  by_test (inl o) = absurd (
      let one : count_by (λ k. c == k) (places h) ≡ 1 = count_by_one c (length h) (is_open_within h c o) in
      let less = sum_by_no_rise (λ k. cond (is_open_child_of h n k) 1 0) (λ k. cond (c == k) 1 0) (length h) (λ k l. least k (c == k) refl o) in omega arith)

pub open_children_zero : (h : List Event) (n : ℕ) → ((c : ℕ) → parent h c ≡ Some n → is_open h c ≡ false) → open_children h n ≡ 0
unfolding open_children
open_children_zero h n closed = search (rules, sum_by_none, cond, length, option_map_or, cases_Bool, both_ways, eqb-true)
