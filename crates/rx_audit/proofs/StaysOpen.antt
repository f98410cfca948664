-- The marks of nodes that stay open.
use Rattle.rx_audit.proofs.Common.{◌≡◌, ℕ, ◌<◌, Bool, true, false, List, [], ◌∷◌, ◌++◌, length, Some, None, refl, ◌∙◌, arith, get_or, set}
use Rattle.rx_audit.proofs.Common.{get_or-set_other, get_or-set_same, length-append, nat_lt, not, ◌&&◌, cases_order, ltb-true}
use Rattle.rx_audit.proofs.Common.{option_and_then_some, list_all, option_map_or, option_and_then, Event, parent, is_open}
use Rattle.rx_audit.proofs.Common.{shuts, slice_get_last, ancestors_step, is_open_step, is_open_past, IsMarked, stays_open, and_false, and_true}
use Rattle.std.proofs.lemmas.Option.{cond_some}
use Rattle.rx_event.proofs.Laws.Parents.{option_map_or-same}
use Rattle.rx_event.proofs.Laws.Openness.{is_open-push, is_shut_last}
use Rattle.rx_audit.specs.Rules.{opens}
use Rattle.rx_event.proofs.Laws.Common.{and_same}
use Rattle.std.proofs.Common.{rules}

shared : (a o b l : Bool) → ((a && o) && (b && l)) ≡ (((a && o) && b) && (o && l))
shared a o b l = grind arith

-- a node stays open where it is open, is not shut, and its parent stays open
pub stays_open_step : (h : List Event) (e : Event) (n : ℕ) → stays_open h e n
    ≡ ((is_open h n && not (shuts h n e)) && option_map_or (stays_open h e) (parent h n) true)
unfolding stays_open
stays_open_step h e n = search (rules, is_open_step, ancestors_step, option_map_or, not, list_all, shared)

pub stays_closed : (h : List Event) (e : Event) (n : ℕ) → is_open h n ≡ false → stays_open h e n ≡ false
unfolding stays_open
stays_closed h e n o = rw o refl

pub shut_closed : (h : List Event) (e : Event) (n : ℕ) → shuts h n e ≡ true → stays_open h e n ≡ false
shut_closed h e n s = stays_open_step h e n ∙ rw (s, and_false (is_open h n)) refl

pub below_closed : (h : List Event) (e : Event) (n p : ℕ) → parent h n ≡ Some p → stays_open h e p ≡ false → stays_open h e n ≡ false
below_closed h e n p below gone = stays_open_step h e n ∙ rw (below, gone) (and_false (is_open h n && not (shuts h n e)))

pub below_open : (h : List Event) (e : Event) (n p : ℕ) → parent h n ≡ Some p → stays_open h e p ≡ true → shuts h n e ≡ false → stays_open h e n ≡ is_open h n
below_open h e n p below stays s = stays_open_step h e n ∙ rw (below, stays, s) (and_true _ ∙ and_true (is_open h n))

pub top_open : (h : List Event) (e : Event) (n : ℕ) → parent h n ≡ None → shuts h n e ≡ false → stays_open h e n ≡ is_open h n
top_open h e n below s = stays_open_step h e n ∙ rw (below, s) (and_true _ ∙ and_true (is_open h n))

-- an older node is open after the event where it stays open
pub is_open_older : (h : List Event) (e : Event) (n : ℕ) → n < length h → is_open (h ++ e ∷ []) n ≡ stays_open h e n
unfolding stays_open
is_open_older h e n l = is_open-push h e n l

-- the new node is open where it is one and the node above it stays open
is_open_newest : (h : List Event) (e : Event) → is_open (h ++ e ∷ []) (length h) ≡ opens h e
unfolding parent
is_open_newest h e =
    search (rules, is_open_step, length, is_shut_last, slice_get_last, and_same, option_map_or-same, option_and_then, is_open_older, option_and_then_some, cond_some, nat_lt, ltb-true)

-- the marks after the event
pub marked_after : (h : List Event) (e : Event) (ms : List Bool) → IsMarked ms (stays_open h e)
    → length h < length ms → IsMarked (set ms (length h) (opens h e)) (is_open (h ++ e ∷ []))
marked_after h e ms tied room n = search (rules, cases_order, length, get_or, set, get_or-set_same, is_open_newest, get_or-set_other, is_open_older, stays_closed, is_open_past, length-append)
