-- An event changes the marks of one node at most, but for an item.
use Rattle.rx_event.proofs.Laws.Common.{◌≡◌, ℕ, ℤ, ◌+◌, ◌-◌, ◌<◌, Bool, true, false, List, [], ◌∷◌, ◌++◌, length, Some, None, cond, refl, sym, ap, ◌∙◌, arith}
use Rattle.rx_event.proofs.Laws.Common.{◌==◌, slice_get, not, ◌&&◌, ◌||◌, list_any, count_by, option_map_or, option_or, cases_order, both_ways, eq-eqb}
use Rattle.rx_event.proofs.Laws.Common.{sum_by-cons, Terminal, Kept, Source, Inner, Notifier, Kind, Event, Open, Item, Decline, End, is_merging, is_source_of}
use Rattle.rx_event.proofs.Laws.Common.{is_inner_of, is_switch, at, parent, is_open, Stop, Delivery, Projection, Firing, stops, is_firing_of, is_projection_to}
use Rattle.rx_event.proofs.Laws.Common.{passes_on, child_terminal, source_completed, open_children, marks_of, due_at, MayFollow, IsLawful, and_false, and_true}
use Rattle.rx_event.proofs.Laws.Common.{or_false, or_true, if◌then◌else◌, Marks, or_parts}
use Rattle.rx_event.specs.Marks.{touches, after_source, after_notifier, after_inner, after_decline, after_child, after_stops, blank_marks}
use Rattle.rx_event.specs.Claims.Nodes.{IsOpenInner}
use Rattle.rx_event.proofs.Laws.Openness.{is_open_within}
use Rattle.rx_event.proofs.Laws.Steps.{may_open, may_decline}
use Rattle.rx_event.proofs.Laws.MarksFound.{open_children_none}
use Rattle.rx_event.proofs.Laws.MarksAfter.{same_marks, marks-item, marks-decline, marks_kept, marks-source, marks-notifier}
use Rattle.rx_event.proofs.Laws.MarksEnds.{marks-end_other, marks-close_other, marks-end_parent}
use Rattle.rx_event.proofs.Laws.MarksInner.{marks-inner_other, marks-inner_flat, marks-inner_first, marks-inner_next}
use Rattle.rx_event.proofs.Laws.MarksNew.{marks-new}
use Rattle.std.proofs.Common.{rules}

-- which marks change ------------------------------------------------------------------------------

stops_apart : (n : ℕ) (ss : List Stop) → list_any (λ s. is_firing_of n s || is_projection_to n s) ss ≡ false →
    (list_any (is_firing_of n) ss ≡ false) × (count_by (is_projection_to n) ss ≡ 0)
stops_apart n [] apart = (refl, refl)
stops_apart n (s ∷ ss) apart =
    let a = or_parts (is_firing_of n s || is_projection_to n s) (list_any (λ x. is_firing_of n x || is_projection_to n x) ss) apart in
    search (rules, or_parts, sum_by-cons, cond, stops_apart n ss a.1)

-- All marks of a node that stays open, and that the event does not touch, stay
pub marks_untouched : {base : Kept} → (h : List Event) (e : Event) → IsLawful base h → MayFollow base h e → (n : ℕ) → n < length h →
    is_open (h ++ e ∷ []) n ≡ true → touches h n e ≡ false → marks_of base (h ++ e ∷ []) n ≡ marks_of base h n
marks_untouched h x2 law next n l o apart = search (rules, cond, marks-source, same_marks, or_false, marks-notifier, marks-inner_other, stops_apart, marks-item, marks-decline, marks-end_other, marks-close_other, marks_kept)

-- of the parent of what ended, by the events of both
pub marks-end_parent_at : {base : Kept} → {h : List Event} {c p : ℕ} (made above : Event) (t : Terminal) → IsLawful base h → MayFollow base h (End c t) →
    parent h c ≡ Some p → slice_get h c ≡ Some made → slice_get h p ≡ Some above → marks_of base (h ++ End c t ∷ []) p ≡
    record (marks_of base h p) {
      source_completed = source_completed base h p || (is_source_of p made && not (passes_on true t));
      child_terminal = option_or (child_terminal h p) (if passes_on (is_merging above) t then Some t else None);
      open_children = open_children h p - 1;
    }
marks-end_parent_at {base} {h} {c} {p} made above t law next below at_c at_p =
    search (rules, marks-end_parent, same_marks, option_or, option_map_or, not, and_true, and_false)

-- the marks of the one node that an event touches -------------------------------------------------

pub marks-source_at : (base : Kept) → (h : List Event) (p : ℕ) (kind : Kind) → IsLawful base h → MayFollow base h (Open (Source p) kind) →
    marks_of base (h ++ Open (Source p) kind ∷ []) p ≡ after_source (marks_of base h p)
marks-source_at base h p kind law next = search (rules, eq-eqb, cond, marks-source, is_open_within, may_open, same_marks, or_true)

pub marks-notifier_at : (base : Kept) → (h : List Event) (p : ℕ) (kind : Kind) → IsLawful base h → MayFollow base h (Open (Notifier p) kind) →
    marks_of base (h ++ Open (Notifier p) kind ∷ []) p ≡ after_notifier (marks_of base h p)
marks-notifier_at base h p kind law next = search (rules, eq-eqb, cond, marks-notifier, is_open_within, may_open, same_marks, or_true)

pub marks-decline_at : (base : Kept) → (h : List Event) (f : ℕ) → IsLawful base h → MayFollow base h (Decline f) →
    marks_of base (h ++ Decline f ∷ []) f ≡ after_decline (marks_of base h f)
marks-decline_at base h f law next = search (rules, cond, eq-eqb, marks-decline, is_open_within, may_decline, same_marks)

pub marks-end_at : {base : Kept} {h : List Event} {c p : ℕ} {made above : Event} {t : Terminal} → IsLawful base h → MayFollow base h (End c t) →
    parent h c ≡ Some p → slice_get h c ≡ Some made → slice_get h p ≡ Some above →
    marks_of base (h ++ End c t ∷ []) p ≡ after_child (is_source_of p made) (is_merging above) t (marks_of base h p)
marks-end_at {made = made} {above = above} {t = t} law next below at_c at_p = marks-end_parent_at made above t law next below at_c at_p

-- stops one at a time say what all together do
stops_together : (base : Kept) → (n : ℕ) (ss : List Stop) (m : Marks) →
    after_stops n ss m ≡ record m { fired = m.fired || list_any (is_firing_of n) ss; owed = m.owed + count_by (is_projection_to n) ss }
stops_together base n [] m = sym (same_marks base refl refl (or_false m.fired) refl refl (omega arith) refl)
stops_together base n (Delivery r ∷ ss) m = search (rules, sum_by-cons, cond, same_marks, stops_together base n ss m)
stops_together base n (Projection f ∷ ss) m =
    by_test (f == n) (sum_by-cons (λ s. cond (is_projection_to n s) 1 0) (Projection f) ss) (λ x. stops_together base n ss x)
  where
    by_test : (b : Bool) → count_by (is_projection_to n) (Projection f ∷ ss) ≡ cond b 1 0 + count_by (is_projection_to n) ss →
        ((x : Marks) → after_stops n ss x ≡ record x { fired = x.fired || list_any (is_firing_of n) ss; owed = x.owed + count_by (is_projection_to n) ss }) →
        after_stops n ss (cond b (record m { owed = m.owed + 1 }) m) ≡
        record m { fired = m.fired || list_any (is_firing_of n) ss; owed = m.owed + count_by (is_projection_to n) (Projection f ∷ ss) }
    by_test true k rest = rest (record m { owed = m.owed + 1 }) ∙ same_marks base refl refl refl refl refl (omega arith) refl
    by_test false k rest = rest m ∙ same_marks base refl refl refl refl refl (omega arith) refl
stops_together base n (Firing u ∷ ss) m =
    by_test (u == n) (sum_by-cons (λ s. cond (is_projection_to n s) 1 0) (Firing u) ss) (λ x. stops_together base n ss x)
  where
    by_test : (b : Bool) → count_by (is_projection_to n) (Firing u ∷ ss) ≡ 0 + count_by (is_projection_to n) ss →
        ((x : Marks) → after_stops n ss x ≡ record x { fired = x.fired || list_any (is_firing_of n) ss; owed = x.owed + count_by (is_projection_to n) ss }) →
        after_stops n ss (cond b (record m { fired = true }) m) ≡
        record m { fired = m.fired || (b || list_any (is_firing_of n) ss); owed = m.owed + count_by (is_projection_to n) (Firing u ∷ ss) }
    by_test true k rest = rest (record m { fired = true }) ∙ same_marks base refl refl (sym (or_true m.fired)) refl refl (omega arith) refl
    by_test false k rest = rest m ∙ same_marks base refl refl refl refl refl (omega arith) refl

pub marks-item_at : (base : Kept) → (h : List Event) (leaf : ℕ) (v : ℤ) → IsLawful base h → MayFollow base h (Item leaf v) → (n : ℕ) → n < length h →
    marks_of base (h ++ Item leaf v ∷ []) n ≡ after_stops n (stops h leaf) (marks_of base h n)
marks-item_at base h leaf v law next n l = search (rules, marks-item, stops_together)

-- an open child is counted, so the count does not fall below 0
pub child_counted : (h : List Event) (c p : ℕ) → is_open h c ≡ true → parent h c ≡ Some p → 0 < open_children h p
child_counted h c p o below = search (rules, cases_order, both_ways, open_children_none)

pub marks-inner_at_flat : (base : Kept) → (h : List Event) (f : ℕ) (kind : Kind) → IsLawful base h → MayFollow base h (Open (Inner f) kind) →
    at is_switch h f ≡ false → marks_of base (h ++ Open (Inner f) kind ∷ []) f ≡ after_inner false (marks_of base h f)
marks-inner_at_flat base h f kind law next flat = marks-inner_flat base h f kind law next flat

pub marks-inner_at_first : (base : Kept) → (h : List Event) (f : ℕ) (kind : Kind) → IsLawful base h → MayFollow base h (Open (Inner f) kind) →
    ((k : ℕ) → at (is_inner_of f) h k ≡ true → is_open h k ≡ false) → marks_of base (h ++ Open (Inner f) kind ∷ []) f ≡ after_inner false (marks_of base h f)
marks-inner_at_first base h f kind law next closed = marks-inner_first base h f kind law next closed

pub marks-inner_at_next : {base : Kept} {h : List Event} {f old : ℕ} {kind : Kind} → IsLawful base h → MayFollow base h (Open (Inner f) kind) →
    IsOpenInner h f old → marks_of base (h ++ Open (Inner f) kind ∷ []) f ≡ after_inner true (marks_of base h f)
marks-inner_at_next {f = f} {old = old} {kind = kind} law next i = marks-inner_next f old kind law next i.switch i.inner i.alive

-- a new node has nothing to do
pub blank_quiet : (made : Event) (n : ℕ) → due_at made blank_marks n ≡ None
blank_quiet made n = grind arith

pub quiet_new : (base : Kept) → (h : List Event) (e : Event) → IsLawful base h → MayFollow base h e →
    due_at e (marks_of base (h ++ e ∷ []) (length h)) (length h) ≡ None
quiet_new base h e law next = ap (λ m. due_at e m (length h)) (marks-new base h e law next) ∙ blank_quiet e (length h)
