-- The marks of what stays open after an end or a closing.
use Rattle.rx_event.proofs.Laws.Common.{◌≡◌, ℕ, ◌-◌, Bool, true, false, List, [], ◌∷◌, ◌++◌, length, Option, Some, None, cond, refl, sym, ap, ◌∙◌, arith, inl}
use Rattle.rx_event.proofs.Laws.Common.{inr, ◌⊎◌, ◌==◌, slice_get, not, ◌&&◌, ◌||◌, count_by, option_map_or, option_or, cases_Bool, both_ways, false≢true}
use Rattle.rx_event.proofs.Laws.Common.{and_parts, eq-eqb, eqb-true, same_Some, none-some, Terminal, Completed, Error, Kept, Source, Event, Open, Connect, End}
use Rattle.rx_event.proofs.Laws.Common.{Close, is_merging, is_source_of, parent_named, at, parent, is_open, is_open_child_of, is_within, is_projection_to, left}
use Rattle.rx_event.proofs.Laws.Common.{due, IsDue, is_child_of, completes_source, passes_on, child_terminal, source_completed, open_children}
use Rattle.rx_event.proofs.Laws.Common.{marks_of, MayFollow, IsLawful, or_false, false_from_ne_true as never, if◌then◌else◌, ends_by, not-true}
use Rattle.rx_event.proofs.Laws.Parents.{ancestors_step, parent-lt, parent_within, parent_name, within_cases, is_within-le}
use Rattle.rx_event.proofs.Laws.Openness.{is_open_within, is_open_outside-end, is_open_outside-close, is_cut, parent_open}
use Rattle.rx_event.proofs.Laws.Lawful.{may_end}
use Rattle.rx_event.proofs.Laws.Steps.{may_close, parent-named}
use Rattle.rx_event.proofs.Laws.Sums.{sum_by-same, sum_by_one}
use Rattle.rx_event.proofs.Laws.Searches.{or_nothing}
use Rattle.rx_event.proofs.Laws.MarksFound.{is_child_parent, parent_is_child}
use Rattle.rx_event.proofs.Laws.MarksDue.{made_passes, open_made}
use Rattle.rx_event.proofs.Laws.MarksAfter.{cut_children, same_marks, marks-push}
use Rattle.std.proofs.Common.{rules}

-- an end and a closing ----------------------------------------------------------------------------

and_true_end : (b : Bool) → ((true && b) && true) ≡ b
and_true_end b = grind arith

-- what takes away just what is within c takes of the children of a node outside c just c
closing_cut : (h : List Event) (e : Event) (c n : ℕ) → ((k : ℕ) → is_cut h e k ≡ is_within h c k) → is_open h c ≡ true → is_within h c n ≡ false →
    cut_children h e n ≡ cond (is_child_of h n c) 1 0
closing_cut h e c n cuts o outside =
    sum_by-same (λ k. cond (c == k) (cond (is_child_of h n k) 1 0) 0) (λ k. cond (is_open_child_of h n k && is_cut h e k) 1 0) (length h)
    (λ k l. each k (c == k) refl) ∙ sum_by_one (λ k. cond (is_child_of h n k) 1 0) c (length h) (is_open_within h c o) where
      self : (k : ℕ) → (c == k) ≡ true → is_within h c k ≡ true
      self k same = rw (ancestors_step h k, same) refl

      apart : (k : ℕ) → (c == k) ≡ false → (b : Bool) → is_child_of h n k ≡ b → (w : Bool) → is_within h c k ≡ w → (p : Bool) →
          cond {A = ℕ} ((p && b) && w) 1 0 ≡ 0
      apart k other b below false out true = elim b as (λ v. cond {A = ℕ} ((true && v) && false) 1 0 ≡ 0) [ true ↦ refl | false ↦ refl ]
      apart k other b below w out false = refl
      apart k other false below true out true = refl
      apart k other true below true within true = by_parent (within_cases h c k within) where
        by_parent : (c ≡ k) ⊎ ((p : ℕ) × (parent h k ≡ Some p) × (is_within h c p ≡ true)) → cond {A = ℕ} ((true && true) && true) 1 0 ≡ 0
        by_parent x0 = search (rules, both_ways, eq-eqb, same_Some, is_child_parent)

      each : (k : ℕ) (b : Bool) → (c == k) ≡ b → cond {A = ℕ} (is_open_child_of h n k && is_cut h e k) 1 0 ≡ cond b (cond (is_child_of h n k) 1 0) 0
      each k x1 x2 = search (rules, eqb-true, self, and_true_end, apart)

-- the marks of a node that the end of c leaves open
pub marks-end : (base : Kept) → (h : List Event) (c : ℕ) (t : Terminal) → IsLawful base h → MayFollow base h (End c t) → (n : ℕ) →
    is_open (h ++ End c t ∷ []) n ≡ true → marks_of base (h ++ End c t ∷ []) n ≡
    record (marks_of base h n) {
      source_completed = source_completed base h n || completes_source h n (End c t);
      child_terminal = option_or (child_terminal h n) (ends_by h n (End c t));
      open_children = open_children h n - cond (is_child_of h n c) 1 0;
    }
marks-end base h c t law next n o =
    let parts = and_parts (is_open h n) (not (is_within h c n)) (sym (is_open_outside-end h c t n) ∙ o) in
    let z = closing_cut h (End c t) c n (λ k. refl) (may_end base next) (not-true (is_within h c n) parts.1) in
    let w : count_by (is_projection_to n) [] ≡ 0 = refl in
    marks-push base h (End c t) law next n (is_open_within h n parts.0) ∙
    same_marks base (or_false _) (or_false _) (or_false _) refl refl (omega arith) (omega arith)

-- and of one that the closing of c leaves open
pub marks-close : (base : Kept) → (h : List Event) (c : ℕ) → IsLawful base h → MayFollow base h (Close c) → (n : ℕ) → is_open (h ++ Close c ∷ []) n ≡ true →
    marks_of base (h ++ Close c ∷ []) n ≡ record (marks_of base h n) { open_children = open_children h n - cond (is_child_of h n c) 1 0 }
marks-close base h c law next n o =
    let parts = and_parts (is_open h n) (not (is_within h c n)) (sym (is_open_outside-close h c n) ∙ o) in
    let z = closing_cut h (Close c) c n (λ k. refl) (may_close base next) (not-true (is_within h c n) parts.1) in
    let w : count_by (is_projection_to n) [] ≡ 0 = refl in
    marks-push base h (Close c) law next n (is_open_within h n parts.0) ∙
    same_marks base (or_false _) (or_false _) (or_false _) (or_false _) (or_nothing _) (omega arith) (omega arith)

-- what is opened as a source stands below its node
pub source_parent : (base : Kept) → (h : List Event) → IsLawful base h → (n s : ℕ) → at (is_source_of n) h s ≡ true → parent h s ≡ Some n
source_parent base h law n s source = by_event (slice_get h s) refl source where
  by_event : (x : Option Event) → slice_get h s ≡ x → option_map_or (is_source_of n) x false ≡ true → parent h s ≡ Some n
  by_event (Some (Open (Source q) kind)) at_s source = parent-named base h law s n (Open (Source q) kind) at_s (ap Some (eqb-true q n source))
  by_event _ at_s source = absurd (false≢true source)

-- the marks of a node that is not above what ended stay, and of its parent alone do they change
pub marks-end_other : {base : Kept} → (h : List Event) (c : ℕ) (t : Terminal) → IsLawful base h → MayFollow base h (End c t) → (n : ℕ) →
    is_open (h ++ End c t ∷ []) n ≡ true → is_child_of h n c ≡ false → marks_of base (h ++ End c t ∷ []) n ≡ marks_of base h n
marks-end_other {base} h c t law next n o other =
    let z : cond {A = ℕ} (is_child_of h n c) 1 0 ≡ 0 = ap (λ b. cond {A = ℕ} b 1 0) other in
    marks-end base h c t law next n o ∙
    same_marks base refl refl refl (ap (λ b. source_completed base h n || b) (no_source t) ∙ or_false (source_completed base h n))
    (ap (option_or (child_terminal h n)) (rw other refl) ∙ or_nothing (child_terminal h n)) refl (omega arith)
  where
    by_test : (at (is_source_of n) h c ≡ true) ⊎ (at (is_source_of n) h c ≡ false) → at (is_source_of n) h c ≡ false
    by_test (inr out) = out
    by_test (inl source) = absurd (both_ways (is_child_of h n c) other (parent_is_child h n c (source_parent base h law n c source)))

    no_source : (u : Terminal) → completes_source h n (End c u) ≡ false
    no_source Completed = by_test (cases_Bool (at (is_source_of n) h c))
    no_source (Error code) = refl

pub marks-close_other : (base : Kept) → (h : List Event) (c : ℕ) → IsLawful base h → MayFollow base h (Close c) → (n : ℕ) →
    is_open (h ++ Close c ∷ []) n ≡ true → is_child_of h n c ≡ false → marks_of base (h ++ Close c ∷ []) n ≡ marks_of base h n
marks-close_other base h c law next n o other = search (rules, cond, marks-close, same_marks)

-- the parent of what ended, by what the event of the child and its own say
pub marks-end_parent : (base : Kept) → (h : List Event) (c p : ℕ) (t : Terminal) → IsLawful base h → MayFollow base h (End c t) → parent h c ≡ Some p →
    marks_of base (h ++ End c t ∷ []) p ≡
    record (marks_of base h p) {
      source_completed = source_completed base h p || completes_source h p (End c t);
      child_terminal = option_or (child_terminal h p) (if passes_on (at is_merging h p) t then Some t else None);
      open_children = open_children h p - 1;
    }
marks-end_parent base h c p t law next below =
    search (rules, parent_is_child, cond, marks-end, same_marks, option_or, is_within-le, parent-lt, is_open_outside-end, parent_open, may_end, cases_Bool)

-- a closing ---------------------------------------------------------------------------------------

due_names_none : (base : Kept) → {h : List Event} {c : ℕ} → IsDue base h (Close c) → (e : Event) → slice_get h c ≡ Some e → parent_named e ≡ None
due_names_none base (left {g = g} o at_g a n) e at_c = rw (same_Some e (Connect g) (sym at_c ∙ at_g)) refl

pub may_close_none : (base : Kept) → {h : List Event} {c : ℕ} → MayFollow base h (Close c) → (e : Event) → slice_get h c ≡ Some e → parent_named e ≡ None
may_close_none base x1 = search (rules, due, due_names_none, false≢true, made_passes, same_Some)

-- what is closed has no parent, so no marks of what stays open change
pub marks_closed : (base : Kept) → (h : List Event) (c : ℕ) → IsLawful base h → MayFollow base h (Close c) → (n : ℕ) → is_open (h ++ Close c ∷ []) n ≡ true →
    marks_of base (h ++ Close c ∷ []) n ≡ marks_of base h n
marks_closed base h c law next n o =
    marks-close_other base h c law next n o (never (is_child_of h n c) (λ child. by_event (slice_get h c) refl (is_child_parent h n c child)))
  where
    by_event : (x : Option Event) → slice_get h c ≡ x → parent h c ≡ Some n → ⊥
    by_event None at_c below = absurd (let l = parent_within h c n below in let k = open_made h c (may_close base next) in none-some k.0 (sym at_c ∙ k.1))
    by_event (Some e) at_c below = none-some n (sym (may_close_none base next e at_c) ∙ parent_name h c n e below at_c)
