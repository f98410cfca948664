-- The marks of the open nodes, one event after the other.
use Rattle.rx_audit.proofs.Common.{◌≡◌, ℕ, ◌<◌, ◌≤◌, Bool, true, false, List, [], ◌∷◌, ◌++◌, length, Option, Some, None, sym, ap, ◌∙◌, arith, inl}
use Rattle.rx_audit.proofs.Common.{inr, ◌⊎◌, ◌==◌, get_or, set, get_or-set_other, get_or-set_same, slice_get, length-append, false≢true, cases_Bool}
use Rattle.rx_audit.proofs.Common.{cases_order, both_ways, eqb-true, and_parts, lt-ltb, and_from, none-some, same_Some, length-set, option_map_or, nothing_kept}
use Rattle.rx_audit.proofs.Common.{Terminal, Source, Inner, Notifier, Kind, Event, Open, Decline, End, Close, Marks, is_merging, is_switch, is_source_of}
use Rattle.rx_audit.proofs.Common.{is_inner_of, at, parent, is_open, is_switched_inner, is_some, length-range_with_len, open_old}
use Rattle.rx_audit.proofs.Common.{marks_of, blank_marks, after_source, after_notifier, after_inner, after_decline, after_child, open_children, owed, MayFollow}
use Rattle.rx_audit.proofs.Common.{IsLawful, parent_open, is_open_within, may_end, event_at, touched_by, IsKept, IsUntouched, ⊎_elim, cases_eq}
use Rattle.std.proofs.lemmas.List.Sums.{count_by-le-length}
use Rattle.rx_event.specs.Marks.{touches}
use Rattle.rx_event.proofs.Laws.Steps.{may_name, may_decline, may_open}
use Rattle.rx_event.proofs.Laws.Switches.{inner_above}
use Rattle.rx_event.proofs.Laws.MarksNew.{marks-new}
use Rattle.rx_event.proofs.Laws.MarksEnds.{marks_closed}
use Rattle.rx_event.proofs.Laws.MarksTouched.{marks_untouched, marks-source_at, marks-notifier_at, marks-inner_at_flat, marks-inner_at_first}
use Rattle.rx_event.proofs.Laws.MarksTouched.{marks-inner_at_next, marks-decline_at, marks-end_at, child_counted}
use Rattle.rx_audit.specs.Marking.{IsTop}
use Rattle.std.proofs.Common.{rules}

abbrev is_close : Event → Bool
is_close (Close c) = true
is_close _ = false

-- what is touched is open
pub touched_open : (h : List Event) (e : Event) (p : ℕ) → MayFollow nothing_kept h e → touched_by h e ≡ Some p → is_open h p ≡ true
touched_open h x1 p next named = search (rules, may_name, same_Some, may_decline, parent_open, may_end, none-some)

apart : (q n : ℕ) → (Some q ≡ Some n → ⊥) → (q == n) ≡ false
apart q n differs = search (rules, eqb-true)

child_apart : (h : List Event) (n c : ℕ) → (parent h c ≡ Some n → ⊥) → option_map_or (λ q. q == n) (parent h c) false ≡ false
child_apart h n c differs = search (rules, option_map_or, apart)

-- where another node is touched, this one is not, but by a closing
untouched : (h : List Event) (e : Event) (n : ℕ) → IsUntouched h e → ((c : ℕ) → e ≡ Close c → ⊥) → (touched_by h e ≡ Some n → ⊥) → touches h n e ≡ false
untouched h x1 n no_item no_close differs = search (rules, apart, child_apart)

-- the marks of an older node that is not touched
pub marks_apart : {h : List Event} (e : Event) → IsLawful nothing_kept h → MayFollow nothing_kept h e → IsUntouched h e → (n : ℕ) → n < length h
    → is_open (h ++ e ∷ []) n ≡ true → (touched_by h e ≡ Some n → ⊥) → marks_of nothing_kept (h ++ e ∷ []) n ≡ marks_of nothing_kept h n
marks_apart {h} e law next no_item n l o differs = search (rules, cases_Bool, marks_closed, false≢true, marks_untouched, untouched, both_ways)

-- the list after the event: at the node that it touches, and at the new place
pub kept_more : {h : List Event} {e : Event} (ms : List Marks) {p : ℕ} {m : Marks} → IsLawful nothing_kept h → MayFollow nothing_kept h e
    → IsUntouched h e → IsKept h ms → length h < length ms
    → touched_by h e ≡ Some p → m ≡ marks_of nothing_kept (h ++ e ∷ []) p → IsKept (h ++ e ∷ []) (set (set ms p m) (length h) blank_marks)
kept_more {h} {e} ms {p} {m} law next no_item kept room named is n o =
    let within = is_open_within h p (touched_open h e p next named) in
    let last = is_open_within (h ++ e ∷ []) n o in
    let longer = length-append h (e ∷ []) in
    let size = length-set ms p m in ⊎_elim (λ same. ap (λ k. get_or (set (set ms p m) (length h) blank_marks) k blank_marks) same
    ∙ get_or-set_same (set ms p m) (length h) blank_marks blank_marks (omega arith)
    ∙ sym (ap (marks_of nothing_kept (h ++ e ∷ [])) same ∙ marks-new nothing_kept h e law next))
    (λ old. let l : n < length h = omega arith in get_or-set_other (set ms p m) (length h) n blank_marks blank_marks old ∙ ⊎_elim
    (λ same. ap (λ k. get_or (set ms p m) k blank_marks) same ∙ get_or-set_same ms p m blank_marks (omega arith)
    ∙ is ∙ sym (ap (marks_of nothing_kept (h ++ e ∷ [])) same)) (λ other. get_or-set_other ms p n m blank_marks other ∙ kept n (open_old h e n l o)
    ∙ sym (marks_apart e law next no_item n l o (λ at_n. other (same_Some n p (sym at_n ∙ named))))) (cases_eq n p)) (cases_eq n (length h))

pub kept_same : {h : List Event} (e : Event) (ms : List Marks) → IsLawful nothing_kept h → MayFollow nothing_kept h e → IsUntouched h e → IsKept h ms
    → length h < length ms → touched_by h e ≡ None → IsKept (h ++ e ∷ []) (set ms (length h) blank_marks)
kept_same {h} e ms law next no_item kept room none n o = search (rules, cases_order, length, get_or, set, get_or-set_same, marks-new, get_or-set_other, open_old, marks_apart, none-some, is_open_within, length-append)

-- each event's change ------------------------------------------------------------------------------

pub source_changes : {h : List Event} (e : Event) (f p : ℕ) (kind : Kind) → e ≡ Open (Source f) kind → IsLawful nothing_kept h
    → MayFollow nothing_kept h e → touched_by h e ≡ Some p → marks_of nothing_kept (h ++ e ∷ []) p ≡ after_source (marks_of nothing_kept h p)
source_changes {h} e f p kind same = search (rules, same_Some, marks-source_at)

pub notifier_changes : {h : List Event} (e : Event) (f p : ℕ) (kind : Kind) → e ≡ Open (Notifier f) kind → IsLawful nothing_kept h
    → MayFollow nothing_kept h e → touched_by h e ≡ Some p → marks_of nothing_kept (h ++ e ∷ []) p ≡ after_notifier (marks_of nothing_kept h p)
notifier_changes {h} e f p kind same = search (rules, same_Some, marks-notifier_at)

pub decline_changes : (h : List Event) (e : Event) (f p : ℕ) → e ≡ Decline f → IsLawful nothing_kept h → MayFollow nothing_kept h e → touched_by h e ≡ Some p
    → marks_of nothing_kept (h ++ e ∷ []) p ≡ after_decline (marks_of nothing_kept h p)
decline_changes h e f p same = rw same (λ law next named. rw (← same_Some f p named) (marks-decline_at nothing_kept h f law next))

at_event : (q : Event → Bool) (h : List Event) (n : ℕ) (made : Event) → slice_get h n ≡ Some made → q made ≡ at q h n
at_event q h n made is = sym (ap (λ o. option_map_or q o false) is)

pub end_changes : {h : List Event} (e : Event) (c p : ℕ) (t : Terminal) → e ≡ End c t → IsLawful nothing_kept h → MayFollow nothing_kept h e
    → touched_by h e ≡ Some p
    → marks_of nothing_kept (h ++ e ∷ []) p ≡ after_child (at (is_source_of p) h c) (at is_merging h p) t (marks_of nothing_kept h p)
end_changes {h} e c p t same = rw same (λ law next named.
    let made = event_at h c (is_open_within h c (may_end nothing_kept next)) in
    let above = event_at h p (is_open_within h p (parent_open h c p (may_end nothing_kept next) named)) in
    marks-end_at law next named made.1 above.1
    ∙ ap (λ b. after_child b (is_merging above.0) t (marks_of nothing_kept h p)) (at_event (is_source_of p) h c made.0 made.1)
    ∙ ap (λ b. after_child (at (is_source_of p) h c) b t (marks_of nothing_kept h p)) (at_event is_merging h p above.0 above.1))

-- an inner, which takes the place of an open one or of none
pub inner_changes : {h : List Event} {e : Event} {f p : ℕ} {kind : Kind} (top : Option ℕ) (b : Bool) → e ≡ Open (Inner f) kind
    → IsLawful nothing_kept h → MayFollow nothing_kept h e → touched_by h e ≡ Some p
    → IsTop h e top → b ≡ is_some top → marks_of nothing_kept (h ++ e ∷ []) p ≡ after_inner b (marks_of nothing_kept h p)
inner_changes {h} {f} {p} {kind} top b same = rw same
    (λ law next named is taken. rw (taken, ← same_Some f p named) (by_switch law next top is (cases_Bool (at is_switch h f)))) where
      by_switch : IsLawful nothing_kept h → MayFollow nothing_kept h (Open (Inner f) kind) → (o : Option ℕ) → IsTop h (Open (Inner f) kind) o
          → (at is_switch h f ≡ true) ⊎ (at is_switch h f ≡ false)
          → marks_of nothing_kept (h ++ Open (Inner f) kind ∷ []) f ≡ after_inner (is_some o) (marks_of nothing_kept h f)
      by_switch law next None none (inr flat) = marks-inner_at_flat nothing_kept h f kind law next flat
      by_switch law next None none (inl switch) =
          marks-inner_at_first nothing_kept h f kind law next (λ k inner. not_open k inner (cases_Bool (is_open h k))) where
            not_open : (k : ℕ) → at (is_inner_of f) h k ≡ true → (is_open h k ≡ true) ⊎ (is_open h k ≡ false) → is_open h k ≡ false
            not_open k inner (inr closed) = closed
            not_open k inner (inl here) =
                let shut : is_switched_inner h f k ≡ true = and_from _ _ (and_from _ _ (lt-ltb f k (inner_above nothing_kept h law f k inner)) switch) inner in
                absurd (both_ways (is_switched_inner h f k) (none k here) shut)
      by_switch law next (Some old) w (inl switch) =
          marks-inner_at_next law next (record { switch = switch; inner = (and_parts _ _ w.shut).1; alive = w.open_before })
      by_switch law next (Some old) w (inr flat) = absurd (both_ways (at is_switch h f) flat (and_parts _ _ (and_parts _ _ w.shut).0).1)

pub children_few : (h : List Event) (n : ℕ) → open_children h n ≤ length h
unfolding open_children
children_few h n = search (rules, count_by-le-length, length-range_with_len, length)

pub inner_owes : (h : List Event) (e : Event) (f p : ℕ) (kind : Kind) → e ≡ Open (Inner f) kind → MayFollow nothing_kept h e → touched_by h e ≡ Some p
    → 0 < owed nothing_kept h p
inner_owes h e f p kind same = rw same (λ next named. rw (← same_Some f p named) (may_open nothing_kept next).2)

pub decline_owes : (h : List Event) (e : Event) (f p : ℕ) → e ≡ Decline f → MayFollow nothing_kept h e → touched_by h e ≡ Some p → 0 < owed nothing_kept h p
decline_owes h e f p same = rw same (λ next named. rw (← same_Some f p named) (may_decline nothing_kept next).2)

pub end_counted : (h : List Event) (e : Event) (c p : ℕ) (t : Terminal) → e ≡ End c t → MayFollow nothing_kept h e → touched_by h e ≡ Some p
    → 0 < open_children h p
end_counted h e c p t same = rw same (λ next named. child_counted h c p (may_end nothing_kept next) named)
