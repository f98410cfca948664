-- An item in a history without hubs: what it does to marks, and what is due after it.
use Rattle.rx_audit.proofs.Common.{◌≡◌, ℕ, ℤ, ◌+◌, ◌<◌, Bool, true, List, [], ◌∷◌, ◌++◌, length, Option, Some, refl, sym, ap, ◌∙◌, arith, ◌==◌, cond, ◌||◌}
use Rattle.rx_audit.proofs.Common.{◌&&◌, cases_Bool, false≢true, eq-eqb, eqb-true, none-some, same_Some, list_any, sum_by, count_by, option_or, is_some}
use Rattle.rx_audit.proofs.Common.{nothing_kept, Terminal, Event, Item, Marks, is_open, stop_at, climb, owed, is_firing_of, is_projection_to, marks_of}
use Rattle.rx_audit.proofs.Common.{terminal_due, IsLawful, MayFollow, is_open_within, slice_get-append, event_at, Visit, IsReached, names_number, leaf_of}
use Rattle.rx_audit.proofs.Common.{IsKept}
use Rattle.rx_audit.proofs.Common.{IsCovered, IsVisited, visited_marks, fired_key, projected_key, due_made, or_false, ⊎_elim}
use Rattle.rx_event.specs.Climb.{stops}
use Rattle.rx_event.specs.Moments.{is_fired}
use Rattle.rx_event.specs.Marks.{completed_if}
use Rattle.rx_event.proofs.Laws.Openness.{open_before}
use Rattle.rx_event.proofs.Laws.MarksAfter.{marks-item}
use Rattle.rx_audit.proofs.FoundAfterEvent.{same_any, firing_stops, projection_stops, times_cond}
use Rattle.rx_audit.proofs.VisitsChangeMarks.{with_two, same_two}
use Rattle.rx_audit.proofs.DueListCovers.{due_parts, due_made_at}
use Rattle.std.proofs.Common.{rules}

pub item_of : (e : Event) (leaf : ℕ) → leaf_of e ≡ Some leaf → (v : ℤ) × (e ≡ Item leaf v)
item_of x0 leaf is = search (rules, same_Some, none-some)

fires_same : (h : List Event) (leaf n : ℕ) (log : List Visit) → IsReached h leaf log
    → list_any (λ v. names_number (fired_key h v.node) n) log ≡ list_any (is_firing_of n) (stops h leaf)
unfolding stops
fires_same h leaf n log r = same_any h leaf log (λ m. names_number (fired_key h m) n)
    (λ m fires projects. ap (λ o. cond {A = ℕ} (names_number o n) 1 0) fires) r ∙ sym (firing_stops (stop_at h) n (climb h leaf))

owes_same : (h : List Event) (leaf n : ℕ) (log : List Visit) → IsReached h leaf log
    → sum_by (λ v. cond (names_number (projected_key h v.node) n) v.count 0) log ≡ count_by (is_projection_to n) (stops h leaf)
unfolding stops
owes_same h leaf n log r = times_cond (λ m. names_number (projected_key h m) n) log ∙ r.sums (λ m. cond (names_number (projected_key h m) n) 1 0)
    (λ m fires projects. ap (λ o. cond {A = ℕ} (names_number o n) 1 0) projects)
    ∙ sym (projection_stops (stop_at h) n (climb h leaf))

kept_visit : {h : List Event} {leaf : ℕ} (v : ℤ) {log : List Visit} {old new : List Marks} {before : List ℕ} (after : List ℕ) → IsLawful nothing_kept h
    → MayFollow nothing_kept h (Item leaf v)
    → IsReached h leaf log → IsKept h old → length h < length old → IsVisited h log old new before after → IsKept (h ++ Item leaf v ∷ []) new
kept_visit {h} {leaf} v {log} after law next r kept room w n o =
    let here : is_open h n ≡ true = open_before h (Item leaf v) n refl o in
    let l : n < length h = is_open_within h n here in
    w.marks n (omega arith) ∙ ap (visited_marks h log n) (kept n here)
    ∙ same_two (marks_of nothing_kept h n) _ _ _ _ (ap (λ b. is_fired h n || b) (fires_same h leaf n log r))
    (ap (λ (k : ℕ). owed nothing_kept h n + k) (owes_same h leaf n log r)) ∙ sym (marks-item nothing_kept h leaf v law next n l)

-- what more is owed makes nothing due
over_still : (s o z more : Bool) → (more ≡ true → z ≡ true) → is_some (completed_if ((s && o) && more)) ≡ true → is_some (completed_if ((s && o) && z)) ≡ true
over_still x0 x1 z x3 so y = search (rules, false≢true)

merging_still : (c : Option Terminal) (a b : Bool) → (is_some (completed_if a) ≡ true → is_some (completed_if b) ≡ true)
    → is_some (option_or c (completed_if a)) ≡ true → is_some (option_or c (completed_if b)) ≡ true
merging_still x0 a b so y = search rules

none_owed : (a k : ℕ) → (a + k == 0) ≡ true → (a == 0) ≡ true
none_owed a k e = let s : a + k ≡ 0 = eqb-true (a + k) 0 e in eq-eqb a 0 (omega arith)

still_due : (made : Event) (m : Marks) (k : ℕ) → is_some (terminal_due made (with_two m m.fired (m.owed + k))) ≡ true → is_some (terminal_due made m) ≡ true
still_due x0 m k y = search (rules, merging_still, with_two, over_still, none_owed)

covered_visit : {h : List Event} {leaf : ℕ} (v : ℤ) {log : List Visit} {old new : List Marks} (before after : List ℕ) → IsLawful nothing_kept h
    → MayFollow nothing_kept h (Item leaf v)
    → IsReached h leaf log → IsCovered h before → IsVisited h log old new before after → IsCovered (h ++ Item leaf v ∷ []) after
covered_visit {h} {leaf} v {log} before after law next r covered w n y = ⊎_elim (λ now. w.noted n (fires_same h leaf n log r ∙ now)) (λ quiet.
    let parts = due_parts (h ++ Item leaf v ∷ []) n y in
    let here : is_open h n ≡ true = open_before h (Item leaf v) n refl parts.0 in
    let l : n < length h = is_open_within h n here in
    let made = event_at h n l in
    let now : due_made (h ++ Item leaf v ∷ []) n made.0 ≡ true =
    sym (due_made_at (h ++ Item leaf v ∷ []) n made.0 parts.0 (slice_get-append h (Item leaf v ∷ []) n l ∙ made.1)) ∙ y in
    let same = marks-item nothing_kept h leaf v law next n l
    ∙ same_two (marks_of nothing_kept h n) _ _ _ _ (ap (λ b. is_fired h n || b) quiet ∙ or_false (is_fired h n)) refl in
    let was = still_due made.0 (marks_of nothing_kept h n) (count_by (is_projection_to n) (stops h leaf))
    (ap (λ m. is_some (terminal_due made.0 m)) (sym same) ∙ now) in
    w.kept n (covered n (due_made_at h n made.0 here made.1 ∙ was))) (cases_Bool (list_any (is_firing_of n) (stops h leaf)))

pub item_kept : {h : List Event} {e : Event} {leaf : ℕ} {log : List Visit} {old new : List Marks} {before : List ℕ} (after : List ℕ) → IsLawful nothing_kept h
    → MayFollow nothing_kept h e → leaf_of e ≡ Some leaf
    → IsReached h leaf log → IsKept h old → length h < length old → IsVisited h log old new before after → IsKept (h ++ e ∷ []) new
item_kept {h} {e} {leaf} after law next is r kept room w =
    let found = item_of e leaf is in
    let now : MayFollow nothing_kept h (Item leaf found.0) = rw (← found.1) next in rw found.1 (kept_visit found.0 after law now r kept room w)

pub item_covered : {h : List Event} {e : Event} {leaf : ℕ} {log : List Visit} {old new : List Marks} (before after : List ℕ) → IsLawful nothing_kept h
    → MayFollow nothing_kept h e → leaf_of e ≡ Some leaf
    → IsReached h leaf log → IsCovered h before → IsVisited h log old new before after → IsCovered (h ++ e ∷ []) after
item_covered {h} {e} {leaf} before after law next is r covered w =
    let found = item_of e leaf is in
    let now : MayFollow nothing_kept h (Item leaf found.0) = rw (← found.1) next in
    rw found.1 (covered_visit found.0 before after law now r covered w)
