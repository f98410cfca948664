-- The list of the nodes that may have to end.
use Rattle.rx_audit.proofs.Common.{◌≡◌, ℕ, ◌<◌, true, false, List, [], ◌∷◌, ◌++◌, length, take, Option, Some, None, refl, sym, ap, ◌∙◌, arith, slice_get}
use Rattle.rx_audit.proofs.Common.{length-append, nat_lt, cases_order, both_ways, false≢true, and_parts, none-some, same_Some, option_map, option_map_or}
use Rattle.rx_audit.proofs.Common.{is_some, nothing_kept, Terminal, Event, End, Marks, is_open, has_open_child, open_children, marks_of, terminal_due, due_at}
use Rattle.rx_audit.proofs.Common.{IsLawful, MayFollow, is_open_within, open_old, slice_get-append, slice_get_last, event_at, IsNoted, IsUntouched, touched_by}
use Rattle.rx_audit.proofs.Common.{due_made, node_due, IsCovered, and_false, ⊎_elim, cases_eq}
use Rattle.rx_audit.proofs.FoundAfterEvent.{any_counted}
use Rattle.rx_event.proofs.Laws.MarksTouched.{quiet_new}
use Rattle.rx_audit.proofs.ClosingBelow.{noted_more, noted_last}
use Rattle.rx_audit.proofs.Marking.{marks_apart}
use Rattle.std.proofs.Common.{rules}

pub due_closed : (h : List Event) (n : ℕ) → is_open h n ≡ false → node_due h n ≡ false
unfolding node_due
due_closed h n closed = rw closed refl

pub due_nowhere : (h : List Event) (n : ℕ) → slice_get h n ≡ None → node_due h n ≡ false
unfolding node_due
due_nowhere h n none = rw none (and_false (is_open h n))

pub due_made_at : (h : List Event) (n : ℕ) (made : Event) → is_open h n ≡ true → slice_get h n ≡ Some made → node_due h n ≡ due_made h n made
unfolding node_due
due_made_at h n made o is = rw (o, is) refl

pub due_parts : (h : List Event) (n : ℕ) → node_due h n ≡ true → (is_open h n ≡ true) × (option_map_or (due_made h n) (slice_get h n) false ≡ true)
unfolding node_due
due_parts h n y = and_parts (is_open h n) (option_map_or (due_made h n) (slice_get h n) false) y

-- the terminal that is due, and the event
pub some_due : (made : Event) (m : Marks) (n : ℕ) → is_some (terminal_due made m) ≡ true → (t : Terminal) × (due_at made m n ≡ Some (End n t))
some_due made m n = by_terminal (terminal_due made m) where
  by_terminal : (o : Option Terminal) → is_some o ≡ true → (t : Terminal) × (option_map (λ t. End n t) o ≡ Some (End n t))
  by_terminal None some = absurd (false≢true some)
  by_terminal (Some t) some = (t, refl)

pub none_is_due : (made : Event) (m : Marks) (n : ℕ) → is_some (terminal_due made m) ≡ false → due_at made m n ≡ None
none_is_due made m n = search (rules, is_some, option_map, false≢true)

quiet_is : (made : Event) (m : Marks) (n : ℕ) → due_at made m n ≡ None → is_some (terminal_due made m) ≡ false
quiet_is made m n = search (rules, option_map, is_some, none-some)

pub noted_none : (xs : List ℕ) (n k : ℕ) → k ≡ 0 → IsNoted 0 (take k xs) n → ⊥
noted_none xs n k zero_of w = let l = w.within in let none : length (take k xs) ≡ 0 = rw zero_of refl in omega arith

-- what is due after the event was due before, or is touched
due_before : (h : List Event) (e : Event) → IsLawful nothing_kept h → MayFollow nothing_kept h e → IsUntouched h e → (n : ℕ) → (touched_by h e ≡ Some n → ⊥)
    → node_due (h ++ e ∷ []) n ≡ true → node_due h n ≡ true
due_before h e law next no_item n differs y =
    let alive = (due_parts (h ++ e ∷ []) n y).0 in
    let last = is_open_within (h ++ e ∷ []) n alive in
    let longer = length-append h (e ∷ []) in ⊎_elim (λ same. absurd (both_ways (due_made (h ++ e ∷ []) (length h) e)
    (quiet_is e (marks_of nothing_kept (h ++ e ∷ []) (length h)) (length h) (quiet_new nothing_kept h e law next))
    (sym (due_made_at (h ++ e ∷ []) (length h) e (ap (is_open (h ++ e ∷ [])) (sym same) ∙ alive) (slice_get_last h e))
    ∙ ap (node_due (h ++ e ∷ [])) (sym same) ∙ y))) (λ old. let l : n < length h = omega arith in
    let made = event_at h n l in
    due_made_at h n made.0 (open_old h e n l alive) made.1
    ∙ ap (λ m. is_some (terminal_due made.0 m)) (sym (marks_apart e law next no_item n l alive differs))
    ∙ sym (due_made_at (h ++ e ∷ []) n made.0 alive (slice_get-append h (e ∷ []) n l ∙ made.1)) ∙ y) (cases_eq n (length h))

pub covered_more : {h : List Event} (e : Event) (due : List ℕ) (p : ℕ) → IsLawful nothing_kept h → MayFollow nothing_kept h e → IsUntouched h e
    → touched_by h e ≡ Some p → IsCovered h due → IsCovered (h ++ e ∷ []) (due ++ p ∷ [])
covered_more {h} e due p law next no_item named covered n y = search (rules, cases_order, noted_more, due_before, same_Some, noted_last)

pub covered_same : (h : List Event) (e : Event) (due : List ℕ) → IsLawful nothing_kept h → MayFollow nothing_kept h e → IsUntouched h e → touched_by h e ≡ None
    → IsCovered h due → IsCovered (h ++ e ∷ []) due
covered_same h e due law next no_item none covered n y = covered n (due_before h e law next no_item n (λ at_n. none-some n (sym none ∙ at_n)) y)

-- an open child is counted by the mark ---------------------------------------------------------------

pub child_marked : (h : List Event) (n : ℕ) (m : Marks) → m ≡ marks_of nothing_kept h n → has_open_child h n ≡ nat_lt 0 m.open_children
unfolding open_children
child_marked h n m is = search (rules, any_counted, nat_lt)
