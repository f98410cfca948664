-- What the visits of an item do to the marks of nodes.
use Rattle.rx_audit.proofs.Common.{◌≡◌, ℕ, ◌+◌, ◌<◌, Bool, true, List, [], length, take, Option, sym, ap, ◌∙◌, arith}
use Rattle.rx_audit.proofs.Common.{get_or, get_or-set_other, get_or-set_same, cond, add-zero, ◌||◌, length-set, cases_order}
use Rattle.rx_audit.proofs.Common.{false≢true, eq-eqb, eqb-true, ne_eqb, or_cases, list_any, sum_by, sum_by_more, Event, Marks, blank_marks, Visit}
use Rattle.rx_audit.proofs.Common.{names_number}
use Rattle.rx_audit.proofs.Common.{IsNoted, fired_key, projected_key, visited_marks, IsVisited, or_false, or_true, ⊎_elim}
use Rattle.std.proofs.lemmas.List.Folds.{list_any_more}
use Rattle.rx_audit.specs.Marking.{fired_marks, owed_marks, noted_with}
use Rattle.rx_audit.proofs.ClosingBelow.{noted_more, noted_last}
use Rattle.rx_audit.proofs.Latest.{is_key_of}
use Rattle.rx_event.proofs.Laws.Common.{or_assoc}
use Rattle.std.proofs.Common.{rules}

-- marks with these two fields
abbrev pub with_two : Marks → Bool → ℕ → Marks
with_two m b k = record m { fired = b; owed = k }

pub same_two : (m : Marks) (a b : Bool) (c d : ℕ) → a ≡ b → ◌≡◌ {A = ℕ} c d → with_two m a c ≡ with_two m b d
same_two m a b c d e f = λ i. record m { fired = e i; owed = f i }

fired_at_key : (ms : List Marks) (key : Option ℕ) (n : ℕ) → n < length ms
    → get_or (fired_marks ms key) n blank_marks ≡ with_two (get_or ms n blank_marks) ((get_or ms n blank_marks).fired || names_number key n)
    (get_or ms n blank_marks).owed
fired_at_key ms x1 n l = search (rules, same_two, get_or, or_false, cases_order, ne_eqb, get_or-set_other, eq-eqb, get_or-set_same, or_true)

owed_at_key : (ms : List Marks) (key : Option ℕ) (count n : ℕ) → n < length ms
    → get_or (owed_marks ms key count) n blank_marks ≡ with_two (get_or ms n blank_marks) (get_or ms n blank_marks).fired
    ((get_or ms n blank_marks).owed + cond (names_number key n) count 0)
owed_at_key ms x1 count n l = search (rules, same_two, get_or, add-zero, cases_order, cond, ne_eqb, get_or-set_other, eq-eqb, get_or-set_same)

length-fired : (ms : List Marks) (key : Option ℕ) → length (fired_marks ms key) ≡ length ms
length-fired ms x1 = search (rules, length-set)

length-owed : (ms : List Marks) (key : Option ℕ) (count : ℕ) → length (owed_marks ms key count) ≡ length ms
length-owed ms x1 count = search (rules, length-set)

noted_kept : (due : List ℕ) (key : Option ℕ) (n : ℕ) → IsNoted 0 due n → IsNoted 0 (noted_with due key) n
noted_kept due x1 n w = search (rules, noted_more)

noted_new : (due : List ℕ) (key : Option ℕ) (n : ℕ) → names_number key n ≡ true → IsNoted 0 (noted_with due key) n
noted_new due x1 n e = search (rules, false≢true, is_key_of, eqb-true, noted_last)

abbrev fires_at : List Event → ℕ → Visit → Bool
fires_at h n x = names_number (fired_key h x.node) n

abbrev owes_at : List Event → ℕ → Visit → ℕ
owes_at h n x = cond (names_number (projected_key h x.node) n) x.count 0

pub visited_none : (h : List Event) (ms : List Marks) (due : List ℕ) → IsVisited h [] ms ms due due
visited_none h ms due = search (rules, same_two, get_or, or_false, add-zero, false≢true)

pub visited_more : {h : List Event} (log : List Visit) (i : ℕ) (v : Visit) {old ms : List Marks} (before todo : List ℕ) → i < length log → v ≡ get_or log i v
    → IsVisited h (take i log) old ms before todo
    → IsVisited h (take (i + 1) log) old (owed_marks (fired_marks ms (fired_key h v.node)) (projected_key h v.node) v.count) before
    (noted_with todo (fired_key h v.node))
visited_more {h} log i v {old} {ms} before todo l e w = record {
  size = length-owed (fired_marks ms fkey) pkey v.count ∙ length-fired ms fkey ∙ w.size;
  marks = λ n m. marked n m;
  noted = λ n y. ⊎_elim (λ was. noted_kept todo fkey n (w.noted n was)) (λ now. noted_new todo fkey n now)
      (or_cases (list_any (fires_at h n) (take i log)) (names_number fkey n) (sym (any_more n) ∙ y));
  kept = λ n k. noted_kept todo fkey n (w.kept n k);
} where
  fkey : Option ℕ
  fkey = fired_key h v.node

  pkey : Option ℕ
  pkey = projected_key h v.node

  any_more : (n : ℕ) → list_any (fires_at h n) (take (i + 1) log) ≡ (list_any (fires_at h n) (take i log) || names_number (fired_key h v.node) n)
  any_more n = list_any_more (fires_at h n) log i v l ∙ ap (λ b. list_any (fires_at h n) (take i log) || b) (ap (fires_at h n) (sym e))

  sum_more : (n : ℕ) → sum_by (owes_at h n) (take (i + 1) log) ≡ sum_by (owes_at h n) (take i log) + cond (names_number (projected_key h v.node) n) v.count 0
  sum_more n = sum_by_more (owes_at h n) log i v l ∙ ap (λ (k : ℕ). sum_by (owes_at h n) (take i log) + k) (ap (owes_at h n) (sym e))

  marked : (n : ℕ) → n < length old → get_or (owed_marks (fired_marks ms (fired_key h v.node)) (projected_key h v.node) v.count) n blank_marks
      ≡ visited_marks h (take (i + 1) log) n (get_or old n blank_marks)
  marked n m =
      let o = get_or old n blank_marks in
      let size = w.size in
      let within : n < length ms = omega arith in
      let fsize = length-fired ms (fired_key h v.node) in
      let one = owed_at_key (fired_marks ms (fired_key h v.node)) (projected_key h v.node) v.count n (omega arith) in
      let two = fired_at_key ms (fired_key h v.node) n within in
      let three = w.marks n m in
      one ∙ ap (λ (x : Marks). with_two x x.fired (x.owed + cond (names_number (projected_key h v.node) n) v.count 0)) two
      ∙ ap (λ (x : Marks). with_two x (x.fired || names_number (fired_key h v.node) n) (x.owed + cond (names_number (projected_key h v.node) n) v.count 0))
      three
      ∙ same_two o _ _ _ _
      (sym (or_assoc o.fired (list_any (fires_at h n) (take i log)) (names_number (fired_key h v.node) n)) ∙ ap (λ b. o.fired || b) (sym (any_more n)))
      (let s = sum_more n in omega arith)
