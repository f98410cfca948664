-- What keeps the entries of a priority queue and its agenda the same.
use Rattle.std.proofs.Common.{◌≡◌, ℕ, ◌<◌, Bool, ◌&&◌, true, false, cond, nat_eq, List}
use Rattle.std.proofs.Common.{[], ◌∷◌, ◌++◌, length, Option, Some, None, IsSomeAnd, All, refl, sym, ◌∙◌, arith, rules}
use Rattle.std.proofs.lemmas.Bool.{cases_eq, eqb-true, false≢true, eq-eqb, ne_eqb}
use Rattle.std.proofs.lemmas.Bool.Decides.{nat_tests}
use Rattle.std.proofs.lemmas.List.Elements.{All-head, All-weaker}
use Rattle.std.specs.BTreeSet.{BTreeSet, contains, btree_set_len, IsLowerBound, Updates}
use Rattle.std.specs.List.{list_any}
use Rattle.std.specs.Map.{lookup, remove_entry}
use Rattle.std.specs.Ordering.{is_eq, is_gt}
use Rattle.rx_time.specs.declared.work.Work.{Work}
use Rattle.rx_time.specs.Agenda.{IsKept, PointsAt, is_due_at, place_cmp}
use Rattle.rx_time.specs.Schedule.{next_of}
use Rattle.rx_time.proofs.Next.{IsAfter, next_of-first}
use Rattle.rx_time.proofs.Entries.{All-looked_up, lookup-last, lookup-past, lookup-without, sorted-push, sorted-remove_entry}

-- two places of the agenda are one exactly where time and ticket are
is_eq-place_cmp : (a t due ticket : ℕ) → is_eq (place_cmp (a, t) (due, ticket)) ≡ (nat_eq a due && nat_eq t ticket)
is_eq-place_cmp a t due ticket = grind (arith, nat_tests)

-- the agenda at the place that went in, came out, or did both; and at any other place
now_here : (here : Bool) → cond (here && true) true false ≡ here
now_here x0 = search rules

gone_here : (here : Bool) → cond (here && true) false here ≡ false
gone_here x0 = search rules

never_here : (here : Bool) → cond (here && true) false (cond (here && true) true false) ≡ false
never_here x0 = search rules

elsewhere : (here now before : Bool) → cond (here && false) now before ≡ before
elsewhere x0 now before = search rules

-- an empty agenda has no place
no_place : (agenda : BTreeSet (ℕ × ℕ)) (place : ℕ × ℕ) → btree_set_len agenda ≡ 0 → contains place_cmp agenda place ≡ true → ⊥
no_place agenda place empty there = go agenda.keys empty there where
  go : (keys : List (ℕ × ℕ)) → length keys ≡ 0 → list_any (λ k. is_eq (place_cmp place k)) keys ≡ true → ⊥
  go [] none found = false≢true found
  go (k ∷ ks) none found = absurd (omega arith)

module _ {T : Type 0} where
  same-push : (w : Work T) (t due ticket : ℕ) (o : Option (Work T)) (before : Bool) → before ≡ is_due_at due o → (ticket ≡ t → o ≡ None)
      → cond (is_eq (place_cmp (w.due, t) (due, ticket))) true before ≡ is_due_at due (cond (nat_eq ticket t) (Some w) o)
  same-push w t due ticket o before agreed fresh =
      search (rules, cases_eq, is_eq-place_cmp, eq-eqb, now_here, nat_eq, ne_eqb, elsewhere)

  same-without : (w : Work T) (t due ticket : ℕ) (o : Option (Work T)) (before : Bool) → before ≡ is_due_at due o → (ticket ≡ t → o ≡ Some w)
      → cond (is_eq (place_cmp (w.due, t) (due, ticket))) false before ≡ is_due_at due (cond (nat_eq t ticket) None o)
  same-without w t due ticket o before agreed found =
      search (rules, cases_eq, is_eq-place_cmp, eq-eqb, gone_here, nat_eq, ne_eqb, elsewhere)

  same-undone : (due t time ticket : ℕ) (o : Option (Work T)) (before : Bool) → before ≡ is_due_at time o → (ticket ≡ t → o ≡ None)
      → cond (is_eq (place_cmp (due, t) (time, ticket))) false (cond (is_eq (place_cmp (due, t) (time, ticket))) true before) ≡ is_due_at time o
  same-undone due t time ticket o before agreed fresh =
      search (rules, cases_eq, is_eq-place_cmp, eq-eqb, never_here, nat_eq, ne_eqb, elsewhere)

  -- a new entry, also in the agenda
  pub IsKept-push : (es : List (ℕ × Work T)) (t : ℕ) (w : Work T) (old new : BTreeSet (ℕ × ℕ)) → IsKept es old → All (λ e. e.0 < t) es
      → Updates place_cmp old new (w.due, t) true → IsKept (es ++ (t, w) ∷ []) new
  IsKept-push es t w old new kept above added = record {
    ascending = sorted-push es t w kept.ascending above;
    same = λ due ticket. rw (added.0 (due, ticket), lookup-last es ticket t w above)
        (same-push w t due ticket (lookup (nat_eq ticket) es) (contains place_cmp old (due, ticket))
        (kept.same due ticket) (λ e. rw e (lookup-past es t above)));
  }

  -- an entry is gone, also from the agenda
  pub IsKept-without : (es : List (ℕ × Work T)) (t : ℕ) (w : Work T) (old new : BTreeSet (ℕ × ℕ)) → IsKept es old
      → lookup (nat_eq t) es ≡ Some w → Updates place_cmp old new (w.due, t) false → IsKept (remove_entry (nat_eq t) es) new
  IsKept-without es t w old new kept found gone = search (rules, sorted-remove_entry, nat_eq, lookup-without, same-without)

  -- what went into the agenda came out of it again
  pub IsKept-undone : (es : List (ℕ × Work T)) (due t : ℕ) (old with_place new : BTreeSet (ℕ × ℕ)) → IsKept es old → All (λ e. e.0 < t) es
      → Updates place_cmp old with_place (due, t) true → Updates place_cmp with_place new (due, t) false → IsKept es new
  IsKept-undone es due t old with_place new kept above added gone = record {
    ascending = kept.ascending;
    same = λ time ticket. rw (gone.0 (time, ticket), added.0 (time, ticket))
        (same-undone due t time ticket (lookup (nat_eq ticket) es) (contains place_cmp old (time, ticket))
        (kept.same time ticket) (λ e. rw e (lookup-past es t above)));
  }

  -- each entry has its place in the agenda
  All-in_agenda : (es : List (ℕ × Work T)) (agenda : BTreeSet (ℕ × ℕ)) → IsKept es agenda → All (λ e. contains place_cmp agenda (e.1.due, e.0) ≡ true) es
  All-in_agenda es agenda kept =
      All-weaker (λ e. lookup (nat_eq e.0) es ≡ Some e.1) (λ e. contains place_cmp agenda (e.1.due, e.0) ≡ true)
      (λ e found. rw (kept.same e.1.due e.0, found) (eq-eqb e.1.due e.1.due refl)) es (All-looked_up es kept.ascending)

  IsAfter-place : (a t : ℕ) (e : ℕ × Work T) → is_gt (place_cmp (a, t) (e.1.due, e.0)) ≡ false → IsAfter a t e
  IsAfter-place a t e not_above = (grind (arith, nat_tests), λ tie. grind (arith, nat_tests))

  -- the least place of the agenda points at what comes next
  pub PointsAt-first : (es : List (ℕ × Work T)) (agenda : BTreeSet (ℕ × ℕ)) (place : ℕ × ℕ) → IsKept es agenda
      → contains place_cmp agenda place ≡ true → IsLowerBound place_cmp agenda place → PointsAt es (next_of es) (Some place)
  PointsAt-first es agenda place kept member least =
      go (lookup (nat_eq place.1) es) refl (sym (kept.same place.0 place.1) ∙ member) where
        after : All (IsAfter place.0 place.1) es
        after = All-weaker (λ e. contains place_cmp agenda (e.1.due, e.0) ≡ true) (IsAfter place.0 place.1)
            (λ e there. IsAfter-place place.0 place.1 e (least (e.1.due, e.0) there)) es (All-in_agenda es agenda kept)

        go : (o : Option (Work T)) → lookup (nat_eq place.1) es ≡ o → is_due_at place.0 o ≡ true
            → IsSomeAnd o (λ w. (w.due ≡ place.0) × (next_of es ≡ Some (place.1, w)))
        go None found due = absurd (false≢true due)
        go (Some w) found due =
            let same : w.due ≡ place.0 = eqb-true w.due place.0 due in
            (same, next_of-first es place.1 w kept.ascending found (rw same after))

  -- where the agenda is empty, there is no work
  pub work-none : (es : List (ℕ × Work T)) (agenda : BTreeSet (ℕ × ℕ)) → IsKept es agenda → btree_set_len agenda ≡ 0 → es ≡ []
  work-none es agenda kept empty = go es (All-in_agenda es agenda kept) where
    go : (fs : List (ℕ × Work T)) → All (λ e. contains place_cmp agenda (e.1.due, e.0) ≡ true) fs → fs ≡ []
    go [] there = refl
    go (e ∷ fs) there =
        absurd (no_place agenda (e.1.due, e.0) empty (All-head (λ f. contains place_cmp agenda (f.1.due, f.0) ≡ true) e fs there))
