-- Entries that are kept in two lists, the one behind the other.
use Rattle.std.proofs.Common.{◌≡◌, ℕ, ◌+◌, ◌≤◌, ◌↔◌, Bool, true, nat_eq, List, [], ◌∷◌, ◌++◌, length, Option, Some, None, Result}
use Rattle.std.proofs.Common.{All, IfSome, IfNone, IsSomeAnd, refl, sym, append_assoc, append-nil, rules}
use Rattle.std.specs.Prelude.{OnOk, OnErr, OnSome}
use Rattle.std.specs.List.Sorted.{IsPermutation}
use Rattle.std.specs.Map.{lookup}
use Rattle.std.proofs.lemmas.List.Elements.{All-tail}
use Rattle.std.proofs.lemmas.Map.Entries.{All-lookup}
use Rattle.rx_time.specs.Agenda.{PointsAt}
use Rattle.rx_time.specs.declared.work.Work.{Work}
use Rattle.rx_time.specs.Schedule.{scheduled_items, next_of, without}
use Rattle.rx_time.proofs.Entries.{scheduled_items-without, length-remove_entry, lookup-append, remove_entry-absent, remove_entry-back, remove_entry-front}

module _ {X : Type 0} where
  pub nil_front : (es fs : List X) → es ++ fs ≡ [] → es ≡ []
  nil_front [] fs none = refl
  nil_front (e ∷ es) fs none = cc

  pub nil_back : (es fs : List X) → es ++ fs ≡ [] → fs ≡ []
  nil_back [] fs none = none
  nil_back (e ∷ es) fs none = cc

  pub both_nil : (es fs : List X) (b : Bool) → es ≡ [] → (b ≡ true) ↔ (fs ≡ []) → (b ≡ true) ↔ (es ++ fs ≡ [])
  both_nil es fs b none iff = ((λ t. rw (none, iff.0 t) refl), λ both. iff.1 (nil_back es fs both))

  pub All-back : (P : X → Type 0) (es fs : List X) → All P (es ++ fs) → All P fs
  All-back P [] fs all = all
  All-back P (e ∷ es) fs all = All-back P es fs (All-tail P e (es ++ fs) all)

  -- what goes behind the second list goes behind both
  pub put_behind : {A E : Type 0} (r : Result A E) (es rs fs gs : List X) (e : X) → rs ≡ es → OnOk r (gs ≡ fs ++ e ∷ [])
      → OnOk r (rs ++ gs ≡ (es ++ fs) ++ e ∷ [])
  put_behind x0 es rs fs gs e same put = search (rules, append_assoc)

  pub put_refused : {A E : Type 0} (r : Result A E) (es rs fs gs : List X) → rs ≡ es → OnErr r (gs ≡ fs) → OnErr r (rs ++ gs ≡ es ++ fs)
  put_refused x0 es rs fs gs same kept = search rules

  -- what goes behind the first list goes behind both where there is no second
  pub put_between : (es rs fs : List X) (e : X) → fs ≡ [] → rs ≡ es ++ e ∷ [] → rs ++ fs ≡ (es ++ fs) ++ e ∷ []
  put_between es rs fs e none put = rw (none, put, append-nil es) (append-nil (es ++ e ∷ []))

module _ {T : Type 0} where
  -- an entry that is taken out of the first list is taken out of both, and one that is not there out of the second
  pub value_front : (t : ℕ) (w : Work T) (es fs : List (ℕ × Work T)) → Some w ≡ lookup (nat_eq t) es → Some w ≡ lookup (nat_eq t) (es ++ fs)
  value_front t w es fs found = rw (lookup-append (nat_eq t) es fs, ← found) refl

  pub others_front : (t : ℕ) (w : Work T) (es rs fs : List (ℕ × Work T)) → Some w ≡ lookup (nat_eq t) es → rs ≡ without t es
      → rs ++ fs ≡ without t (es ++ fs)
  others_front t w es rs fs found gone = rw gone (sym (remove_entry-front (nat_eq t) es fs w (sym found)))

  pub value_back : (t : ℕ) (es fs : List (ℕ × Work T)) (r : Option (Work T)) → None ≡ lookup (nat_eq t) es → r ≡ lookup (nat_eq t) fs
      → r ≡ lookup (nat_eq t) (es ++ fs)
  value_back t es fs r absent found = rw (lookup-append (nat_eq t) es fs, ← absent) found

  pub others_back : (t : ℕ) (es rs fs gs : List (ℕ × Work T)) → None ≡ lookup (nat_eq t) es → rs ≡ without t es → gs ≡ without t fs
      → rs ++ gs ≡ without t (es ++ fs)
  others_back t es rs fs gs absent kept gone =
      search (rules, remove_entry-absent, nat_eq, remove_entry-back)

  -- what is taken out, and what is left
  pub once_taken : (t : ℕ) (es : List (ℕ × Work T)) (r : Option (Work T)) → r ≡ lookup (nat_eq t) es
      → IfSome r (λ w. IsPermutation (scheduled_items es) (w.item ∷ scheduled_items (without t es)))
  once_taken t es x2 found = search (rules, scheduled_items-without)

  pub fewer_taken : (t : ℕ) (es : List (ℕ × Work T)) (r : Option (Work T)) → r ≡ lookup (nat_eq t) es → OnSome r (length (without t es) + 1 ≡ length es)
  fewer_taken t es x2 found = search (rules, length-remove_entry, nat_eq)

  pub kept_taken : {S : Type 0} (whole : List (ℕ × Work T) → S) (t : ℕ) (es : List (ℕ × Work T)) (r : Option (Work T)) → r ≡ lookup (nat_eq t) es
      → IfNone r (whole (without t es) ≡ whole es)
  kept_taken whole t es x3 found = search (rules, remove_entry-absent, nat_eq)

  -- what comes next is due no earlier than all are
  pub ahead_at : (n : ℕ) (es : List (ℕ × Work T)) (r : Option (ℕ × ℕ)) → All (λ e. n ≤ e.1.due) es → PointsAt es (next_of es) r → IfSome r (λ p. n ≤ p.0)
  ahead_at n es None all points = tt
  ahead_at n es (Some p) all points = go (lookup (nat_eq p.1) es) (All-lookup (λ w. n ≤ w.due) (nat_eq p.1) es all) points where
    go : (o : Option (Work T)) → IfSome o (λ w. n ≤ w.due) → IsSomeAnd o (λ w. (w.due ≡ p.0) × (next_of es ≡ Some (p.1, w))) → n ≤ p.0
    go None ahead at = absurd at
    go (Some w) ahead at = rw at.0 at ahead
