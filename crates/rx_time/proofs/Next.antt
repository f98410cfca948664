-- Which entry comes next.
use Rattle.std.proofs.Common.{◌≡◌, ℕ, ◌<◌, ◌≤◌, true, false, nat_eq, nat_le, List, []}
use Rattle.std.proofs.Common.{◌∷◌, ◌++◌, Option, Some, None, IfSome, IsSomeAnd, MatchOption, All, cond, refl, ap, append-nil, inl, inr, arith, rules}
use Rattle.std.proofs.lemmas.Bool.{cases_lt, cond_both, cond-true, cond-false, le-leb, lt-leb, eqb-true}
use Rattle.std.proofs.lemmas.List.Elements.{All-nil, All-cons, All-head, All-tail, All-weaker}
use Rattle.std.proofs.lemmas.Map.Keys.{sorted_head, sorted_tail}
use Rattle.std.specs.List.Sorted.{IsStrictlySortedBy}
use Rattle.std.specs.Map.{lookup, keys_of}
use Rattle.std.specs.Ordering.{nat_cmp}
use Rattle.rx_time.specs.declared.work.Work.{Work}
use Rattle.rx_time.specs.Agenda.{PointsAt}
use Rattle.rx_time.specs.Places.{earlier_place}
use Rattle.rx_time.specs.Schedule.{IsNext, earlier, next_due, next_of}
use Rattle.rx_time.proofs.Entries.{above_from_lookup, lookup-append, lookup-not_in_front}

module _ {T : Type 0} where
  pub earlier-keeps : (e : ℕ × Work T) (o : Option (ℕ × Work T)) → IfSome o (λ f. e.1.due ≤ f.1.due) → earlier e o ≡ Some e
  earlier-keeps e x1 later = search (rules, cond-true, nat_le, Some, le-leb)

  earlier-yields : (e f : ℕ × Work T) → f.1.due < e.1.due → earlier e (Some f) ≡ Some f
  earlier-yields e f before = cond-false (nat_le e.1.due f.1.due) (Some e) (Some f) (lt-leb e.1.due f.1.due before)

  IfSome-earlier : (P : ℕ × Work T → Type 0) (e : ℕ × Work T) (o : Option (ℕ × Work T)) → P e → IfSome o P → IfSome (earlier e o) P
  IfSome-earlier x0 e x2 here rest = search (rules, cond_both, nat_le, Some, IfSome)

  -- what holds of all work holds of what comes next
  pub IfSome-next_of : (P : ℕ × Work T → Type 0) (es : List (ℕ × Work T)) → All P es → IfSome (next_of es) P
  IfSome-next_of P [] all = tt
  IfSome-next_of P (e ∷ es) all =
      IfSome-earlier P e (next_of es) (All-head P e es all) (IfSome-next_of P es (All-tail P e es all))

  -- no entry comes before this due time and ticket
  abbrev pub IsAfter : ℕ → ℕ → ℕ × Work T → Type 0
  IsAfter due ticket e = (due ≤ e.1.due) × (e.1.due ≤ due → ticket ≤ e.0)

  due_before : (due ticket : ℕ) (e : ℕ × Work T) → IsAfter due ticket e → e.0 < ticket → due < e.1.due
  due_before due ticket e after lower =
      elim (cases_lt due e.1.due) [ inl before ↦ before | inr tie ↦ absurd (omega (arith, after.1 tie)) ]

  -- work that no other comes before is what comes next
  pub next_of-first : (es : List (ℕ × Work T)) (t : ℕ) (w : Work T) → IsStrictlySortedBy nat_cmp (keys_of es)
      → lookup (nat_eq t) es ≡ Some w → All (IsAfter w.due t) es → next_of es ≡ Some (t, w)
  next_of-first [] t w ascending found after = cc
  next_of-first (e ∷ es) t w ascending found after =
      let here : IsAfter w.due t e = All-head (IsAfter w.due t) e es after in
      let rest : All (IsAfter w.due t) es = All-tail (IsAfter w.due t) e es after in
      elim (nat_eq t e.0) as (λ b. nat_eq t e.0 ≡ b → next_of (e ∷ es) ≡ Some (t, w)) [
        | true ↦ λ same.
            let number : t ≡ e.0 = eqb-true t e.0 same in
            let work : Some e.1 ≡ Some w = rw same at found in
            let is : e.1 ≡ w = cc in
            let next : next_of (e ∷ es) ≡ Some e =
            earlier-keeps e (next_of es)
            (IfSome-next_of (λ f. e.1.due ≤ f.1.due) es (All-weaker (IsAfter w.due t) (λ f. e.1.due ≤ f.1.due) (λ f later. rw is later.0) es rest)) in
            rw (number, ← is) next
        | false ↦ λ apart.
            let later : lookup (nat_eq t) es ≡ Some w = rw apart at found in
            let above : e.0 < t = above_from_lookup e.0 t w es (sorted_head nat_cmp e.0 (keys_of es) ascending) later in
            let next : next_of es ≡ Some (t, w) = next_of-first es t w (sorted_tail nat_cmp e.0 (keys_of es) ascending) later rest in
            rw next (earlier-yields e (t, w) (due_before w.due t e here above))
      ] refl

  least-step : (g : ℕ × Work T) (o : Option (ℕ × Work T)) (gs : List (ℕ × Work T)) → MatchOption o (gs ≡ []) (λ e. All (λ f. e.1.due ≤ f.1.due) gs)
      → MatchOption (earlier g o) (g ∷ gs ≡ []) (λ e. All (λ f. e.1.due ≤ f.1.due) (g ∷ gs))
  least-step g x1 gs none = search (rules, All-cons, All-nil, cases_lt, earlier-yields, earlier-keeps, Some, All-weaker)

  -- no work is due before what comes next, and where nothing comes next there is no work
  pub next_of-least : (es : List (ℕ × Work T)) → MatchOption (next_of es) (es ≡ []) (λ e. All (λ f. e.1.due ≤ f.1.due) es)
  next_of-least [] = refl
  next_of-least (g ∷ gs) = least-step g (next_of gs) gs (next_of-least gs)

  -- the due time of the place that points at what comes next
  pub least_at_place : (es : List (ℕ × Work T)) (place : ℕ × ℕ) → PointsAt es (next_of es) (Some place) → All (λ f. place.0 ≤ f.1.due) es
  least_at_place es place points = go (lookup (nat_eq place.1) es) points where
    go : (o : Option (Work T)) → IsSomeAnd o (λ w. (w.due ≡ place.0) × (next_of es ≡ Some (place.1, w))) → All (λ f. place.0 ≤ f.1.due) es
    go None points = absurd points
    go (Some w) points = rw (← points.0) (rw points.1 at (next_of-least es))

  IsNext-step : (g : ℕ × Work T) (o : Option (ℕ × Work T)) (gs : List (ℕ × Work T))
      → MatchOption o (gs ≡ []) (λ e. All (λ f. e.1.due ≤ f.1.due) gs) → IfSome o (IsNext gs) → IfSome (earlier g o) (IsNext (g ∷ gs))
  IsNext-step g None gs none next = record {
    before = [];
    after = gs;
    place = refl;
    later = All-nil (λ f. g.1.due < f.1.due);
    no_earlier = rw none (All-nil (λ f. g.1.due ≤ f.1.due));
  }
  IsNext-step g (Some e) gs least next =
      elim (cases_lt e.1.due g.1.due) [
        | inl yields ↦ rw (earlier-yields g e yields) (record {
          before = g ∷ next.before;
          after = next.after;
          place = ap (λ (es : List (ℕ × Work T)). g ∷ es) next.place;
          later = All-cons (λ f. e.1.due < f.1.due) g next.before yields next.later;
          no_earlier = next.no_earlier;
        })
        | inr keeps ↦ rw (earlier-keeps g (Some e) keeps) (record {
          before = [];
          after = gs;
          place = refl;
          later = All-nil (λ f. g.1.due < f.1.due);
          no_earlier = All-weaker (λ f. e.1.due ≤ f.1.due) (λ f. g.1.due ≤ f.1.due) (λ f later. omega arith) gs least;
        })
      ]

  -- what the definition computes is what the words say
  pub IsNext-next_of : (es : List (ℕ × Work T)) → IfSome (next_of es) (IsNext es)
  IsNext-next_of [] = tt
  IsNext-next_of (g ∷ gs) = IsNext-step g (next_of gs) gs (next_of-least gs) (IsNext-next_of gs)

  -- of two lists, the one after the other, what comes next
  abbrev earlier_of : Option (ℕ × Work T) → Option (ℕ × Work T) → Option (ℕ × Work T)
  earlier_of None o = o
  earlier_of (Some e) o = earlier e o

  earlier-earlier : (e f : ℕ × Work T) (o : Option (ℕ × Work T)) → earlier e (earlier f o) ≡ earlier_of (earlier e (Some f)) o
  earlier-earlier e f x2 = search (rules, nat_le, cond, Some, None, cases_lt, earlier-yields, earlier-keeps)

  next_of-append : (es fs : List (ℕ × Work T)) → next_of (es ++ fs) ≡ earlier_of (next_of es) (next_of fs)
  next_of-append [] fs = refl
  next_of-append (e ∷ es) fs = search (rules, Option, ℕ, None, Some, earlier-earlier, next_of-append es fs)

  nothing_left : (es : List (ℕ × Work T)) → next_of es ≡ None → es ≡ []
  nothing_left es none = rw none at (next_of-least es)

  -- the earlier of two places points at what comes next in both lists
  pub PointsAt-append : (es fs : List (ℕ × Work T)) (a b : Option (ℕ × ℕ)) → IsStrictlySortedBy nat_cmp (keys_of (es ++ fs))
      → PointsAt es (next_of es) a → PointsAt fs (next_of fs) b → PointsAt (es ++ fs) (next_of (es ++ fs)) (earlier_place a b)
  PointsAt-append es fs x2 b ascending none points = search (rules, nothing_left, append-nil, nat_eq, Option, IsSomeAnd, Some, cond, nat_le, None, next_of-append, cases_lt, earlier-yields, cond-false, lt-leb, lookup-append, lookup-not_in_front, earlier-keeps, cond-true, le-leb)

  pub IsNext-next_due : (until : ℕ) (es : List (ℕ × Work T)) → IfSome (next_due until es) (IsNext es)
  IsNext-next_due until es = search (rules, IsNext-next_of, Option, ℕ, IfSome, None, Some, cond_both, nat_le)
