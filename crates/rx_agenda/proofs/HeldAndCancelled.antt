-- The executed steps so far are in order, and so they are after one more.
use Rattle.rx_agenda.proofs.Common.{◌≡◌, ◌<◌, ◌≤◌, ◌+◌, ℕ, List, [], ◌∷◌, ◌++◌, length, sym, ap, subst, ◌∙◌, inl, inr, arith, ◌⊎◌, Some, slice_get}
use Rattle.rx_agenda.proofs.Common.{slice_get_within, Name, Command, command, cancel, Step, list_of, Answer, Accepted, Origin, Turn, PlacedStep, Executed}
use Rattle.rx_agenda.proofs.Common.{IsScheduledBefore, ComesBefore, placed_at, held_by, IsHeld, by_scenario, by_step, WaitsUnder, IsCancelled, IsStepDue}
use Rattle.rx_agenda.proofs.Common.{IsExecuted, WaitsAt, IsCancelAnswered, one_waits, no_step_waits, AreCancelsAnswered}
use Rattle.rx_agenda.specs.Order.{IsMeant}
use Rattle.rx_agenda.proofs.Members.{get_push, get_old, get_last}
use Rattle.rx_agenda.proofs.PlacedSteps.{PlacedAgenda, IsPending, IsWithin, Takes}
use Rattle.rx_agenda.proofs.EntriesRise.{FirstOf, IsReady}
use Rattle.rx_agenda.proofs.StepsJoin.{IsOneOf, IsReadyAt, one_of_get, get_one_of}
use Rattle.rx_agenda.proofs.LeastStepLeaves.{TakesWell, takes_well, Says}
use Rattle.std.proofs.Common.{rules}

-- it is what this step, with this answer, takes off
pub record IsTakenBy (Ever : PlacedStep → Type 0) (s : Step) (answer : Answer) (y : PlacedStep) : Type 0 where
  pub label : Name
  pub cancels : s.action ≡ cancel label
  pub accepted : answer ≡ Accepted
  pub waits : WaitsUnder label y
  pub first : FirstOf Ever label y.origin

-- what is to come after a step's action
pub record ActsWell (Ever : PlacedStep → Type 0) (now : Turn) (next : Origin) (g : PlacedAgenda) (s : Step) (answer : Answer)
    (left : PlacedAgenda) : Type 0 where
  pub ready : IsReady Ever now next left
  pub from : IsWithin left g
  pub gone : (y : PlacedStep) → IsPending g y → IsPending left y ⊎ IsTakenBy Ever s answer y
  pub kept : (y : PlacedStep) → IsPending left y → ¬ IsTakenBy Ever s answer y
  pub says : (label : Name) → s.action ≡ cancel label → Says Ever g label answer

module _ (Ever : PlacedStep → Type 0) (now : Turn) (next : Origin) (g : PlacedAgenda) (s : Step) (answer : Answer) (r : IsReady Ever now next g) where
  pub command_well : (c : Command) → s.action ≡ command c → ActsWell Ever now next g s answer g
  command_well c is = record {
    ready = r;
    from = λ y at. at;
    gone = λ y at. inl at;
    kept = λ y at taken. let other : command c ≡ cancel taken.label = sym is ∙ taken.cancels in absurd (cc);
    says = λ label cancels. let other : command c ≡ cancel label = sym is ∙ cancels in absurd (cc);
  }

  pub cancel_well : (label : Name) (left : PlacedAgenda) → s.action ≡ cancel label → ((y : PlacedStep) → IsPending g y → Ever y) → Takes g label answer left
      → ActsWell Ever now next g s answer left
  cancel_well label left is ever taking =
      let t : TakesWell Ever 0 now next g r label answer left = takes_well Ever 0 now next g r label ever answer left taking in
      record {
        ready = t.ready;
        from = t.from;
        gone = λ y at. elim (t.gone y at) [
          | inl stays ↦ inl stays
          | inr taken ↦ inr (record { label = label; cancels = is; accepted = taken.0; waits = taken.1; first = taken.2 })
        ];
        kept = λ y at taken.
            let one : cancel label ≡ cancel taken.label = sym is ∙ taken.cancels in
            let same : taken.label ≡ label = cc in
            t.kept y at (taken.accepted, subst (λ (l : Name). WaitsUnder l y) same taken.waits, subst (λ (l : Name). FirstOf Ever l y.origin) same taken.first);
        says = λ other cancels.
            let one : cancel label ≡ cancel other = sym is ∙ cancels in
            let same : label ≡ other = cc in
            subst (λ (l : Name). Says Ever g l answer) same t.says;
      }

-- the invariant ------------------------------------------------------------------------------------

pub record IsSoFar (steps : List Step) (until : ℕ) (es : List Executed) (g : PlacedAgenda) (now : Turn) : Type 0 where
  pub at : IsReadyAt (IsHeld steps es) now (length es) g
  pub held : (x : PlacedStep) → IsPending g x → IsHeld steps es x
  pub after : (k : ℕ) (e : Executed) (x : PlacedStep) → slice_get es k ≡ Some e → IsPending g x → ComesBefore e.placed x
  pub alive : (x : PlacedStep) → IsPending g x → ¬ IsCancelled steps es x
  pub complete : (x : PlacedStep) → IsHeld steps es x → IsExecuted es x ⊎ (IsPending g x ⊎ IsCancelled steps es x)
  pub in_order : (i j : ℕ) (x y : Executed) → i < j → slice_get es i ≡ Some x → slice_get es j ≡ Some y → ComesBefore x.placed y.placed
  pub behind_holder : (i : ℕ) (x : Executed) → slice_get es i ≡ Some x → x.placed.origin.holder ≤ i
  pub only_due : (x : PlacedStep) → IsExecuted es x → IsStepDue steps until es x
  pub cancels : AreCancelsAnswered steps es
  pub within : now.moment ≤ until

-- what is held, before and after one more ----------------------------------------------------------

module _ (steps : List Step) (es : List Executed) where
  pub held_holder : (y : PlacedStep) → IsHeld steps es y → y.origin.holder ≤ length es
  held_holder y x1 = search (rules, length, slice_get_within)

  module _ (e : Executed) where
    pub held_more : (y : PlacedStep) → IsHeld steps es y → IsHeld steps (es ++ e ∷ []) y
    held_more y (by_scenario i s got) = by_scenario i s got
    held_more y (by_step k i f s there accepted got) = by_step k i f s (get_old es e f k there) accepted got

    pub held_cases : (y : PlacedStep) → IsHeld steps (es ++ e ∷ []) y
        → IsHeld steps es y ⊎ ((e.answer ≡ Accepted) × IsOneOf e.placed.turn (length es + 1) 0 (list_of e.placed.step.followers) y)
    held_cases y (by_scenario i s got) = inl (by_scenario i s got)
    held_cases y (by_step k i f s there accepted got) = elim (get_push es e f k there) [
      | inl old ↦ inl (by_step k i f s old accepted got)
      | inr new ↦ inr (ap (λ (x : Executed). x.answer) new.1 ∙ accepted, one f new.1 got k new.0)
    ] where
      one : (f : Executed) → e ≡ f → slice_get (list_of f.placed.step.followers) i ≡ Some s → (k : ℕ) → k ≡ length es
          → IsOneOf e.placed.turn (length es + 1) 0 (list_of e.placed.step.followers) (placed_at f.placed.turn (held_by (k + 1) i) s)
      one f same got k last =
          let plain : 0 + i ≡ i = omega arith in
          let got_here : slice_get (list_of e.placed.step.followers) i ≡ Some s = subst
          (λ (x : Executed). slice_get (list_of x.placed.step.followers) i ≡ Some s) (sym same) got in
          let here : IsOneOf e.placed.turn (length es + 1) 0 (list_of e.placed.step.followers) (placed_at e.placed.turn (held_by (length es + 1) (0 + i)) s) =
          one_of_get e.placed.turn (length es + 1) 0 i (list_of e.placed.step.followers) s got_here in
          let numbered : held_by (length es + 1) (0 + i) ≡ held_by (k + 1) i = λ j. held_by (sym last j + 1) (plain j) in
          let moved : placed_at e.placed.turn (held_by (length es + 1) (0 + i)) s ≡ placed_at f.placed.turn (held_by (k + 1) i) s = λ j. placed_at
          (same j).placed.turn (numbered j) s in
          subst (IsOneOf e.placed.turn (length es + 1) 0 (list_of e.placed.step.followers)) moved here

    pub one_held : e.answer ≡ Accepted → (y : PlacedStep) → IsOneOf e.placed.turn (length es + 1) 0 (list_of e.placed.step.followers) y → IsHeld steps
        (es ++ e ∷ []) y
    one_held accepted y one =
        let at = get_one_of e.placed.turn (length es + 1) 0 (list_of e.placed.step.followers) y one in
        let plain : at.place ≡ 0 + at.place = omega arith in
        let is : placed_at e.placed.turn (held_by (length es + 1) at.place) at.step ≡ y = ap
        (λ (n : ℕ). placed_at e.placed.turn (held_by (length es + 1) n) at.step) plain ∙ at.is in
        subst (IsHeld steps (es ++ e ∷ [])) is (by_step (length es) at.place e at.step (get_last es e) accepted at.got)

    pub one_holder : (y : PlacedStep) → IsOneOf e.placed.turn (length es + 1) 0 (list_of e.placed.step.followers) y → y.origin.holder ≡ length es + 1
    one_holder y one = sym (ap (λ (x : PlacedStep). x.origin.holder) (get_one_of e.placed.turn (length es + 1) 0 (list_of e.placed.step.followers) y one).is)

    -- what a label means, before and after
    pub no_joiner : (z y : PlacedStep) (number : ℕ) → y.origin.holder ≤ number → number ≤ length es → IsOneOf e.placed.turn (length es + 1) 0
        (list_of e.placed.step.followers) z
        → ¬ IsScheduledBefore z.origin y.origin
    no_joiner z y number scheduled below one lower =
        let holder : z.origin.holder ≡ length es + 1 = one_holder z one in
        elim lower [ inl less ↦ absurd (omega arith) | inr same ↦ let tie : z.origin.holder ≡ y.origin.holder = same.0 in absurd (omega arith) ]

    abbrev pub meant_more : (label : Name) (number : ℕ) (by : Executed) (y : PlacedStep) → number ≤ length es → IsMeant steps es label number by y
        → IsMeant steps (es ++ e ∷ []) label number by y
    meant_more label number by y below m = record {
      waits = m.waits;
      scheduled = m.scheduled;
      to_come = m.to_come;
      first = λ z held waits. elim (held_cases z held) [ inl old ↦ m.first z old waits | inr new ↦ no_joiner z y number m.scheduled below new.1 ];
    }

    abbrev pub meant_less : (label : Name) (number : ℕ) (by : Executed) (y : PlacedStep) → IsMeant steps (es ++ e ∷ []) label number by y
        → IsMeant steps es label number by y
    meant_less label number by y m = record {
      waits = m.waits;
      scheduled = m.scheduled;
      to_come = m.to_come;
      first = λ z held waits. m.first z
          (held_more z held) waits;
    }

    -- what is cancelled, before and after
    pub within_old : (k : ℕ) (f : Executed) → slice_get es k ≡ Some f → k ≤ length es
    within_old k f there = let below : k < length es = slice_get_within es k f there in omega arith

    abbrev pub cancelled_more : (y : PlacedStep) → IsCancelled steps es y → IsCancelled steps (es ++ e ∷ []) y
    cancelled_more y c = record {
      number = c.number;
      by = c.by;
      label = c.label;
      there = get_old es e c.by c.number c.there;
      cancels = c.cancels;
      accepted = c.accepted;
      meant = meant_more c.label c.number c.by y (within_old c.number c.by c.there) c.meant;
    }

    abbrev pub cancelled_before : (y : PlacedStep) (c : IsCancelled steps (es ++ e ∷ []) y) → slice_get es c.number ≡ Some c.by → IsCancelled steps es y
    cancelled_before y c there = record {
      number = c.number;
      by = c.by;
      label = c.label;
      there = there;
      cancels = c.cancels;
      accepted = c.accepted;
      meant = meant_less c.label c.number c.by y c.meant;
    }

    pub cancelled_cases : (y : PlacedStep) → IsCancelled steps (es ++ e ∷ []) y
        → IsCancelled steps es y ⊎ ((IsTakenBy (IsHeld steps es) e.placed.step e.answer y) × ComesBefore e.placed y × (y.origin.holder ≤ length es))
    cancelled_cases y c = elim (get_push es e c.by c.number c.there) [
      | inl old ↦ inl (cancelled_before y c old)
      | inr new ↦
          let same : e ≡ c.by = new.1 in
          let last : c.number ≡ length es = new.0 in
          let scheduled : y.origin.holder ≤ c.number = c.meant.scheduled in
          inr (
            record {
              label = c.label;
              cancels = ap (λ (x : Executed). x.placed.step.action) same ∙ c.cancels;
              accepted = ap (λ (x : Executed). x.answer) same ∙ c.accepted;
              waits = c.meant.waits;
              first = λ z held waits. c.meant.first z (held_more z held) waits;
            },
            subst (λ (x : Executed). ComesBefore x.placed y) (sym same) c.meant.to_come,
            omega arith,
          )
    ]

    -- what the new step means
    pub meant_now : (label : Name) (y : PlacedStep) → WaitsUnder label y → FirstOf (IsHeld steps es) label y.origin → IsHeld steps es y → ComesBefore e.placed y
        → IsMeant steps (es ++ e ∷ []) label (length es) e y
    meant_now label y waits first held before = record {
      waits = waits;
      scheduled = held_holder y held;
      to_come = before;
      first = λ z held_then waits_too. elim (held_cases z held_then) [
        | inl old ↦ first z old waits_too
        | inr new ↦ no_joiner z y (length es) (held_holder y held) (omega arith) new.1
      ];
    }

    pub taken_cancelled : (y : PlacedStep) → IsTakenBy (IsHeld steps es) e.placed.step e.answer y → IsHeld steps es y → ComesBefore e.placed y
        → IsCancelled steps (es ++ e ∷ []) y
    taken_cancelled y t held before = record {
      number = length es;
      by = e;
      label = t.label;
      there = get_last es e;
      cancels = t.cancels;
      accepted = t.accepted;
      meant = meant_now t.label y t.waits t.first held before;
    }

    -- what earlier cancels were answered stays right
    waits_more : (label : Name) (i : ℕ) (x : Executed) → i < length es → WaitsAt steps es label i x → WaitsAt steps (es ++ e ∷ []) label i x
    waits_more label i x below w = record {
      placed = w.placed;
      held = held_more w.placed w.held;
      meant = meant_more label i x w.placed (omega arith) w.meant;
      not_cancelled = λ c sooner. elim (get_push es e c.by c.number c.there) [
        | inl old ↦ w.not_cancelled (cancelled_before w.placed c old) sooner
        | inr new ↦ let last : c.number ≡ length es = new.0 in absurd (omega arith)
      ];
    }

    waits_less : (label : Name) (i : ℕ) (x : Executed) → i < length es → WaitsAt steps (es ++ e ∷ []) label i x → WaitsAt steps es label i x
    waits_less label i x below w = record {
      placed = w.placed;
      held = elim (held_cases w.placed w.held) [
        | inl old ↦ old
        | inr new ↦
            let holder : w.placed.origin.holder ≡ length es + 1 = one_holder w.placed new.1 in
            let scheduled : w.placed.origin.holder ≤ i = w.meant.scheduled in
            absurd (omega arith)
      ];
      meant = meant_less label i x w.placed w.meant;
      not_cancelled = λ c sooner. w.not_cancelled (cancelled_more w.placed c) sooner;
    }

    pub answered_more : (label : Name) (i : ℕ) (x : Executed) → i < length es → (answer : Answer) → IsCancelAnswered steps es label i x answer
        → IsCancelAnswered steps (es ++ e ∷ []) label i x answer
    answered_more label i x below answer (one_waits w) = one_waits (waits_more label i x below w)
    answered_more label i x below answer (no_step_waits none) = no_step_waits (λ w. none (waits_less label i x below w))
