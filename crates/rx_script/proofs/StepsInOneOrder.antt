-- In the one order a call against which no cause stands is carried out, and all that waits is taken.
use Rattle.rx_script.proofs.Common.{◌≡◌, ℕ, zero, suc, ◌+◌, ◌<◌, ◌≤◌, Bool, true, false, List, [], ◌∷◌, ◌++◌, length, None, slice_get, refl, sym, ap, subst}
use Rattle.rx_script.proofs.Common.{◌∙◌, arith, append_assoc, append-nil, false_from_ne_true, ltb-true, nothing_kept, Event, Take, Refusal, places, is_waiting}
use Rattle.rx_script.proofs.Common.{waiting_resources, waiting_count, debt, IsSettled, MayFollow, IsLawful, stays, first_cause, Call, Applying, Taking}
use Rattle.rx_script.proofs.Common.{outside_of, IsStepOf, IsFirstStep, nothing_yet, IsLawful-push, lawful_begun, lawful_last, first_forced_on, TakesOn}
use Rattle.rx_script.proofs.Common.{takes_none, takes_one, is_over, added_by, causes, unlimited, IsReady, Takes, none_taken, next_taken, DrainsInOrder}
use Rattle.rx_script.proofs.Common.{nothing_left, least_taken}
use Rattle.rx_event.specs.Allowed.{taken}
use Rattle.rx_event.specs.Lawful.{allowed}
use Rattle.rx_event.proofs.Laws.Lists.{first_passes}
use Rattle.rx_event.proofs.Laws.Totals.{waiting_count-take}
use Rattle.rx_event.proofs.Laws.Calm.{closes_none_kept, settled_on, unforced}
use Rattle.rx_event.proofs.Laws.Finishes.{finishes, finish_settled}
use Rattle.rx_register.specs.Claims.{MayFollowInTurn}
use Rattle.rx_register.proofs.Laws.Calls.{call_follows}
use Rattle.rx_script.proofs.LeasesOut.{nothing_before}
use Rattle.std.proofs.Common.{rules}

-- calls ------------------------------------------------------------------------------------------------------------------------------

-- a limit that the call does not pass
abbrev pub roomy : List Event → Call → ℕ
roomy h call = length h + debt nothing_kept h + added_by h call

none_over : (h : List Event) (limit more : ℕ) → length h + debt nothing_kept h + more ≤ limit → is_over nothing_kept h limit more ≡ false
none_over h limit more room = search (rules, false_from_ne_true, ltb-true, length)

pub roomy_cause : (h : List Event) (limit : ℕ) (fresh : Bool) (call : Call) → roomy h call ≤ limit → (why : Refusal)
    → causes nothing_kept h limit fresh call why ≡ unlimited (causes nothing_kept h 0 fresh call) why
roomy_cause h limit fresh x3 room x5 = search (rules, none_over, Applying)

-- so with room enough the first cause is the one that stands with no limit
pub roomy_first : (h : List Event) (limit : ℕ) (fresh : Bool) (call : Call) → roomy h call ≤ limit
    → first_cause (causes nothing_kept h limit fresh call) ≡ first_cause (unlimited (causes nothing_kept h 0 fresh call))
roomy_first h limit fresh call room = λ i. first_cause (λ why. roomy_cause h limit fresh call room why i)

lawful_in_turn : (h es : List Event) → IsLawful nothing_kept h → MayFollowInTurn nothing_kept h es → IsLawful nothing_kept (h ++ es)
lawful_in_turn h [] law next = subst (IsLawful nothing_kept) (sym (append-nil h)) law
lawful_in_turn h (e ∷ es) law next =
    subst (IsLawful nothing_kept) (append_assoc h (e ∷ []) es) (lawful_in_turn (h ++ e ∷ []) es (IsLawful-push nothing_kept h e law next.0) next.1)

-- the events of a call against which no cause stands may come
pub outside_lawful : (h : List Event) (fresh : Bool) (call : Call) → IsLawful nothing_kept h → IsSettled nothing_kept h → IsReady h call
    → first_cause (unlimited (causes nothing_kept h 0 fresh call)) ≡ None → IsLawful nothing_kept (h ++ outside_of h call)
outside_lawful h fresh call law settled ready none = lawful_in_turn h (outside_of h call) law (call_follows nothing_kept h (roomy h call) fresh call (record {
  lawful = law;
  settled = settled;
  no_cause = roomy_first h (roomy h call) fresh call (omega arith) ∙ none;
  ready = ready;
}))

pub record FirstStep (h outside : List Event) : Type 0 where
  pub last : List Event
  pub step : IsFirstStep nothing_kept h outside last

-- and it is carried out in the one order
pub ordered_step : (h : List Event) (fresh : Bool) (call : Call) → IsLawful nothing_kept h → IsSettled nothing_kept h → IsReady h call
    → first_cause (unlimited (causes nothing_kept h 0 fresh call)) ≡ None → FirstStep h (outside_of h call)
ordered_step h fresh call law settled ready none =
    let w = finishes nothing_kept (h ++ outside_of h call) (outside_lawful h fresh call law settled ready none) in
    record {
      last = w.last;
      step = record {
        step = record { forced = first_forced_on nothing_kept w.ordered; lawful = w.law; settled = finish_settled nothing_kept w.last w.over };
        ordered = w.ordered;
      };
    }

-- drains -----------------------------------------------------------------------------------------------------------------------------

-- a taking forces nothing
pub settled_take : (h : List Event) (q : ℕ) → IsLawful nothing_kept h → MayFollow nothing_kept h (Take q)
    → IsSettled nothing_kept h → IsSettled nothing_kept (h ++ Take q ∷ [])
settled_take h q law next settled = settled_on law next settled refl (λ n. refl) (closes_none_kept h (Take q) refl) refl

may_take_on : {h k : List Event} {q : ℕ} → IsStepOf nothing_kept h (Taking q) k → MayFollow nothing_kept h (Take q)
may_take_on {h = h} {q = q} step = search (rules, lawful_last, nothing_before, lawful_begun)

taken_alone : {h k : List Event} {q : ℕ} → IsLawful nothing_kept h → IsSettled nothing_kept h → IsStepOf nothing_kept h (Taking q) k → k ≡ h ++ Take q ∷ []
taken_alone {h = h} {q = q} law settled step = unforced nothing_kept step.forced (settled_take h q law (may_take_on step) settled)

pub record Drained (h k : List Event) : Type 0 where
  pub takes : TakesOn nothing_kept h k
  pub law : IsLawful nothing_kept k
  pub settled : IsSettled nothing_kept k

pub takes_drained : {h k : List Event} → IsLawful nothing_kept h → IsSettled nothing_kept h → Takes nothing_kept h k → Drained h k
takes_drained law settled none_taken = record { takes = takes_none; law = law; settled = settled }
takes_drained {h = h} {k = k} law settled (next_taken {m = m} {r = q} before step) =
    let d = takes_drained law settled before in
    let next = may_take_on step in
    record {
      takes = subst (λ (x : List Event). TakesOn nothing_kept h x) (sym (taken_alone d.law d.settled step)) (takes_one d.takes next);
      law = step.lawful;
      settled = step.settled;
    }

takes_before : {h : List Event} {q : ℕ} {k : List Event} → MayFollow nothing_kept h (Take q)
    → TakesOn nothing_kept (h ++ Take q ∷ []) k → TakesOn nothing_kept h k
takes_before next takes_none = takes_one takes_none next
takes_before next (takes_one on then) = takes_one (takes_before next on) then

pub record OrderedDrain (h : List Event) : Type 0 where
  pub last : List Event
  pub drains : DrainsInOrder h last
  pub drained : Drained h last
  pub none : waiting_resources last ≡ []

take_one : (h : List Event) (q : ℕ) → IsLawful nothing_kept h → IsSettled nothing_kept h
    → MayFollow nothing_kept h (Take q) → IsFirstStep nothing_kept h (Take q ∷ []) (h ++ Take q ∷ [])
take_one h q law settled next = record {
  step = record { forced = stays; lawful = IsLawful-push nothing_kept h (Take q) law next; settled = settled_take h q law next settled };
  ordered = nothing_yet;
}

-- what waits can be taken in order
drain_on : (steps : ℕ) (h : List Event) → IsLawful nothing_kept h → IsSettled nothing_kept h → waiting_count h < steps → OrderedDrain h
drain_on zero h law settled few = absurd (omega arith)
drain_on (suc steps) h law settled few = by_list (waiting_resources h) refl
    (λ q law next less. drain_on steps (h ++ Take q ∷ []) law next (let a = less in let l = few in omega arith)) where
      by_list : (ns : List ℕ) → waiting_resources h ≡ ns → ((q : ℕ) → IsLawful nothing_kept (h ++ Take q ∷ [])
          → IsSettled nothing_kept (h ++ Take q ∷ []) → waiting_count (h ++ Take q ∷ []) + 1 ≡ waiting_count h
          → OrderedDrain (h ++ Take q ∷ [])) → OrderedDrain h
      by_list [] none rest = record { last = h; drains = nothing_left none; drained = record { takes = takes_none; law = law; settled = settled }; none = none }
      by_list (q ∷ ns) some rest =
          let waits : is_waiting h q ≡ true = first_passes (is_waiting h) (places h) q ns some in
          let next : MayFollow nothing_kept h (Take q) = allowed settled (taken waits) in
          let o = rest q (IsLawful-push nothing_kept h (Take q) law next) (settled_take h q law next settled) (waiting_count-take nothing_kept h q law next) in
          record {
            last = o.last;
            drains = least_taken (ap (λ (l : List ℕ). slice_get l 0) some) (take_one h q law settled next) o.drains;
            drained = record { takes = takes_before next o.drained.takes; law = o.drained.law; settled = o.drained.settled };
            none = o.none;
          }

pub ordered_drain : (h : List Event) → IsLawful nothing_kept h → IsSettled nothing_kept h → OrderedDrain h
ordered_drain h law settled = drain_on (suc (waiting_count h)) h law settled (omega arith)
