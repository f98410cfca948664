-- Each scenario with a stock has a canonical course, and so just one.
use Rattle.rx_script.proofs.Common.{◌≡◌, ◌⊎◌, inl, inr, ℕ, zero, suc, ◌<◌, List, [], ◌∷◌, ◌++◌, Option, Some, None, refl, sym, ap, subst, ◌∙◌, arith}
use Rattle.rx_script.proofs.Common.{append_assoc, append-nil, option_and_then, nothing_kept, IsSettled, IsLawful, Refusal, Call, outside_of, IsLawful_nothing}
use Rattle.rx_script.proofs.Common.{settled_empty, Answer, Accepted, Refused, Cause, Book, bound, Agenda, empty_agenda, with_steps, followed_by, next_step}
use Rattle.rx_script.proofs.Common.{Cancels, taken_off, none_waits, Name, Command, drain, checkpoint, Action, command, cancel, Step, list_of, Script, Ware}
use Rattle.rx_script.proofs.Common.{Stage, own_cause, call_of, front_is_fresh, after, in_one_order, cause_in, Executes, refused, refused_by_book, accepted}
use Rattle.rx_script.proofs.Common.{drained, checkpointed, Course, IsCanonicalCourseOf, HasOneCourse, Progress, begin, PerformsStep, executes, cancels}
use Rattle.rx_script.proofs.Common.{Advances}
use Rattle.rx_script.proofs.Common.{LeadsBySteps, not_begun, advanced, Ends}
use Rattle.rx_time.specs.Schedule.{item_of}
use Rattle.rx_agenda.specs.declared.answer.Cause.TheVariants.{NoStep}
use Rattle.rx_agenda.specs.Agenda.{without_ticket}
use Rattle.rx_script.proofs.CoursesInOrder.{course_in_order}
use Rattle.rx_script.proofs.CallsOfSteps.{call_ready, not_called, history-after}
use Rattle.rx_script.proofs.StepsInOneOrder.{FirstStep, ordered_step, OrderedDrain, ordered_drain}
use Rattle.rx_script.proofs.OneCourse.{one_canonical_course}
use Rattle.rx_script.proofs.StepsToCome.{to_come, IsOrderly, IsLeft, IsNoMore, empty-orderly, with_steps-orderly, followed-total, followed-orderly, next_left}
use Rattle.rx_script.proofs.StepsToCome.{cancelled_left}
use Rattle.std.proofs.Common.{rules}

-- a command --------------------------------------------------------------------------------------------------------------------------

record IsExecuted (s : Stage) (step : Command) : Type 0 where
  pub answer : Answer
  pub last : Stage
  pub done : Executes in_one_order s step answer last
  pub law : IsLawful nothing_kept last.history
  pub settled : IsSettled nothing_kept last.history

module _ (s : Stage) (law : IsLawful nothing_kept s.history) (settled : IsSettled nothing_kept s.history) where
  is_refused : (step : Command) (why : Cause) → Executes in_one_order s step (Refused why) s → IsExecuted s step
  is_refused step why done = record { answer = Refused why; last = s; done = done; law = law; settled = settled }

  is_accepted : (step : Command) (call : Call) → own_cause s step ≡ None → call_of s step ≡ Some call → cause_in in_one_order s call ≡ None → IsExecuted s step
  is_accepted step call own called free = record {
    answer = Accepted;
    last = after s step w.last;
    done = accepted w.last own called free w.step;
    law = subst (IsLawful nothing_kept) (sym (history-after s step w.last)) w.step.step.lawful;
    settled = subst (IsSettled nothing_kept) (sym (history-after s step w.last)) w.step.step.settled;
  } where
    w : FirstStep s.history (outside_of s.history call)
    w = ordered_step s.history (front_is_fresh s) call law settled (call_ready s step call called) free

  is_drained : IsExecuted s drain
  is_drained =
      let w : OrderedDrain s.history = ordered_drain s.history law settled in
      record { answer = Accepted; last = after s drain w.last; done = drained w.drains; law = w.drained.law; settled = w.drained.settled }

  is_checked : IsExecuted s checkpoint
  is_checked = record { answer = Accepted; last = after s checkpoint s.history; done = checkpointed; law = law; settled = settled }

  is_executed : (step : Command) → IsExecuted s step
  is_executed step = by_own (own_cause s step) refl where
    by_step : (step ≡ drain) ⊎ (step ≡ checkpoint) → IsExecuted s step
    by_step (inl is) = subst (IsExecuted s) (sym is) is_drained
    by_step (inr is) = subst (IsExecuted s) (sym is) is_checked

    by_cause : (call : Call) → own_cause s step ≡ None → call_of s step ≡ Some call → (o : Option Refusal) → cause_in in_one_order s call ≡ o
        → IsExecuted s step
    by_cause call own called (Some why) stands = is_refused step (Book why) (refused_by_book own called stands)
    by_cause call own called None free = is_accepted step call own called free

    by_call : own_cause s step ≡ None → (o : Option Call) → call_of s step ≡ o → IsExecuted s step
    by_call own None uncalled = by_step (not_called s step own uncalled)
    by_call own (Some call) called = by_cause call own called (cause_in in_one_order s call) refl

    by_own : (o : Option Cause) → own_cause s step ≡ o → IsExecuted s step
    by_own (Some why) own = is_refused step why (refused own)
    by_own None own = by_call own (call_of s step) refl

-- a step -----------------------------------------------------------------------------------------------------------------------------

record IsCancelled (a : Agenda) (label : Name) : Type 0 where
  pub answer : Answer
  pub rest : Agenda
  pub done : Cancels a label answer rest

is_cancelled : (a : Agenda) (label : Name) → IsCancelled a label
is_cancelled a label = by_ticket (bound a.labels label) refl where
  by_item : (ticket : ℕ) → bound a.labels label ≡ Some ticket → (o : Option Step) → item_of ticket a.timeline.work ≡ o → IsCancelled a label
  by_item ticket named (Some s) waits = record { answer = Accepted; rest = without_ticket ticket a; done = taken_off named waits }
  by_item ticket named None gone =
      record { answer = Refused NoStep; rest = a; done = none_waits (ap (option_and_then (λ (n : ℕ). item_of n a.timeline.work)) named ∙ gone) }

  by_ticket : (o : Option ℕ) → bound a.labels label ≡ o → IsCancelled a label
  by_ticket None unnamed = record { answer = Refused NoStep; rest = a; done = none_waits (ap (option_and_then (λ (n : ℕ). item_of n a.timeline.work)) unnamed) }
  by_ticket (Some ticket) named = by_item ticket named (item_of ticket a.timeline.work) refl

record IsPerformed (p : Progress) (action : Action) : Type 0 where
  pub answer : Answer
  pub done : Progress
  pub performs : PerformsStep in_one_order p action answer done
  pub law : IsLawful nothing_kept done.stage.history
  pub settled : IsSettled nothing_kept done.stage.history
  pub left : IsNoMore p.agenda done.agenda

is_performed : (p : Progress) → IsLawful nothing_kept p.stage.history
    → IsSettled nothing_kept p.stage.history → IsOrderly p.agenda → (action : Action) → IsPerformed p action
is_performed p law settled orderly (command c) =
    let w = is_executed p.stage law settled c in
    record {
      answer = w.answer;
      done = record { stage = w.last; agenda = p.agenda };
      performs = executes w.done;
      law = w.law;
      settled = w.settled;
      left = record { few = omega arith; orderly = orderly };
    }
is_performed p law settled orderly (cancel label) =
    let w = is_cancelled p.agenda label in
    record {
      answer = w.answer;
      done = record { stage = p.stage; agenda = w.rest };
      performs = cancels w.done;
      law = law;
      settled = settled;
      left = cancelled_left orderly w.done;
    }

-- one step after another -------------------------------------------------------------------------------------------------------------

-- what comes of p until nothing comes next
data GoesOn (until : ℕ) : Progress → List Answer → Stage → Type 0 where
  halts : {p : Progress} → next_step until p.agenda ≡ None → GoesOn until p [] p.stage
  goes : {p q : Progress} {answer : Answer} {answers : List Answer} {last : Stage}
      → Advances in_one_order until p answer q → GoesOn until q answers last → GoesOn until p (answer ∷ answers) last

record IsGone (until : ℕ) (p : Progress) : Type 0 where
  pub answers : List Answer
  pub last : Stage
  pub goes_on : GoesOn until p answers last

go_far : (until steps : ℕ) (p : Progress) → IsLawful nothing_kept p.stage.history
    → IsSettled nothing_kept p.stage.history → IsOrderly p.agenda → to_come p.agenda < steps → IsGone until p
go_far until zero p law settled orderly few = absurd (omega arith)
go_far until (suc steps) p law settled orderly few = by_next (next_step until p.agenda) refl
    (λ q one also in_order less. go_far until steps q one also in_order (let a = less in let b = few in omega arith)) where
      by_next : (o : Option (Step × Agenda)) → next_step until p.agenda ≡ o
          → ((q : Progress) → IsLawful nothing_kept q.stage.history → IsSettled nothing_kept q.stage.history
          → IsOrderly q.agenda → to_come q.agenda < to_come p.agenda → IsGone until q) → IsGone until p
      by_next None over on = record { answers = []; last = p.stage; goes_on = halts over }
      by_next (Some (step, rest)) comes on = record { answers = w.answer ∷ beyond.answers; last = beyond.last; goes_on = goes advances beyond.goes_on } where
        left : IsLeft p.agenda step rest
        left = next_left until p.agenda step rest orderly comes

        w : IsPerformed (record { stage = p.stage; agenda = rest }) step.action
        w = is_performed (record { stage = p.stage; agenda = rest }) law settled left.orderly step.action

        q : Progress
        q = record { stage = w.done.stage; agenda = followed_by w.answer (list_of step.followers) w.done.agenda }

        advances : Advances in_one_order until p w.answer q
        advances = record { step = step; rest = rest; comes = comes; done = w.done; performs = w.performs; stage = refl; follows = refl }

        less : to_come (followed_by w.answer (list_of step.followers) w.done.agenda) < to_come p.agenda
        less = let joined = followed-total w.answer step w.done.agenda in let gone = left.less in let few = w.left.few in omega arith

        beyond : IsGone until q
        beyond = on q w.law w.settled (followed-orderly w.answer (list_of step.followers) w.done.agenda w.left.orderly) less

-- the same course, as it grows
led_on : {until : ℕ} {first p : Progress} {answers rest : List Answer} {last : Stage} → LeadsBySteps in_one_order until first answers p
    → GoesOn until p rest last
    → Ends in_one_order until first (answers ++ rest) last
led_on {until = until} {first = first} {p = p} {answers = answers} leads (halts over) = search (rules, Answer, in_one_order, append-nil)
led_on {until = until} {first = first} {answers = answers} {last = last} leads (goes {answer = answer} {answers = rest} step on) =
    subst (λ (l : List Answer). Ends in_one_order until first l last) (append_assoc answers (answer ∷ []) rest) (led_on (advanced leads step) on)

-- Each scenario with a stock has just one canonical course
pub one_course : (script : Script) (stock : List Ware) → HasOneCourse script stock
one_course script stock = record {
  course = found;
  canonical = canonical;
  only = λ other also. one_canonical_course script stock other found also canonical;
} where
  w : IsGone script.until (begin stock script.steps)
  w = go_far script.until (suc (to_come (with_steps script.steps empty_agenda))) (begin stock script.steps) IsLawful_nothing (settled_empty nothing_kept)
      (with_steps-orderly script.steps empty_agenda empty-orderly) (omega arith)

  found : Course
  found = record { answers = w.answers; last = w.last }

  canonical : IsCanonicalCourseOf script stock found
  canonical = course_in_order in_one_order script stock w.answers w.last (led_on not_begun w.goes_on)
