-- What the worked examples share: steps that force nothing, and courses with so much room, and with more.
use Rattle.rx_script.proofs.Common.{◌≡◌, ℕ, ◌+◌, ◌≤◌, Bool, List, [], ◌∷◌, ◌++◌, Some, None, refl, ◌∙◌, arith, nothing_kept, Event, IsSettled, forced, IsLawful}
use Rattle.rx_script.proofs.Common.{IsForcedOn, stays, more, Call, outside_of, IsStepOf, first_cause, first_forced, IsLawful-push, causes, unlimited, IsReady}
use Rattle.rx_script.proofs.Common.{Answer, Accepted, Agenda, next_step, Command, command, no_steps, Step, Ware, own_cause, call_of, front_is_fresh, after}
use Rattle.rx_script.proofs.Common.{limited, in_one_order, cause_in, accepted, Progress, begin, executes, LeadsBySteps, advanced}
use Rattle.rx_event.proofs.Laws.InOrder.{settled_by_order}
use Rattle.rx_script.proofs.StepsInOneOrder.{roomy, roomy_first, outside_lawful}
use Rattle.std.proofs.Common.{rules}

-- a step with no label, that does not wait, and that none follows
abbrev pub doing : Command → Step
doing c = record { label = None; delay = None; action = command c; followers = no_steps }

-- an agenda with just these steps to come in this turn
abbrev pub turn_of : List Step → Agenda
turn_of turn = record { timeline = record { clock = 0; tickets = 0; work = [] }; turn = turn; labels = [] }

lawful_through : {h k : List Event} → IsForcedOn nothing_kept h k → IsLawful nothing_kept h → IsLawful nothing_kept k
lawful_through stays law = law
lawful_through (more {k = k} {e = e} on f) law = IsLawful-push nothing_kept k e (lawful_through on law) (forced f)

-- a call against which no cause stands, and what it forces, after which nothing comes first
pub step_to : {h : List Event} (fresh : Bool) (call : Call) {k : List Event} → IsLawful nothing_kept h → IsSettled nothing_kept h → IsReady h call
    → first_cause (unlimited (causes nothing_kept h 0 fresh call)) ≡ None
    → IsForcedOn nothing_kept (h ++ outside_of h call) k → first_forced nothing_kept k ≡ None → IsStepOf nothing_kept h call k
step_to {h} fresh call {k} law settled ready none on over = search (rules, forced, lawful_through, outside_lawful, settled_by_order)

-- a call that forces nothing
pub plain_step : (h : List Event) (fresh : Bool) (call : Call) → IsLawful nothing_kept h → IsSettled nothing_kept h → IsReady h call
    → first_cause (unlimited (causes nothing_kept h 0 fresh call)) ≡ None
    → first_forced nothing_kept (h ++ outside_of h call) ≡ None → IsStepOf nothing_kept h call (h ++ outside_of h call)
plain_step h fresh call law settled ready none over = step_to fresh call law settled ready none stays over

-- with so much room, and with more, the steps so far lead here
pub record Led (stock : List Ware) (steps : List Step) (answers : List Answer) (p : Progress) : Type 0 where
  pub least : ℕ
  pub leads : (limit : ℕ) → least ≤ limit → LeadsBySteps (limited limit) 0 (begin stock steps) answers p

pub led_on : {stock : List Ware} {steps : List Step} {answers : List Answer} {p : Progress} (c : Command) (rest : Agenda) {call : Call} {k : List Event}
    → next_step 0 p.agenda ≡ Some (doing c, rest) → own_cause p.stage c ≡ None → call_of p.stage c ≡ Some call → cause_in in_one_order p.stage call ≡ None
    → IsStepOf nothing_kept p.stage.history call k → Led stock steps answers p
    → Led stock steps (answers ++ Accepted ∷ []) (record { stage = after p.stage c k; agenda = rest })
led_on {p = p} c rest {call} {k} comes own called free step before = record {
  least = before.least + roomy p.stage.history call;
  leads = λ limit room. advanced (before.leads limit (omega arith)) (record {
    step = doing c;
    rest = rest;
    comes = comes;
    done = record { stage = after p.stage c k; agenda = rest };
    performs = executes (accepted k own called (roomy_first p.stage.history (p.stage.checked + limit) (front_is_fresh p.stage) call (omega arith) ∙ free) step);
    stage = refl;
    follows = refl;
  });
}
