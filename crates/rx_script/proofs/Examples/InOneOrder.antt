-- What the worked canonical courses share: a call after which what is forced comes in the one order, and steps that are taken in it.
use Rattle.rx_script.proofs.Common.{◌≡◌, ℕ, Bool, List, [], ◌∷◌, ◌++◌, Some, None, refl, Option, nothing_kept, Event, Refusal, IsSettled, IsLawful, Call}
use Rattle.rx_script.proofs.Common.{outside_of, first_cause, first_forced, IsFirstStep, IsLawful_nothing, first_forced_on, causes, unlimited, IsReady}
use Rattle.rx_script.proofs.Common.{settled_empty, Answer, Accepted, Refused, Book, Agenda, followed_by, next_step, Name, Command, command, StepList, Step}
use Rattle.rx_script.proofs.Common.{list_of, Ware, own_cause, call_of, after, in_one_order, cause_in, accepted, refused_by_book, Progress, begin, executes}
use Rattle.rx_script.proofs.Common.{LeadsBySteps, not_begun, advanced}
use Rattle.rx_event.specs.Canonical.{IsFirstOn}
use Rattle.rx_script.proofs.Examples.StepsThatForceNothing.{step_to}
use Rattle.std.proofs.Common.{rules}

-- a history that is lawful and settled
pub record Stands (h : List Event) : Type 0 where
  pub law : IsLawful nothing_kept h
  pub settled : IsSettled nothing_kept h

pub nothing_stands : Stands []
nothing_stands = record { law = IsLawful_nothing; settled = settled_empty nothing_kept }

-- a call against which no cause stands, and what it forces in the one order
pub ordered_to : {h : List Event} (fresh : Bool) (call : Call) (k : List Event) → Stands h → IsReady h call
    → first_cause (unlimited (causes nothing_kept h 0 fresh call)) ≡ None → IsFirstOn nothing_kept (h ++ outside_of h call) k
    → first_forced nothing_kept k ≡ None → IsFirstStep nothing_kept h (outside_of h call) k
ordered_to {h} fresh call k stands ready none ordered over = search (rules, step_to, first_forced_on)

pub stands_after : {h k : List Event} (call : Call) → IsFirstStep nothing_kept h (outside_of h call) k → Stands k
stands_after call one = record { law = one.step.lawful; settled = one.step.settled }

-- the steps so far lead here in the one order
abbrev pub Ordered : List Ware → List Step → ℕ → List Answer → Progress → Type 0
Ordered stock steps until answers p = LeadsBySteps in_one_order until (begin stock steps) answers p

pub first_of_all : (stock : List Ware) (steps : List Step) (until : ℕ) → Ordered stock steps until [] (begin stock steps)
first_of_all stock steps until = not_begun

-- and one more, whose command makes this call and is accepted
pub ordered_on : {until : ℕ} {first p : Progress} {answers : List Answer} {label : Option Name} {delay : Option ℕ} {followers : StepList} {rest : Agenda}
    {k : List Event} → LeadsBySteps in_one_order until first answers p → (c : Command) (call : Call)
    → next_step until p.agenda ≡ Some (record { label = label; delay = delay; action = command c; followers = followers }, rest)
    → own_cause p.stage c ≡ None → call_of p.stage c ≡ Some call → cause_in in_one_order p.stage call ≡ None
    → IsFirstStep nothing_kept p.stage.history (outside_of p.stage.history call) k → LeadsBySteps in_one_order until first (answers ++ Accepted ∷ []) (record {
      stage = after p.stage c k;
      agenda = followed_by Accepted (list_of followers) rest;
    })
ordered_on {p = p} {label = label} {delay = delay} {followers = followers} {rest = rest} {k = k} before c call comes own called free one =
    advanced before (record {
      step = record { label = label; delay = delay; action = command c; followers = followers };
      rest = rest;
      comes = comes;
      done = record { stage = after p.stage c k; agenda = rest };
      performs = executes (accepted k own called free one);
      stage = refl;
      follows = refl;
    })

-- and one more, whose call the book refuses
pub refused_on : {until : ℕ} {first p : Progress} {answers : List Answer} {label : Option Name} {delay : Option ℕ} {followers : StepList} {rest : Agenda}
    → LeadsBySteps in_one_order until first answers p → (c : Command) (call : Call) (why : Refusal)
    → next_step until p.agenda ≡ Some (record { label = label; delay = delay; action = command c; followers = followers }, rest)
    → own_cause p.stage c ≡ None → call_of p.stage c ≡ Some call → cause_in in_one_order p.stage call ≡ Some why
    → LeadsBySteps in_one_order until first (answers ++ Refused (Book why) ∷ []) (record {
      stage = p.stage;
      agenda = followed_by (Refused (Book why)) (list_of followers) rest;
    })
refused_on {p = p} {label = label} {delay = delay} {followers = followers} {rest = rest} before c call why comes own called stands = advanced before (record {
  step = record { label = label; delay = delay; action = command c; followers = followers };
  rest = rest;
  comes = comes;
  done = record { stage = p.stage; agenda = rest };
  performs = executes (refused_by_book own called stands);
  stage = refl;
  follows = refl;
})
