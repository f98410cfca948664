-- One more step of a course.
use Rattle.rx_script.proofs.Common.{◌≡◌, ◌≤◌, ◌+◌, ◌++◌, ◌∷◌, [], ℕ, List, length, map, string_bytes, String, Global, refl, sym, ap, subst, ◌∙◌, arith, Result, inl}
use Rattle.rx_script.proofs.Common.{IfOk, Some, None, Event, step_of, list_of, list_of-steps_of, Answer, Engine, Cancels, followed_by, next_step}
use Rattle.rx_script.proofs.Common.{limited, PerformsStep, executes, cancels, Advances, LeadsBySteps, not_begun, advanced, Ends, stage_of, MovesOn, IsSound}
use Rattle.rx_script.proofs.Common.{CarriesStep}
use Rattle.rx_script.proofs.Common.{agenda_of, size_left}
use Rattle.std.specs.Prelude.{sum_by}
use Rattle.rx_scenario.specs.declared.scenario.Action.TheVariants.{Command as CommandThere, Cancel}
use Rattle.rx_scenario.specs.declared.scenario.Command.{Command as CommandInCode}
use Rattle.rx_scenario.specs.declared.scenario.Step.{Step as StepInCode, out-Step}
use Rattle.rx_scenario.specs.Scenario.{command_of}
use Rattle.rx_scenario.proofs.Laws.{step_of-parts, length-labels_in}
use Rattle.rx_agenda.specs.declared.agenda.Agenda.{Agenda as AgendaInCode}
use Rattle.rx_script.specs.Engine.{Performed, Followed, StaysAt}
use Rattle.rx_agenda.specs.Shown.{steps_to_come}
use Rattle.std.proofs.Common.{rules}

pub IfOk-map : {T E : Type 0} {A B : T → Type 0} (r : Result T E) → ((x : T) → A x → B x) → IfOk r A → IfOk r B
IfOk-map x0 f here = search rules

-- what a step has to follow it
pub followers-listed : (s : StepInCode) → list_of (step_of s).followers ≡ map step_of (out-Step s).then.items
followers-listed s = search (rules, step_of-parts, list_of-steps_of, map)

size_of-parts : (s : StepInCode) → steps_to_come s ≡ 1 + sum_by steps_to_come (out-Step s).then.items
size_of-parts s = search (rules, length, step_of-parts, length-labels_in)

module _ {R : Type 0} where
  pub performed_command : (e new : Engine R) (a : AgendaInCode) (c : CommandInCode) (answer : Answer) → CarriesStep e (command_of c) answer new
      → Performed e a (CommandThere c) answer new a
  performed_command e new a c answer carried = record {
    performs = λ h w. let to = carried.executes h w in (to.0, executes to.1, to.2);
    sound = carried.sound;
    limit = carried.limit;
    given = carried.given;
    size = omega arith;
    clock = refl;
  }

  pub performed_cancel : {e : Engine R} (a now : AgendaInCode) (label : String Global) (answer : Answer) → IsSound e
      → Cancels (agenda_of a) (string_bytes label) answer (agenda_of now) → size_left now ≤ size_left a → now.timeline.clock ≡ a.timeline.clock
      → Performed e a (Cancel label) answer e now
  performed_cancel a now label answer sound cancelled size clock = record {
    performs = λ h w. (h, cancels cancelled, w);
    sound = sound;
    limit = refl;
    given = inl refl;
    size = size;
    clock = clock;
  }

  module _ (e new : Engine R) (before between : AgendaInCode) (s : StepInCode) (answer : Answer)
      (done : Performed e before (out-Step s).action answer new between) where
    performs_step : MovesOn e new (λ p q. PerformsStep (limited e.book.limit) (record { stage = p; agenda = agenda_of before }) (step_of s).action answer
        (record { stage = q; agenda = agenda_of between }))
    performs_step = subst (λ t. MovesOn e new (λ p q. PerformsStep (limited e.book.limit) (record { stage = p; agenda = agenda_of before }) t.action answer
        (record { stage = q; agenda = agenda_of between }))) (sym (step_of-parts s)) done.performs

    pub followed : (now : AgendaInCode) → agenda_of now ≡ followed_by answer (map step_of (out-Step s).then.items) (agenda_of between)
        → size_left now ≤ size_left between + sum_by steps_to_come (out-Step s).then.items
        → now.timeline.clock ≡ between.timeline.clock → Followed e before s answer new now
    followed now joined size clock =
        let parts = size_of-parts s in
        let fewer = done.size in
        record {
          left = agenda_of between;
          performs = performs_step;
          follows = joined ∙ ap (λ ss. followed_by answer ss (agenda_of between)) (sym (followers-listed s));
          sound = done.sound;
          limit = done.limit;
          given = done.given;
          size = omega arith;
          clock = clock ∙ done.clock;
        }

  -- what a run has led to
  abbrev pub HasLed : ℕ → ℕ → Engine R → AgendaInCode → List Answer → Engine R → AgendaInCode → Type 0
  HasLed limit until first begun answers e now =
      MovesOn first e (λ s t. LeadsBySteps (limited limit) until (record { stage = s; agenda = agenda_of begun }) answers
      (record { stage = t; agenda = agenda_of now }))

  pub not_led : (limit until : ℕ) (first : Engine R) (begun : AgendaInCode) (answers : List Answer) → answers ≡ []
      → HasLed limit until first begun answers first begun
  not_led limit until first begun answers none = search (rules, limited, not_begun)

  module _ (limit until : ℕ) (first e new : Engine R) (begun before between now : AgendaInCode) (s : StepInCode)
      (answers pushed : List Answer) (answer : Answer) (same : e.book.limit ≡ limit)
      (comes : next_step until (agenda_of before) ≡ Some (step_of s, agenda_of between))
      (after : Followed e between s answer new now) (is_pushed : pushed ≡ answers ++ answer ∷ []) where
    advances : (h k : List Event) → PerformsStep (limited e.book.limit) (record { stage = stage_of e h; agenda = agenda_of between }) (step_of s).action answer
        (record { stage = stage_of new k; agenda = after.left })
        → Advances (limited limit) until (record { stage = stage_of e h; agenda = agenda_of before }) answer
        (record { stage = stage_of new k; agenda = agenda_of now })
    advances h k performs = record {
      step = step_of s;
      rest = agenda_of between;
      comes = comes;
      done = record { stage = stage_of new k; agenda = after.left };
      performs = subst (λ n. PerformsStep (limited n) (record { stage = stage_of e h; agenda = agenda_of between }) (step_of s).action answer
          (record { stage = stage_of new k; agenda = after.left })) same performs;
      stage = refl;
      follows = after.follows;
    }

    pub leads_more : HasLed limit until first begun answers e before → HasLed limit until first begun pushed new now
    leads_more led h w =
        let to = led h w in
        let on = after.performs to.0 to.2 in (
          on.0,
          subst (λ l. LeadsBySteps (limited limit) until (record { stage = stage_of first h; agenda = agenda_of begun }) l
              (record { stage = stage_of new on.0; agenda = agenda_of now })) (sym is_pushed) (advanced to.1 (advances to.0 on.0 on.1)),
          on.2,
        )

  -- it has led to where nothing but notes changes
  pub led_stays : (limit until : ℕ) (first e new : Engine R) (begun now : AgendaInCode) (answers : List Answer) → StaysAt e new
      → HasLed limit until first begun answers e now → HasLed limit until first begun answers new now
  led_stays limit until first e new begun now answers stays led h w =
      let to = led h w in (
        to.0,
        subst (λ t. LeadsBySteps (limited limit) until (record { stage = stage_of first h; agenda = agenda_of begun }) answers
            (record { stage = t; agenda = agenda_of now })) (sym (stays.stage to.0)) to.1,
        stays.history to.0 to.2,
      )

  -- it has led to its end
  pub has_ended : {limit : ℕ} (until : ℕ) (first e : Engine R) (begun now : AgendaInCode) (answers : List Answer) → HasLed limit until first begun answers e now
      → next_step until (agenda_of now) ≡ None → MovesOn first e (λ s t. Ends (limited limit) until (record { stage = s; agenda = agenda_of begun }) answers t)
  has_ended until first e begun now answers led none = λ h w. let to = led h w in (to.0, record { left = agenda_of now; leads = to.1; over = none }, to.2)
