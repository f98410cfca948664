-- What the steps of an agenda lead to is a course: they come in the order of the comparison.
use Rattle.rx_script.proofs.Common.{◌≡◌, ℕ, List, [], ◌∷◌, ◌++◌, map, refl, sym, ap, subst, ◌∙◌, map-append, Action, Step, Script, Answer, Agenda, Executed}
use Rattle.rx_script.proofs.Common.{done_in, Ware, Stage, start, Manner, Does, does, leaves, Plays, none_played, one_played, IsCourseIn, Progress, begin}
use Rattle.rx_script.proofs.Common.{PerformsStep, executes, cancels, Advances, LeadsBySteps, not_begun, advanced, Ends}
use Rattle.rx_agenda.specs.Come.{Acts, does_command, does_cancel, HaveCome, none_yet, one_more}
use Rattle.rx_agenda.specs.Claims.{AreStepsInOrder}
use Rattle.rx_agenda.proofs.Laws.{runs_in_order}

-- a step and its answer
abbrev pub answer_in : Step × Answer → Answer
answer_in done = done.1

acts_in : (m : Manner) (p : Progress) (action : Action) (answer : Answer) (q : Progress) → PerformsStep m p action answer q
    → Acts p.agenda action answer q.agenda × Does m p.stage action answer q.stage
acts_in m p action answer q (executes e) = (does_command, does e)
acts_in m p action answer q (cancels c) = (does_cancel c, leaves)

-- where it leads: what was done, by the agenda and by the stage
record LeadsBy (m : Manner) (until : ℕ) (first : Progress) (answers : List Answer) (p : Progress) : Type 0 where
  done : List (Step × Answer)
  told : map answer_in done ≡ answers
  runs : HaveCome until first.agenda done p.agenda
  plays : Plays m first.stage done p.stage

module _ (m : Manner) (until : ℕ) (first : Progress) where
  leads_on : (answers : List Answer) (answer : Answer) (p q : Progress) → LeadsBy m until first answers p → Advances m until p answer q
      → LeadsBy m until first (answers ++ answer ∷ []) q
  leads_on answers answer p q so a =
      let both = acts_in m (record { stage = p.stage; agenda = a.rest }) a.step.action answer a.done a.performs in
      let more : List (Step × Answer) = so.done ++ (a.step, answer) ∷ [] in
      record {
        done = more;
        told = map-append answer_in so.done ((a.step, answer) ∷ []) ∙ ap (λ (l : List Answer). l ++ answer ∷ []) so.told;
        runs = subst (λ (b : Agenda). HaveCome until first.agenda more b) (sym a.follows) (one_more so.runs a.comes both.0);
        plays = subst (λ (s : Stage). Plays m first.stage more s) (sym a.stage) (one_played a.step so.plays both.1);
      }

  leads_by : (answers : List Answer) (p : Progress) → LeadsBySteps m until first answers p → LeadsBy m until first answers p
  leads_by answers p not_begun = record { done = []; told = refl; runs = none_yet; plays = none_played }
  leads_by answers p (advanced {answers = before} {answer} {p = between} {q} leads a) = leads_on before answer between q (leads_by before between leads) a

-- the answers, by the steps that were done
pub answers_done : (es : List Executed) → map (λ (e : Executed). e.answer) es ≡ map answer_in (map done_in es)
answers_done [] = refl
answers_done (e ∷ es) = ap (λ (l : List Answer). e.answer ∷ l) (answers_done es)

pub course_in_order : (m : Manner) (script : Script) (stock : List Ware) (answers : List Answer) (last : Stage)
    → Ends m script.until (begin stock script.steps) answers last → IsCourseIn m script stock (record { answers = answers; last = last })
course_in_order m script stock answers last ends =
    let by : LeadsBy m script.until (begin stock script.steps) answers (record { stage = last; agenda = ends.left }) =
    leads_by m script.until (begin stock script.steps) answers (record { stage = last; agenda = ends.left }) ends.leads in
    let order : AreStepsInOrder script.steps script.until by.done = runs_in_order script.steps script.until by.done ends.left by.runs ends.over in
    record {
      executed = order.executed;
      answers = answers_done order.executed ∙ ap (map answer_in) order.told ∙ by.told;
      in_order = order.in_order;
      answered = order.cancels;
      plays = subst (λ (l : List (Step × Answer)). Plays m (start stock) l last) (sym order.told) by.plays;
    }
