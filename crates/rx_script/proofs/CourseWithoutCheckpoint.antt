-- A course of a scenario that makes no checkpoint is at none.
use Rattle.rx_script.proofs.Common.{◌≡◌, ℕ, zero, suc, ◌<◌, false, List, [], ◌∷◌, ◌++◌, Some, map, slice_get, refl, ap, ◌∙◌, arith, AllByRecursion, Event}
use Rattle.rx_script.proofs.Common.{Answer, PlacedStep, Executed, done_in, Command, checkpoint, Action, command, Step, steps_of, Script, has_checkpoint}
use Rattle.rx_script.proofs.Common.{list_of-steps_of, Ware, Stage, after, Manner, Executes, Does, Plays, none_played, one_played, Course, IsCourseIn}
use Rattle.rx_agenda.specs.Order.{IsHeld, by_scenario, by_step, IsInOrder}
use Rattle.rx_scenario.specs.Checkpoints.{makes_checkpoint}
use Rattle.rx_scenario.proofs.Laws.Checkpoints.{is_checkpoint_command-makes, has_checkpoint-followers, makes_checkpoint-at}
use Rattle.std.proofs.Common.{rules}

-- the executed steps ---------------------------------------------------------------------------------

module _ (steps : List Step) (until : ℕ) (executed : List Executed) (order : IsInOrder steps until executed)
    (none : has_checkpoint (steps_of steps) ≡ false) where
  held_plain : (k : ℕ) → ((i : ℕ) (e : Executed) → i < k → slice_get executed i ≡ Some e → makes_checkpoint e.placed.step ≡ false)
      → (x : PlacedStep) → x.origin.holder < suc k → IsHeld steps executed x → makes_checkpoint x.step ≡ false
  held_plain k before x less (by_scenario i s there) =
      makes_checkpoint-at (steps_of steps) i s none (ap (λ (l : List Step). slice_get l i) (list_of-steps_of steps) ∙ there)
  held_plain k before x less (by_step j i e s found was there) =
      makes_checkpoint-at e.placed.step.followers i s (has_checkpoint-followers e.placed.step (before j e (omega arith) found)) there

  all_plain : (k i : ℕ) (e : Executed) → i < k → slice_get executed i ≡ Some e → makes_checkpoint e.placed.step ≡ false
  all_plain zero i e less there = absurd (omega arith)
  all_plain (suc k) i e less there =
      let behind = order.behind_holder i e there in
      held_plain k (all_plain k) e.placed (omega arith) (order.only_due e.placed (record { number = i; by = e; there = there; same = refl })).held

-- what they do ---------------------------------------------------------------------------------------

after-checked : (s : Stage) (step : Command) (k : List Event) → ¬ (step ≡ checkpoint) → (after s step k).checked ≡ s.checked
after-checked s x1 k other = search rules

executed_unchecked : {m : Manner} {s last : Stage} {step : Command} {answer : Answer} → ¬ (step ≡ checkpoint) → Executes m s step answer last
    → last.checked ≡ s.checked
executed_unchecked other x1 = search (rules, after-checked)

did_unchecked : {m : Manner} {s last : Stage} {action : Action} {answer : Answer} → ¬ (action ≡ command checkpoint) → Does m s action answer last
    → last.checked ≡ s.checked
did_unchecked other x1 = search (rules, executed_unchecked, command)

abbrev AllPlain : List (Step × Answer) → Type 0
AllPlain done = AllByRecursion (λ d. makes_checkpoint d.0 ≡ false) done

all_front : (done : List (Step × Answer)) (d : Step × Answer) → AllPlain (done ++ d ∷ []) → AllPlain done × (makes_checkpoint d.0 ≡ false)
all_front [] d all = (tt, all.0)
all_front (x ∷ done) d all = let rest = all_front done d all.1 in ((all.0, rest.0), rest.1)

played_unchecked : {m : Manner} {first last : Stage} {done : List (Step × Answer)} → Plays m first done last → AllPlain done → last.checked ≡ first.checked
played_unchecked none_played all = refl
played_unchecked (one_played {done = done} s {answer = answer} plays did) all =
    let parts = all_front done (s, answer) all in
    did_unchecked (is_checkpoint_command-makes s parts.1) did ∙ played_unchecked plays parts.0

each_plain : (es : List Executed) → ((i : ℕ) (e : Executed) → slice_get es i ≡ Some e → makes_checkpoint e.placed.step ≡ false) → AllPlain (map done_in es)
each_plain [] each = tt
each_plain (e ∷ es) each = (each 0 e refl, each_plain es (λ i x there. each (suc i) x there))

pub unchecked : (m : Manner) (script : Script) (stock : List Ware) (c : Course) → IsCourseIn m script stock c
    → has_checkpoint (steps_of script.steps) ≡ false → c.last.checked ≡ 0
unchecked m script stock c is none = played_unchecked is.plays (each_plain is.executed
    (λ i e there. all_plain script.steps script.until is.executed is.in_order none (suc i) i e (omega arith) there))
