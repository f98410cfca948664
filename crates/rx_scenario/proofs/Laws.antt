-- A step from its parts, and how many steps there are.
pub mod Members
pub mod Checkpoints
use Rattle.std.proofs.Common.{◌≡◌, ℕ, List, [], ◌∷◌, length, length-append, map, option_map, string_bytes, refl, ap, rules}
use Rattle.std.specs.Prelude.{sum_by}
use Rattle.std.proofs.lemmas.List.Sums.{sum_by-cons}
use Rattle.rx_scenario.specs.declared.scenario.Step.{Step as StepInCode, out-Step, the_lemmas}
use Rattle.rx_scenario.specs.Scenario.{Step, step_of, action_of, steps_of, list_of, labels_in, labels_of}

pub step_of-parts : (s : StepInCode) → step_of s ≡
    (let parts = out-Step s in record {
      label = option_map string_bytes parts.label;
      delay = parts.delay;
      action = action_of parts.action;
      followers =
          steps_of (map step_of parts.then.items);
    })
step_of-parts s = search (rules, the_lemmas)

pub list_of-steps_of : (ss : List Step) → list_of (steps_of ss) ≡ ss
list_of-steps_of [] = refl
list_of-steps_of (s ∷ ss) = ap (λ (l : List Step). s ∷ l) (list_of-steps_of ss)

pub length-labels_in : {A : Type 0} (f : A → Step) (xs : List A) → length (labels_in (steps_of (map f xs))) ≡ sum_by (λ x. length (labels_of (f x))) xs
length-labels_in f [] = refl
length-labels_in {A} f (x ∷ xs) =
    search (rules, length, map, length-append, sum_by-cons, ℕ, length-labels_in f xs)
