-- Steps that make no checkpoint: no step among them makes one, nor one that follows it.
use Rattle.std.proofs.Common.{◌≡◌, ℕ, zero, suc, Bool, false, Some, rules}
use Rattle.std.proofs.lemmas.Bool.{false≢true}
use Rattle.std.proofs.lemmas.Option.{none-some, same_Some}
use Rattle.std.specs.Prelude.{◌||◌, slice_get}
use Rattle.rx_scenario.specs.Scenario.{checkpoint, command, StepList, no_steps, one_more, Step, list_of}
use Rattle.rx_scenario.specs.Checkpoints.{is_checkpoint_command, has_checkpoint, makes_checkpoint}

first_none : (a b : Bool) → (a || b) ≡ false → a ≡ false
first_none x0 b none = search rules

other_none : (a b : Bool) → (a || b) ≡ false → b ≡ false
other_none x0 b none = search (rules, false≢true)

pub is_checkpoint_command-makes : (s : Step) → makes_checkpoint s ≡ false → ¬ (s.action ≡ command checkpoint)
is_checkpoint_command-makes s none is = search (rules, false≢true, first_none)

pub has_checkpoint-followers : (s : Step) → makes_checkpoint s ≡ false → has_checkpoint s.followers ≡ false
has_checkpoint-followers s none = other_none (is_checkpoint_command s.action) (has_checkpoint s.followers) none

pub makes_checkpoint-at : (ss : StepList) (i : ℕ) (s : Step) → has_checkpoint ss ≡ false → slice_get (list_of ss) i ≡ Some s → makes_checkpoint s ≡ false
makes_checkpoint-at no_steps i s none there = absurd (none-some s there)
makes_checkpoint-at (one_more label delay action followers others) zero s none there =
    search (rules, same_Some, first_none)
makes_checkpoint-at (one_more label delay action followers others) (suc i) s none there =
    makes_checkpoint-at others i s (other_none (is_checkpoint_command action || has_checkpoint followers) (has_checkpoint others) none) there
