use Rattle.std.proofs.Common.{◌≡◌, ℕ, true, refl, subst, rules}
use Rattle.rx_slots.specs.Lists.{is_in, list_at}
use Rattle.rx_cellar.specs.Words.{is_inside}
use Rattle.rx_turns.specs.States.{turn_state}
use Rattle.rx_turns.specs.Ending.{stays_due}
use Rattle.rx_turns.proofs.turns.Turns.leave_under.Goals as goal

pub returns-else-not-is_due : goal.returns-else-not-is_due
returns-else-not-is_due c =
    let stands = c.is_due.ensures.stands c.if-not-is_due.false in
    let inside : is_inside c.args.word ≡ true = search rules in
    stays_due stands.0 inside
    (subst (λ (p : ℕ). is_in p (list_at (turn_state c.args.self.now).agenda.lists stands.0) ≡ true) c.place_of.ensures.place stands.1) refl
