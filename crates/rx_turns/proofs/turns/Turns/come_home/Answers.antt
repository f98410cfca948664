use Rattle.std.proofs.Common.{◌≡◌, ℕ, ◌%◌, true, false, refl, sym, ap, subst, ◌∙◌, ◌⊎◌, inl, inr}
use Rattle.rx_slots.specs.Lists.{is_in, list_at}
use Rattle.rx_cellar.specs.Words.{inside_bit, place_in, is_inside}
use Rattle.rx_turns.specs.Agendas.{lane_word, IsServing}
use Rattle.rx_turns.specs.States.{turn_state}
use Rattle.rx_turns.specs.Making.{IsMadeDue, is_not_due, is_of_another, is_due_here}
use Rattle.rx_turns.proofs.HandsServe.{inside_from, plain_below, not_both}
use Rattle.rx_turns.proofs.turns.Turns.come_home.Goals as goal
use Rattle.rx_turns.proofs.turns.Turns.come_home.Goals.{then-due-lt-INSIDE-via-then-due-lt-INSIDE, then-due-lt-INSIDE-via-else-due-lt-INSIDE+then-is_serving}

pub returns-then-not-is_due : goal.returns-then-not-is_due
returns-then-not-is_due c =
    is_not_due c.args.word (λ e. subst (λ (p : ℕ). is_in p (list_at (turn_state c.args.self.now).agenda.lists e) ≡ false) c.place_of-place.ensures.place
    (c.is_due.ensures.free c.if-not-is_due.true e)) refl

pub returns-then-due-word : goal.returns-then-due-word
returns-then-due-word c =
    let a = (turn_state c.args.self.now).agenda in
    let due : c.word-due.result ≡ lane_word a (place_in c.args.word) = c.word-due.ensures ∙ ap (lane_word a) c.place_of-place.ensures.place in
    is_of_another c.args.word (λ may. c.if-due-word.true (ap (λ w. w % inside_bit) due ∙ may.0)) refl

pub returns-then-due-lt-INSIDE : goal.returns-then-due-lt-INSIDE
returns-then-due-lt-INSIDE c =
    let a = (turn_state c.args.self.now).agenda in
    let due : c.word-due.result ≡ lane_word a (place_in c.args.word) = c.word-due.ensures ∙ ap (lane_word a) c.place_of-place.ensures.place in
    let stands = c.is_due.ensures.stands c.if-not-is_due.false in
    let side : (is_inside (lane_word a (place_in c.args.word)) ≡ false) ⊎ IsServing a c.args.turn.by c.args.word =
    elim c.then-due-lt-INSIDE.branch [
      | then-due-lt-INSIDE-via-then-due-lt-INSIDE w ↦ inl (sym (ap is_inside due) ∙ plain_below c.word-due.result inside_bit w.if-due-lt-INSIDE.true)
      | then-due-lt-INSIDE-via-else-due-lt-INSIDE+then-is_serving w ↦ inr (w.is_serving.ensures.serves w.if-is_serving.true)
    ] in
    is_due_here c.args.word stands.0
    (subst (λ (p : ℕ). is_in p (list_at (turn_state c.args.self.now).agenda.lists stands.0) ≡ true) c.place_of-place.ensures.place stands.1)
    (sym (ap (λ w. w % inside_bit) due) ∙ c.if-due-word.false, side)
    (subst (λ (w : ℕ). IsMadeDue c.args.turn w (turn_state c.args.self.now) (turn_state c.claim.new.self)) due c.claim.ensures)

pub returns-else-is_serving : goal.returns-else-is_serving
returns-else-is_serving c =
    let a = (turn_state c.args.self.now).agenda in
    let due : c.word-due.result ≡ lane_word a (place_in c.args.word) = c.word-due.ensures ∙ ap (lane_word a) c.place_of-place.ensures.place in
    is_of_another c.args.word
    (λ may. elim may.1 [
      | inl plain ↦ not_both (inside_from c.word-due.result inside_bit c.if-due-lt-INSIDE.false) (ap is_inside due ∙ plain)
      | inr serving ↦ c.is_serving.ensures.none c.if-is_serving.false serving
    ]) refl
