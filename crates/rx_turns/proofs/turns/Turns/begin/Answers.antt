use Rattle.std.proofs.Common.{◌<◌, ℕ, None, length, refl, ap, sym, ◌∙◌, subst}
use Rattle.rx_turns.specs.Rows.{IsOn}
use Rattle.rx_turns.specs.Agendas.{due_to}
use Rattle.rx_turns.specs.Seen.{seen}
use Rattle.rx_turns.specs.States.{TurnState, turn_state}
use Rattle.rx_turns.specs.Serving.{AsksLane, nothing_due}
use Rattle.rx_turns.specs.Finding.{IsFoundAs, found_none}
use Rattle.rx_turns.proofs.Asked.{asked_none, asked_due}
use Rattle.rx_turns.proofs.Handed.{found_nothing, due_given}
use Rattle.rx_turns.proofs.TakenOut.{empty_head, shorter}
use Rattle.rx_turns.proofs.turns.Turns.begin.Goals as goal

pub ask-found-requires : goal.ask-found-requires
ask-found-requires c = subst (λ rows. IsOn c.args.on rows.items) (sym c.forget.ensures.rows) c.in-Some.ensures.line

pub returns-then-is_some : goal.returns-then-is_some
returns-then-is_some c =
    let a = turn_state c.loop-place.self in
    let mid : TurnState = record a { agenda = seen c.forget.new.self } in
    let b = turn_state c.ask-found.new.self in
    let asks = subst (λ (w : ℕ). IsFoundAs (AsksLane c.args.on.turn w mid b) b c.ask-found.result) c.word-word.ensures c.ask-found.ensures.asks in
    due_given c.args.on.turn a mid b (turn_state c.args.self.now) c.in-Some.place c.ask-found.result (sym c.is_some.ensures ∙ c.if-is_some.true)
    c.in-Some.ensures.first (record { gone = c.forget.ensures.gone; only = refl }) asks (c.loop-place.invariant.1 b)

pub loop-place-smaller : goal.loop-place-smaller
loop-place-smaller c =
    let a = turn_state c.loop-place.self in
    let mid : TurnState = record a { agenda = seen c.forget.new.self } in
    let b = turn_state c.ask-found.new.self in
    let before = due_to a.agenda c.args.on.turn in
    let fewer = shorter c.in-Some.place before c.in-Some.ensures.first in
    let asks = found_nothing (AsksLane c.args.on.turn c.word-word.result mid b) b c.ask-found.result (sym c.is_some.ensures ∙ c.if-is_some.false)
    c.ask-found.ensures.asks in
    let out = asked_due c.args.on.turn c.word-word.result mid b None asks c.args.on.turn ∙ c.forget.ensures.gone.due c.args.on.turn in
    subst (λ n. n < length before) (sym (ap length out)) fewer

pub loop-place-preserved : goal.loop-place-preserved
loop-place-preserved c =
    let a = turn_state c.loop-place.self in
    let mid : TurnState = record a { agenda = seen c.forget.new.self } in
    let d = turn_state c.ask-found.new.self in
    let asks = subst (λ (w : ℕ). AsksLane c.args.on.turn w mid d None) c.word-word.ensures
    (found_nothing (AsksLane c.args.on.turn c.word-word.result mid d) d c.ask-found.result (sym c.is_some.ensures ∙ c.if-is_some.false)
    c.ask-found.ensures.asks) in (
      c.ask-found.ensures.line.line,
      λ b answer rest. c.loop-place.invariant.1 b answer
          (asked_none c.args.on.turn a mid d b c.in-Some.place answer c.in-Some.ensures.first (record { gone = c.forget.ensures.gone; only = refl }) asks rest),
    )

pub returns : goal.returns
returns c = found_none (c.loop-place.invariant.1 _ _ (nothing_due (empty_head _ c.in_default.ensures.first)))
