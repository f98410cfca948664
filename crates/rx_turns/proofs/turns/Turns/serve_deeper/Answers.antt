use Rattle.std.proofs.Common.{refl, sym, ◌∙◌}
use Rattle.rx_turns.specs.Agendas.{HasNothing}
use Rattle.rx_turns.specs.States.{turn_state}
use Rattle.rx_turns.specs.Serving.{none_deeper, deeper_has_none, Serves}
use Rattle.rx_turns.specs.Finding.{found_none}
use Rattle.rx_turns.proofs.Handed.{found_nothing, inner_given}
use Rattle.rx_turns.proofs.Passed.{none_passed, deeper_on}
use Rattle.rx_turns.proofs.DeeperServed.{served_next, served_all}
use Rattle.rx_turns.proofs.turns.Turns.serve_deeper.Goals as goal

pub loop-inner-init : goal.loop-inner-init
loop-inner-init c = (none_passed HasNothing c.args.turn (turn_state c.args.self.now).agenda, λ b answer rest. rest)

pub returns-then-is_some : goal.returns-then-is_some
returns-then-is_some c =
    let b = turn_state c.serve_inner-found.new.self in
    let deep = deeper_on HasNothing c.args.turn c.loop-inner.last c.in-Some.inner
    (turn_state c.loop-inner.self).agenda c.loop-inner.invariant.0 c.in-Some.ensures.deeper in
    inner_given c.args.turn b (turn_state c.loop-inner.self) (turn_state c.args.self.now) c.in-Some.inner c.serve_inner-found.result deep
    (sym c.is_some.ensures ∙ c.if-is_some.true) c.serve_inner-found.ensures (c.loop-inner.invariant.1 b)

pub loop-inner-preserved : goal.loop-inner-preserved
loop-inner-preserved c =
    let d = turn_state c.serve_inner-found.new.self in
    let deep = deeper_on HasNothing c.args.turn c.loop-inner.last c.in-Some.inner
    (turn_state c.loop-inner.self).agenda c.loop-inner.invariant.0 c.in-Some.ensures.deeper in
    let serves = found_nothing (Serves c.in-Some.inner d (turn_state c.loop-inner.self)) d c.serve_inner-found.result
    (sym c.is_some.ensures ∙ c.if-is_some.false) c.serve_inner-found.ensures in (
      served_next c.args.turn c.loop-inner.last c.in-Some.inner (turn_state c.loop-inner.self) d c.loop-inner.invariant.0 c.in-Some.ensures.deeper
          c.in-Some.ensures.between c.promise.ensures serves,
      λ b answer rest. c.loop-inner.invariant.1 b answer
          (deeper_has_none (turn_state c.loop-inner.self) d c.in-Some.inner answer deep serves rest),
    )

pub returns : goal.returns
returns c =
    found_none (c.loop-inner.invariant.1 _ _
    (none_deeper (served_all c.args.turn c.loop-inner.last (turn_state c.loop-inner.self).agenda c.loop-inner.invariant.0
    (λ u deep. c.in_default.ensures.between u deep refl))))
