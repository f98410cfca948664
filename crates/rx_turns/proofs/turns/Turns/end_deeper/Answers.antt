use Rattle.std.proofs.Common.{refl}
use Rattle.rx_turns.specs.States.{turn_state}
use Rattle.rx_turns.specs.Ending.{TurnIsOver, all_ended, one_ended}
use Rattle.rx_turns.proofs.Passed.{none_passed, deeper_on}
use Rattle.rx_turns.proofs.Ended.{ended_next, ended_all}
use Rattle.rx_turns.proofs.turns.Turns.end_deeper.Goals as goal

pub loop-inner-init : goal.loop-inner-init
loop-inner-init c = (none_passed TurnIsOver c.args.turn (turn_state c.args.self.now).agenda, λ b rest. rest)

pub loop-inner-preserved : goal.loop-inner-preserved
loop-inner-preserved c =
    let deep = deeper_on TurnIsOver c.args.turn c.loop-inner.last c.in-Some.inner
    (turn_state c.loop-inner.self).agenda c.loop-inner.invariant.0 c.in-Some.ensures.deeper in (
      ended_next c.args.turn c.loop-inner.last c.in-Some.inner (turn_state c.loop-inner.self)
          (turn_state c.end.new.self) c.loop-inner.invariant.0 c.in-Some.ensures.deeper
          c.in-Some.ensures.between c.end.ensures,
      λ b rest. c.loop-inner.invariant.1 b (one_ended (turn_state c.loop-inner.self) (turn_state c.end.new.self) c.in-Some.inner deep c.end.ensures rest),
    )

pub returns : goal.returns
returns c =
    c.loop-inner.invariant.1 _
    (all_ended (ended_all c.args.turn c.loop-inner.last (turn_state c.loop-inner.self).agenda c.loop-inner.invariant.0
    (λ u deep. c.in_default.ensures.between u deep refl)))
