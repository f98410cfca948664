use Rattle.std.proofs.Common.{◌==◌, ◌&&◌, nat_lt, Bool, ap, sym, ◌∙◌}
use Rattle.rx_turns.specs.States.{turn_state}
use Rattle.rx_turns.proofs.NothingDue.{none_opened}
use Rattle.rx_turns.proofs.turns.Turns.come_home_if.Goals as goal
use Rattle.rx_turns.proofs.turns.Turns.come_home_if.Goals.{else-is_done-via-then-is_done+else-opens_inner, else-is_done-via-else-is_done}

pub returns-else-is_done : goal.returns-else-is_done
returns-else-is_done c =
    none_opened c.args.turn (turn_state c.args.self.now) c.args.is_done c.args.command.now c.args.self.now.cellar
    (elim c.else-is_done.branch [
      | else-is_done-via-then-is_done+else-opens_inner w ↦ (λ i. w.if-is_done.true i && (sym w.opens_inner.ensures ∙ w.if-opens_inner.false) i)
      | else-is_done-via-else-is_done w ↦ ap (λ (b : Bool). b && (nat_lt c.args.command.now.what 2 && c.args.command.now.place == 2)) w.if-is_done.false
    ])
