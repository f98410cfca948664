use Rattle.std.proofs.Common.{◌≡◌, Option, sym, subst}
use Rattle.rx_turns.specs.declared.agenda.Task.{Task}
use Rattle.rx_turns.specs.Telling.{handed_told}
use Rattle.rx_turns.proofs.agenda.tell_hand.Goals as goal

pub returns-in-None : goal.returns-in-None
returns-in-None c =
    subst (λ (o : Option Task). c.tell_none.new.answer ≡ handed_told o c.args.is_own c.args.answer.now) (sym c.in-None.is) c.tell_none.ensures
