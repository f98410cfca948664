use Rattle.std.proofs.Common.{sym, subst}
use Rattle.rx_turns.specs.Rows.{AreNoDeeper}
use Rattle.rx_turns.proofs.Admitted.{none_grown}
use Rattle.rx_turns.proofs.Grown.{depths_grown}
use Rattle.rx_turns.proofs.agenda.make_line.Goals as goal

pub give_line-requires-2-clause-none : goal.give_line-requires-2-clause-none
give_line-requires-2-clause-none c =
    none_grown c.args.turn c.reserve.new.self.items c.add_line.new.rows.items c.reserve-2.new.self c.add_line.new.lists c.add_line.ensures.grows
    (rw c.reserve.ensures.items c.requires.none)

pub returns-clause-depths : goal.returns-clause-depths
returns-clause-depths c = λ n fits are.
    c.give_line-2.ensures.depths n fits
    (depths_grown c.reserve.new.self.items c.add_line.new.rows.items c.reserve-2.new.self c.add_line.new.lists n c.add_line.ensures.grows
    (subst (AreNoDeeper n) (sym c.reserve.ensures.items) are))
