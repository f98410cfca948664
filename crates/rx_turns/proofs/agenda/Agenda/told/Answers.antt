use Rattle.std.proofs.Common.{ℕ, List, subst}
use Rattle.rx_turns.specs.declared.agenda.Row.{Row}
use Rattle.rx_turns.specs.Rows.{IsToldOf, row_on}
use Rattle.rx_turns.proofs.Firsts.{told_line}
use Rattle.rx_turns.proofs.agenda.Agenda.told.Goals as goal

pub returns-clause-line : goal.returns-clause-line
returns-clause-line c =
    told_line c.told_on.result c.args.self.now.rows.items c.args.on c.requires
    (subst (λ (rows : List Row). IsToldOf (row_on rows c.args.on.line).in_hand c.told_on.result) c.deref.ensures.value c.told_on.ensures)

pub returns-clause-told : goal.returns-clause-told
returns-clause-told c =
    subst (λ (k : ℕ). IsToldOf (row_on c.args.self.now.rows.items k).in_hand c.told_on.result) c.requires
    (subst (λ (rows : List Row). IsToldOf (row_on rows c.args.on.line).in_hand c.told_on.result) c.deref.ensures.value c.told_on.ensures)
