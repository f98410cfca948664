use Rattle.rx_turns.proofs.Firsts.{first_below, first_line}
use Rattle.rx_turns.proofs.agenda.Agenda.first.Goals as goal

pub returns-clause-place : goal.returns-clause-place
returns-clause-place c = first_below c.first.result c.args.self.now.lists _ c.promise.ensures c.first.ensures

pub returns-clause-line : goal.returns-clause-line
returns-clause-line c =
    first_line c.first.result c.args.self.now.lists c.args.self.now.rows.items c.args.on c.args.self.now.tied.listed c.requires c.first.ensures
