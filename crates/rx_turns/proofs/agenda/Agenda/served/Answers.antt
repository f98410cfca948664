use Rattle.std.proofs.Common.{rules}
use Rattle.rx_turns.proofs.Firsts.{served_line}
use Rattle.rx_turns.proofs.agenda.Agenda.served.Goals as goal

pub returns-clause-line : goal.returns-clause-line
returns-clause-line c = served_line c.hand_on.result c.args.self.now.rows.items c.args.on c.requires (search rules)
