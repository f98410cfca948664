use Rattle.rx_turns.proofs.DueOnce.{due_once}
use Rattle.rx_turns.proofs.agenda.Agenda.promise.Goals as goal

pub returns : goal.returns
returns c = due_once c.args.self.now.rows.items c.args.self.now.lists c.args.self.now.words.items c.promise.ensures c.args.self.now.tied.listed
