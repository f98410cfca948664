use Rattle.std.proofs.Common.{arith, ◌∙◌, ap}
use Rattle.rx_slots.specs.Lists.{list_at, is_in}
use Rattle.rx_turns.proofs.Claimed.{claimed, take_out-gone}
use Rattle.rx_turns.proofs.agenda.Agenda.join.Goals as goal

pub join-requires-clause-free : goal.join-requires-clause-free
join-requires-clause-free c = λ e. ap (is_in c.args.place) (c.leave.ensures.lists e) ∙ take_out-gone c.args.place (list_at c.args.self.now.lists e)

pub returns : goal.returns
returns c =
    let fits = c.args.self.now.tied.worded in
    let place = c.requires.place in
    claimed c.args.on.turn c.args.place c.args.word c.args.on.line c.args.self.now.rows.items c.args.self.now.lists c.leave.new.self c.join.new.self
    c.args.self.now.words.items c.requires.line.line c.requires.line.within c.leave.ensures.lists c.join.ensures.lists
    (c.join.ensures.members ∙ c.leave.ensures.members) (omega (arith, fits, place))
