use Rattle.std.proofs.Common.{sym, rules}
use Rattle.json.specs.Value.{members_view}
use Rattle.rx_device.specs.Part.{part_data}
use Rattle.rx_device.proofs.Parts.{get_part, get_of_other}
use Rattle.rx_device.proofs.part.Part.get.Goals as goal

pub returns-in_default : goal.returns-in_default
returns-in_default c = search (rules, get_of_other)

pub returns-in-Some-find : goal.returns-in-Some-find
returns-in-Some-find c =
    let there = sym (rw c.in-Some.is at c.as_object.ensures) in
    rw c.in-Some-find.is at (get_part c.args.name.now (part_data c.args.self) (members_view c.in-Some.members.now.items) c.find.result there c.find.ensures)

pub returns-in-None : goal.returns-in-None
returns-in-None c =
    let there = sym (rw c.in-Some.is at c.as_object.ensures) in
    rw c.in-None.is at (get_part c.args.name.now (part_data c.args.self) (members_view c.in-Some.members.now.items) c.find.result there c.find.ensures)
