use Rattle.rx_scenario.specs.Reading.{command_by}
use Rattle.rx_scenario.proofs.Laws.Members.{bytes_eq-none}
use Rattle.rx_scenario.proofs.reading.commands.command_by.Goals as goal

pub returns-in_default : goal.returns-in_default
unfolding command_by
returns-in_default c =
    let none = c.in_default in
    let no = bytes_eq-none c.args.what.now in
    rw (
      no _ none.not-using,
      no _ none.not-hold,
      no _ none.not-apply,
      no _ none.not-remove,
      no _ none.not-lease,
      no _ none.not-return,
    ) c.node_command_by.ensures
