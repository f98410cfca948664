use Rattle.rx_scenario.specs.Reading.{node_command_by}
use Rattle.rx_scenario.proofs.Laws.Members.{bytes_eq-none}
use Rattle.rx_scenario.proofs.reading.commands.node_command_by.Goals as goal

pub returns-in_default : goal.returns-in_default
unfolding node_command_by
returns-in_default c =
    let none = c.in_default in
    let no = bytes_eq-none c.args.what.now in
    rw (
      no _ none.not-open,
      no _ none.not-next,
      no _ none.not-end,
      no _ none.not-abort,
      no _ none.not-decline,
      no _ none.not-fail,
      no _ none.not-dispose,
    ) c.book_command_by.ensures
