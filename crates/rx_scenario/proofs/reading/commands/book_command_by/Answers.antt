use Rattle.std.proofs.Common.{refl}
use Rattle.rx_scenario.specs.Reading.{book_command_by}
use Rattle.rx_scenario.proofs.Laws.Members.{bytes_eq-none}
use Rattle.rx_scenario.proofs.reading.commands.book_command_by.Goals as goal

pub returns-in_default : goal.returns-in_default
unfolding book_command_by
returns-in_default c =
    let none = c.in_default in
    let no = bytes_eq-none c.args.what.now in
    rw (
      no _ none.not-hub,
      no _ none.not-connect,
      no _ none.not-disconnect,
      no _ none.not-drain,
      no _ none.not-checkpoint,
    ) refl
