use Rattle.std.proofs.Common.{codes, refl, rules}
use Rattle.rx_scenario.specs.Reading.{is_one_of}
use Rattle.rx_scenario.proofs.Laws.Members.{bytes_eq-other}
use Rattle.rx_scenario.proofs.reading.members.is_of_steps.Goals as goal

pub returns-in_default : goal.returns-in_default
unfolding is_one_of
returns-in_default c =
    search (rules, bytes_eq-other, codes)

pub returns-in-do : goal.returns-in-do
unfolding is_one_of
returns-in-do c = rw c.in-do.is-do refl

pub returns-in-do-2 : goal.returns-in-do-2
unfolding is_one_of
returns-in-do-2 c = rw c.in-do.is-label refl

pub returns-in-do-3 : goal.returns-in-do-3
unfolding is_one_of
returns-in-do-3 c = rw c.in-do.is-at refl

pub returns-in-do-4 : goal.returns-in-do-4
unfolding is_one_of
returns-in-do-4 c = rw c.in-do.is-after refl

pub returns-in-do-5 : goal.returns-in-do-5
unfolding is_one_of
returns-in-do-5 c = rw c.in-do.is-then refl
