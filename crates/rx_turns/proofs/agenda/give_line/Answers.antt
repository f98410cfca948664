use Rattle.rx_turns.proofs.Renamed.{IsFree, line_given, kept_given}
use Rattle.rx_turns.proofs.agenda.give_line.Goals as goal

free_line : (c : goal.After-rows-1) → IsFree c.args.rows.now.items c.args.lists.now c.args.line c.args.turn
free_line c = record {
  within = c.requires.within;
  listed = c.requires.listed;
  apart = c.requires.apart;
  none = c.requires.none;
  nothing_due = c.requires.nothing_due;
  nothing_served = c.requires.nothing_served;
}

pub returns-clause-line : goal.returns-clause-line
returns-clause-line c = line_given (free_line c)

pub returns-clause-kept : goal.returns-clause-kept
returns-clause-kept c = kept_given (free_line c)
