use Rattle.rx_line.proofs.NamesWithMoreRoom.{same_names, still_paired}
use Rattle.rx_line.proofs.names.Names.make_room.Goals as goal
use Rattle.std.proofs.Common.{rules}

pub returns-clause-same : goal.returns-clause-same
returns-clause-same c =
    search (rules, same_names)

pub returns-clause-paired : goal.returns-clause-paired
returns-clause-paired c =
    search (rules, still_paired, returns-clause-same)
