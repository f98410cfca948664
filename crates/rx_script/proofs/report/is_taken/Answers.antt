use Rattle.rx_script.proofs.Common.{slice_get, is_some, list_any, option_and_then}
use Rattle.rx_script.proofs.TalliesOfWholeHistory.{tagged-taken}
use Rattle.rx_script.proofs.report.is_taken.Goals as goal
use Rattle.std.proofs.Common.{rules}

pub returns-then-is_some : goal.returns-then-is_some
returns-then-is_some c = search (rules, is_some, option_and_then, slice_get, list_any, tagged-taken)

pub returns-else-is_some : goal.returns-else-is_some
returns-else-is_some c = search (rules, is_some, option_and_then, slice_get, list_any, tagged-taken)
