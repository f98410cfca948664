use Rattle.rx_picture.proofs.Common.{length, le-ltb, is_open_past}
use Rattle.rx_picture.proofs.climb.is_open_after.Goals as goal
use Rattle.std.proofs.Common.{rules}

pub returns-else-n-past : goal.returns-else-n-past
returns-else-n-past c = search (rules, le-ltb, length, is_open_past)
