use Rattle.rx_live.proofs.engine.Engine.place_behind.Goals as goal
use Rattle.std.proofs.Common.{rules}

pub overflow_add-result : goal.overflow_add-result
overflow_add-result c = search rules
