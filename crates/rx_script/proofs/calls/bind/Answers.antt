use Rattle.rx_script.proofs.Common.{option_map, string_bytes, is_some, or_parts}
use Rattle.rx_script.proofs.NamesGiven.{connection_named}
use Rattle.rx_script.proofs.Openings.{free_behind}
use Rattle.rx_script.proofs.calls.bind.Goals as goal
use Rattle.std.proofs.Common.{rules}

pub bind_connection-requires : goal.bind_connection-requires
bind_connection-requires g c = search (rules, string_bytes, option_map, is_some, or_parts, connection_named, free_behind)
