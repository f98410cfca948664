use Rattle.rx_live.proofs.Common.{option_map, string_bytes, sym, ap, ◌∙◌, session_of}
use Rattle.rx_live.proofs.Drops.{dropped_unnamed, dropped_taken, none_left}
use Rattle.rx_live.proofs.telling.next_name.Goals as goal
use Rattle.std.proofs.Common.{rules}

pub returns-in-Some-clause-some : goal.returns-in-Some-clause-some
returns-in-Some-clause-some c =
    let s = session_of c.args.engine.now in
    dropped_unnamed s (string_bytes c.in-Some.name) (option_map string_bytes c.take.new.self) c.requires
    (ap (option_map string_bytes) (sym c.take.ensures.value ∙ c.in-Some.is)) (ap (option_map string_bytes) c.take.ensures.after)

pub returns-in-None-clause-some : goal.returns-in-None-clause-some
returns-in-None-clause-some c = search (rules, option_map, string_bytes, dropped_taken)

pub returns-in-None-clause-gone : goal.returns-in-None-clause-gone
returns-in-None-clause-gone c = none_left c.take_name.result _ (ap (option_map string_bytes) (sym c.take.ensures.value ∙ c.in-None.is))
