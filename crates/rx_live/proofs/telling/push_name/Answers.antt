use Rattle.rx_live.proofs.Common.{string_bytes, session_of}
use Rattle.rx_live.proofs.Drops.{wrote_no_name}
use Rattle.rx_live.proofs.telling.push_name.Goals as goal

pub returns-in_default-clause-told : goal.returns-in_default-clause-told
returns-in_default-clause-told c =
    wrote_no_name (session_of c.args.engine.now) (session_of c.next_name.new.engine) (string_bytes c.args.text.now) c.in_default.ensures.none
    c.in_default.ensures.all
