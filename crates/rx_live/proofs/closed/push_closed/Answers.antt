use Rattle.std.proofs.Common.{◌+◌, arith, sym, ◌∙◌}
use Rattle.rx_live.proofs.Common.{string_bytes, session_of}
use Rattle.rx_live.proofs.ClosedNamed.{says_nothing, none_at_all, says_null}
use Rattle.rx_live.proofs.closed.push_closed.Goals as goal

pub put-requires : goal.put-requires
put-requires c = record { room = let k = c.push_member.ensures.room (c.args.rest + 29) (omega arith) c.requires.room in omega arith }

pub returns-then-names_none-clause-said : goal.returns-then-names_none-clause-said
returns-then-names_none-clause-said c =
    says_nothing (string_bytes c.args.text.now)
    (none_at_all c.args.closing.is_call (session_of c.args.engine.now) c.args.closing.asked (sym c.names_none.ensures ∙ c.if-names_none.true))

pub returns-in-Err-clause-said : goal.returns-in-Err-clause-said
returns-in-Err-clause-said c =
    says_null c.args.closing.is_call (session_of c.args.engine.now) c.args.closing.asked (string_bytes c.args.text.now) (string_bytes c.push_member.new.text)
    (string_bytes c.put.new.text) c.if-not-closing.false (sym c.names_none.ensures ∙ c.if-names_none.false) c.in-Err.ensures.err c.put.ensures.bytes

pub returns-in-Err-clause-room : goal.returns-in-Err-clause-room
returns-in-Err-clause-room c =
    let k = c.push_member.ensures.room (c.args.rest + 29) (omega arith) c.requires.room in
    let l = c.put.ensures.len in
    let m = c.put.ensures.capacity in omega arith

pub returns-in-Ok-clause-room : goal.returns-in-Ok-clause-room
returns-in-Ok-clause-room c = let k = c.push_member.ensures.room (c.args.rest + 29) (omega arith) c.requires.room in omega arith
