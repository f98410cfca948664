use Rattle.rx_live.proofs.Common.{string_bytes, session_of}
use Rattle.rx_live.proofs.ClosedNamed.{no_member, whole_member}
use Rattle.rx_live.proofs.closed.closed_text.Goals as goal

pub returns-then-is_none : goal.returns-then-is_none
returns-then-is_none c = no_member (session_of c.args.engine.now) c.args.asked (string_bytes c.new.result) c.if-is_none.true c.new.ensures.bytes
    c.in_ok-is_none.ensures.first

pub returns : goal.returns
returns c = whole_member (session_of c.args.engine.now) c.args.asked (string_bytes c.push_str.new.self) (string_bytes c.push_names.new.text)
    (string_bytes c.in_ok-text.text) c.if-is_none.false c.in_ok-is_none.ensures.first c.in_ok-text.ensures.ok c.in_ok-is_none.ensures.text
    c.in_ok-push_str.ensures.bytes
