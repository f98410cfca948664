use Rattle.rx_live.proofs.Common.{string_bytes, part_data, order_in, session_of}
use Rattle.rx_live.proofs.AnswersOfArrays.{element_taken, element_put_off}
use Rattle.rx_live.proofs.arrays.push_one.Goals as goal
use Rattle.std.proofs.Common.{rules}

pub returns-in-Ok-clause-ok : goal.returns-in-Ok-clause-ok
returns-in-Ok-clause-ok c = search (rules, element_taken, string_bytes)

pub returns-in-Err-clause-ok : goal.returns-in-Err-clause-ok
returns-in-Err-clause-ok c =
    element_put_off (session_of c.args.engine.now) (session_of c.send.new.engine) (order_in (part_data c.args.value)) (string_bytes c.args.text.now)
    (string_bytes c.send.new.text) (string_bytes c.put.new.text) c.in-Err.ensures.err c.in-Err.ensures.blank c.put.ensures.bytes
