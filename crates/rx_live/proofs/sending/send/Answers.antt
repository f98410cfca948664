use Rattle.rx_live.proofs.Common.{ℕ, List, subst, string_bytes, part_data, order_in, session_of, as_it_was, renewed, Answered, WritesAnswer}
use Rattle.rx_live.proofs.OpenedNodesGetNames.{on_err}
use Rattle.rx_live.proofs.SessionAfterCheckpoint.{young}
use Rattle.rx_live.proofs.AnswerToEachLine.{sent_first, sent_again, answered_so, found_so}
use Rattle.rx_live.proofs.sending.send.Goals as goal
use Rattle.std.proofs.Common.{rules}

pub returns-in_err-is_answered-clause-err : goal.returns-in_err-is_answered-clause-err
returns-in_err-is_answered-clause-err c = search (rules, on_err, as_it_was)

pub returns-then-is_answered-clause-ok : goal.returns-then-is_answered-clause-ok
returns-then-is_answered-clause-ok c =
    sent_first (session_of c.args.engine.now) (session_of c.answer.new.engine) (order_in (part_data c.args.value)) (string_bytes c.args.text.now)
    (string_bytes c.answer.new.text) (answered_so _ _ _ _ c.if-is_answered.true c.in_ok-is_answered.ensures.ok) c.answer.ensures.sound

pub returns-in_err-make_room-clause-err : goal.returns-in_err-make_room-clause-err
returns-in_err-make_room-clause-err c = search (rules, found_so, on_err, as_it_was)

pub returns-in_err-is_done-clause-err : goal.returns-in_err-is_done-clause-err
returns-in_err-is_done-clause-err c = search (rules, found_so, on_err, renewed)

pub unreachable-requires : goal.unreachable-requires
unreachable-requires c =
    let full = found_so _ _ _ _ c.if-is_done.false c.in_ok-is_done.ensures.ok in
    young (session_of c.answer.new.engine) (session_of c.make_room.new.engine) c.in_ok-make_room.ensures.ok full.0.full.aged

pub returns-then-is_done-clause-ok : goal.returns-then-is_done-clause-ok
returns-then-is_done-clause-ok c =
    let aged = session_of c.make_room.new.engine in
    let new = session_of c.answer-2.new.engine in
    let asked = order_in (part_data c.args.value) in
    let full = found_so _ _ _ _ c.if-is_answered.false c.in_ok-is_answered.ensures.ok in
    let text : List ℕ = string_bytes c.answer-2.new.text in
    let wrote : WritesAnswer (Answered aged asked new) (string_bytes c.answer.new.text) text =
    answered_so _ _ _ _ c.if-is_done.true c.in_ok-is_done.ensures.ok in
    sent_again aged new asked (string_bytes c.args.text.now) text full.0 c.in_ok-make_room.ensures.ok
    (subst (λ (begun : List ℕ). WritesAnswer (Answered aged asked new) begun text) full.1 wrote) c.answer-2.ensures.sound
