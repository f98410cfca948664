use Rattle.rx_live.proofs.Common.{◌≡◌, Some, subst, string_bytes, part_data, task, query, list, order_in, task_of, order_of}
use Rattle.rx_live.proofs.Common.{session_of}
use Rattle.rx_line.specs.declared.order.Order.{Order as OrderInCode}
use Rattle.rx_live.proofs.AnswerToEachLine.{tried_task, tried_said, answered_queried, answered_listed, answered_dumped, answered_faulty}
use Rattle.rx_live.proofs.sending.answer.Goals as goal
use Rattle.std.proofs.Common.{rules}

pub returns-in-Ok-Task-clause-ok : goal.returns-in-Ok-Task-clause-ok
returns-in-Ok-Task-clause-ok c =
    let asked = order_in (part_data c.args.value) in
    let order : asked ≡ Some (task (task_of c.in-Ok-Task.task)) =
    subst (λ (o : OrderInCode). asked ≡ Some (order_of o)) c.in-Ok-Task.field-0-is c.in-Ok-Task.ensures.ok in
    tried_task (session_of c.args.engine.now) (session_of c.carry_out.new.engine) asked (task_of c.in-Ok-Task.task)
    (string_bytes c.args.text.now) (string_bytes c.carry_out.new.text) c.carry_out.result order c.carry_out.ensures.ok

pub returns-in_ok-query_text-in-Ok-Query-clause-ok : goal.returns-in_ok-query_text-in-Ok-Query-clause-ok
returns-in_ok-query_text-in-Ok-Query-clause-ok c = search (rules, string_bytes, query, tried_said, answered_queried)

pub returns-in_ok-list_text-in-Ok-List-clause-ok : goal.returns-in_ok-list_text-in-Ok-List-clause-ok
returns-in_ok-list_text-in-Ok-List-clause-ok c = search (rules, list, tried_said, string_bytes, answered_listed)

pub returns-in_ok-dump_text-in-Ok-Dump-clause-ok : goal.returns-in_ok-dump_text-in-Ok-Dump-clause-ok
returns-in_ok-dump_text-in-Ok-Dump-clause-ok c = search (rules, tried_said, string_bytes, answered_dumped)

pub returns-in_ok-faulty_text-in-Err-Faulty-clause-ok : goal.returns-in_ok-faulty_text-in-Err-Faulty-clause-ok
returns-in_ok-faulty_text-in-Err-Faulty-clause-ok c = search (rules, tried_said, string_bytes, answered_faulty)
