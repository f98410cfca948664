use Rattle.rx_live.proofs.Common.{if◌then◌else◌, Name, ◌≡◌, ℕ, ◌++◌, List, [], subst, string_bytes, refl, sym, ap, ◌∙◌, append_assoc, Task, task_of, Outcome}
use Rattle.rx_live.proofs.Common.{Accepted, Refused, session_of, said_if, answer_front_text, closed_names, SaysClosed, DoesTask, TellsAll, connects_at}
use Rattle.rx_live.specs.Closings.{names_closed}
use Rattle.rx_live.proofs.Acts.{refused_alike}
use Rattle.rx_live.proofs.OpenedNodesGetNames.{on_err}
use Rattle.rx_live.proofs.SessionAfterCheckpoint.{full_by_age, full_by_open}
use Rattle.rx_live.proofs.ConnectionAnswered.{front_said}
use Rattle.rx_live.proofs.AnswerToEachLine.{carried_out, refused_out}
use Rattle.rx_live.proofs.sending.carry_out.Goals as goal
use Rattle.std.proofs.Common.{rules}

pub returns-then-is_full_by_age-clause-ok : goal.returns-then-is_full_by_age-clause-ok
returns-then-is_full_by_age-clause-ok c = search (rules, full_by_age, refused_alike)

pub returns-in-Accepted-clause-ok : goal.returns-in-Accepted-clause-ok
returns-in-Accepted-clause-ok c =
    let old = session_of c.args.engine.now in
    let done = session_of c.act.new.engine in
    let runs : DoesTask old (task_of c.args.task) Accepted done =
    subst (λ (o : Outcome). DoesTask old (task_of c.args.task) o done) c.in-Accepted.is c.in_ok-act.ensures.ok in
    let asked : Task = task_of c.args.task in
    let begun : List ℕ = string_bytes c.args.text.now in
    let placed : List ℕ = c.as_str-front.result.now in
    let said : List ℕ = c.as_str-said.result.now in
    let led : List ℕ = said_if (connects_at done.book c.place_behind-behind.result) said in
    let front : placed ++ led ≡ answer_front_text old asked done =
    front_said old done asked placed said (placed ++ led) c.place_behind-behind.result c.requires.sound runs
    (c.as_str-front.ensures.value ∙ c.in-Ok.ensures.front) (c.as_str-said.ensures.value ∙ c.in-Ok.ensures.said)
    c.place_behind-behind.ensures refl in
    let wrote = c.push_closed.ensures.said in
    let said_closed : List ℕ = wrote.said in
    let connected : string_bytes c.push_connected.new.text ≡ begun ++ (placed ++ led) =
    c.push_connected.ensures.text ∙ ap (λ (t : List ℕ). t ++ led) (c.put.ensures.bytes ∙ ap (λ (t : List ℕ). t ++ placed) c.front_of.ensures.same)
    ∙ append_assoc begun placed led in
    let written : string_bytes c.push_closed.new.text ≡ begun ++ (placed ++ led ++ said_closed) =
    wrote.written ∙ ap (λ (t : List ℕ). t ++ said_closed) connected ∙ append_assoc begun (placed ++ led) said_closed in
    let says : SaysClosed (closed_names old asked done) said_closed = subst (λ (ns : List Name). SaysClosed ns said_closed)
    (λ i. if c.closing_of-closing.ensures.call i then names_closed done (c.closing_of-closing.ensures.asked i) else []) wrote.says in
    carried_out done (session_of c.tell.new.engine) asked begun (placed ++ led) said_closed (string_bytes c.tell.new.text) runs front says
    (subst (λ (t : List ℕ). TellsAll done t (session_of c.tell.new.engine) (string_bytes c.tell.new.text)) written c.tell.ensures.tells)

pub returns-clause-ok : goal.returns-clause-ok
returns-clause-ok c =
    let old = session_of c.args.engine.now in
    let new = session_of c.act.new.engine in
    let why = c.in-Refused.why in
    let runs : DoesTask old (task_of c.args.task) (Refused why) new =
    subst (λ (o : Outcome). DoesTask old (task_of c.args.task) o new) c.in-Refused.is c.in_ok-act.ensures.ok in
    refused_out old new (task_of c.args.task) why (string_bytes c.args.text.now) (string_bytes c.in_ok-told-in-Refused.told) (string_bytes
    c.push_answer.new.text) runs (full_by_open old new why c.requires.sound.kept (refused_alike old new (task_of c.args.task) why runs)
    (sym c.is_full_by_age.ensures ∙ c.if-is_full_by_age.false)) c.in_ok-told-in-Refused.ensures
    (c.in_ok-push_answer-in-Refused.ensures.ok ∙ (λ i. c.front_of.ensures.same i ++ c.as_str.ensures.value i))

pub returns-in_err-told-in-Refused-clause-err : goal.returns-in_err-told-in-Refused-clause-err
returns-in_err-told-in-Refused-clause-err c = search (rules, on_err, refused_alike)

pub returns-in_err-push_answer-in-Refused-clause-err : goal.returns-in_err-push_answer-in-Refused-clause-err
returns-in_err-push_answer-in-Refused-clause-err c = search (rules, on_err, refused_alike)
