use Rattle.rx_live.proofs.Common.{if◌then◌else◌, Name, ◌≡◌, ◌&&◌, ℕ, ◌++◌, Bool, List, [], subst, string_bytes, refl, ap, ◌∙◌, append_assoc, Task, plain, Outcome}
use Rattle.rx_live.proofs.Common.{Accepted, Refused, ok_text, refused_text, session_of, closed_names, SaysClosed, DoesTask, TellsAll, may_renew, false}
use Rattle.rx_live.proofs.Common.{is_full_cause}
use Rattle.rx_line.specs.FreeCommands.{free_command_of}
use Rattle.rx_live.specs.Closings.{names_closed}
use Rattle.rx_live.proofs.Acts.{refused_alike}
use Rattle.rx_live.proofs.SessionAfterCheckpoint.{full_by_open}
use Rattle.rx_live.proofs.FreeAnswered.{free_front}
use Rattle.rx_live.proofs.NeverFull.{never_full}
use Rattle.rx_live.proofs.AnswerToEachLine.{carried_out, refused_out}
use Rattle.rx_live.proofs.free.carry_out_free.Goals as goal

pub returns-in-Accepted-clause-ok : goal.returns-in-Accepted-clause-ok
returns-in-Accepted-clause-ok c =
    let old = session_of c.args.engine.now in
    let done = session_of c.run.new.engine in
    let k : Task = plain (free_command_of c.args.command) in
    let runs : DoesTask old k Accepted done = subst (λ (o : Outcome). DoesTask old k o done) c.in-Accepted.is c.run.ensures.runs in
    let begun : List ℕ = string_bytes c.args.text.now in
    let front : List ℕ = ok_text c.len-place.result in
    let wrote = c.push_closed.ensures.said in
    let said : List ℕ = wrote.said in
    let written : string_bytes c.push_closed.new.text ≡ begun ++ (front ++ said) =
    wrote.written ∙ ap (λ (t : List ℕ). t ++ said) c.put_ok.ensures.bytes ∙ append_assoc begun front said in
    let says : SaysClosed (closed_names old k done) said = subst (λ (ns : List Name). SaysClosed ns said)
    (λ i. if c.closing_of-closing.ensures.call i then names_closed done (c.closing_of-closing.ensures.asked i) else []) wrote.says in
    carried_out done (session_of c.tell.new.engine) k begun front said (string_bytes c.tell.new.text) runs
    (ap ok_text c.len-place.ensures ∙ free_front old done c.args.command) says
    (subst (λ (t : List ℕ). TellsAll done t (session_of c.tell.new.engine) (string_bytes c.tell.new.text)) written c.tell.ensures.tells)

pub returns-in-Refused-clause-ok : goal.returns-in-Refused-clause-ok
returns-in-Refused-clause-ok c =
    let old = session_of c.args.engine.now in
    let new = session_of c.run.new.engine in
    let why = c.in-Refused.why in
    let k : Task = plain (free_command_of c.args.command) in
    let runs : DoesTask old k (Refused why) new = subst (λ (o : Outcome). DoesTask old k o new) c.in-Refused.is c.run.ensures.runs in
    let alive : (is_full_cause why && may_renew new) ≡ false = ap (λ (b : Bool). b && may_renew new) (never_full old new c.args.command why runs) in
    refused_out old new k why (string_bytes c.args.text.now) (refused_text why) (string_bytes c.put_refused.new.text) runs
    (full_by_open old new why c.requires.sound.kept (refused_alike old new k why runs) alive) refl c.put_refused.ensures.bytes
