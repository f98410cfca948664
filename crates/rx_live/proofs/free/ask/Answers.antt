use Rattle.rx_live.proofs.Common.{◌≡◌, Some, sym, subst, ◌∙◌, session_of, Outcome, RunsCommand, Session}
use Rattle.rx_line.specs.FreeCommands.{free_command_of}
use Rattle.rx_live.specs.KeyedCalls.{call_by_keys}
use Rattle.rx_live.proofs.KeyedCalls.{call_runs, nameless_runs}
use Rattle.rx_live.proofs.free.ask.Goals as goal

pub returns-in_default-clause-runs : goal.returns-in_default-clause-runs
returns-in_default-clause-runs c =
    nameless_runs (session_of c.args.engine.now) (free_command_of c.args.command) c.requires.sound c.requires.asked
    (sym c.call_by_keys.ensures ∙ c.in_default.is)

pub returns-clause-runs : goal.returns-clause-runs
returns-clause-runs c =
    let found : call_by_keys (session_of c.args.engine.now) (free_command_of c.args.command) ≡ Some c.in-Some.call = sym c.call_by_keys.ensures
    ∙ c.in-Some.is in
    let s : Session = session_of c.args.engine.now in
    subst (λ (o : Outcome). RunsCommand s (free_command_of c.args.command) o (record s { book = c.ask-answer.new.self })) (sym c.outcome_of.ensures)
    (call_runs (free_command_of c.args.command) c.requires.sound c.requires.asked found c.promise.ensures c.ask-answer.ensures).0

pub returns-clause-sound : goal.returns-clause-sound
returns-clause-sound c =
    let found : call_by_keys (session_of c.args.engine.now) (free_command_of c.args.command) ≡ Some c.in-Some.call = sym c.call_by_keys.ensures
    ∙ c.in-Some.is in
    (call_runs (free_command_of c.args.command) c.requires.sound c.requires.asked found c.promise.ensures c.ask-answer.ensures).1
