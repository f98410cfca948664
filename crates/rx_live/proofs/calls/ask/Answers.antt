use Rattle.rx_live.proofs.Common.{◌≡◌, Some, sym, ◌∙◌, session_of}
use Rattle.rx_scenario.specs.Scenario.{command_of}
use Rattle.rx_live.specs.KeyedCalls.{call_by_keys}
use Rattle.rx_live.proofs.KeyedCalls.{call_runs, nameless_runs, told_so}
use Rattle.rx_live.proofs.calls.ask.Goals as goal
use Rattle.std.proofs.Common.{rules}

pub returns-in_default-clause-ok : goal.returns-in_default-clause-ok
returns-in_default-clause-ok c = search (rules, nameless_runs)

pub returns-clause-ok : goal.returns-clause-ok
returns-clause-ok c =
    let found : call_by_keys (session_of c.args.engine.now) (command_of c.args.command.now) ≡ Some c.in-Some.call = sym c.call_by_keys.ensures ∙ c.in-Some.is in
    told_so _ _ c.answered.result
    (call_runs (command_of c.args.command.now) c.requires.sound c.requires.asked found c.promise.ensures c.ask-answer.ensures).0 c.answered.ensures.ok

pub returns-clause-sound : goal.returns-clause-sound
returns-clause-sound c =
    let found : call_by_keys (session_of c.args.engine.now) (command_of c.args.command.now) ≡ Some c.in-Some.call = sym c.call_by_keys.ensures ∙ c.in-Some.is in
    (call_runs (command_of c.args.command.now) c.requires.sound c.requires.asked found c.promise.ensures c.ask-answer.ensures).1
