use Rattle.rx_script.proofs.Common.{◌≡◌, false, sym, subst, ◌∙◌, Accepted, CarriesStep}
use Rattle.rx_scenario.specs.Scenario.{command_of}
use Rattle.rx_script.specs.KeyedCalls.{rebinds}
use Rattle.rx_script.proofs.EngineCarriesOut.{answered}
use Rattle.rx_script.proofs.Commands.{call_nameless, call_taken, call_refused}
use Rattle.rx_script.proofs.NamesGiven.{call_accepted}
use Rattle.rx_script.proofs.calls.ask.Goals as goal
use Rattle.std.proofs.Common.{rules}

pub returns-in_default : goal.returns-in_default
returns-in_default g c = search (rules, call_nameless)

pub returns-then-rebinds : goal.returns-then-rebinds
returns-then-rebinds g c = search (rules, call_taken)

pub returns-in_ok-bind-in-Ok : goal.returns-in_ok-bind-in-Ok
returns-in_ok-bind-in-Ok g c =
    let e = c.args.engine.now in
    let free : rebinds e.nodes e.hubs e.leases (command_of c.args.command) ≡ false = cc in
    subst (λ n. CarriesStep e (command_of c.args.command) Accepted n) (sym c.in_ok-bind-in-Ok.ensures)
    (call_accepted e c.requires.sound c.promise.ensures c.args.command c.requires.asked c.in-Some.call (sym c.keyed_call.ensures ∙ c.in-Some.is) free
    c.in-Ok.given c.in-Ok.ensures.accepted c.in-Ok.ensures.ok)

pub returns-in-Err : goal.returns-in-Err
returns-in-Err g c = let e = c.args.engine.now in let free : rebinds e.nodes e.hubs e.leases (command_of _) ≡ false = cc in answered _ _ _
    c.refused.ensures.ok (λ other. call_refused e c.requires.sound (command_of _) c.requires.asked _ (sym c.keyed_call.ensures ∙ c.in-Some.is) free _
    _ c.in-Err.ensures.kept c.in-Err.ensures.refused other)
