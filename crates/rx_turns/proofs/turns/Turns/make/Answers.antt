use Rattle.std.proofs.Common.{Bool, refl, sym, ◌∙◌, subst}
use Rattle.std.proofs.lemmas.Bool.{false≢true}
use Rattle.rx_resource.specs.contracts.token.TokenResource.TheImpl.{ghosts}
use Rattle.rx_turns.specs.Seen.{seen}
use Rattle.rx_turns.specs.States.{TurnState, turn_state}
use Rattle.rx_turns.specs.Making.{MakesOnLine, is_made, is_made_bare, finds_no_line}
use Rattle.rx_turns.proofs.Lines.{line_had}
use Rattle.rx_turns.proofs.Admitted.{nothing_as}
use Rattle.rx_turns.proofs.turns.Turns.make.Goals as goal

pub returns-in-Ok : goal.returns-in-Ok
returns-in-Ok c =
    let before = turn_state c.args.self.now in
    let u : TurnState = record before { agenda = seen c.admit.new.self } in
    is_made u c.make_there.result.status c.make_there.result.is_own
    (record { line = line_had c.in-Ok.ensures.ok; loses = c.in-Ok.ensures.kept; only = refl })
    (subst (λ (b : Bool). MakesOnLine ghosts c.args.turn b c.args.command.now u (turn_state c.make_there.new.self) c.args.answer.now c.make_there.new.answer
    c.make_there.result.status c.make_there.result.is_own) (nothing_as c.args.turn before.agenda u.agenda c.in-Ok.ensures.kept) c.make_there.ensures)

pub returns-then-may_ask : goal.returns-then-may_ask
returns-then-may_ask c =
    finds_no_line (λ has. false≢true (c.in-Err.ensures.had has)) (sym c.may_ask.ensures ∙ c.if-may_ask.true) c.in-Err.ensures.kept refl c.clear.ensures

pub returns-else-may_ask : goal.returns-else-may_ask
returns-else-may_ask c =
    is_made_bare (record (turn_state c.args.self.now) { agenda = seen c.admit.new.self }) c.make_bare.result (λ has. false≢true (c.in-Err.ensures.had has))
    (sym c.may_ask.ensures ∙ c.if-may_ask.false) c.in-Err.ensures.kept refl c.make_bare.ensures

pub make_bare-requires : goal.make_bare-requires
make_bare-requires c = sym c.may_ask.ensures ∙ c.if-may_ask.false
