use Rattle.std.proofs.Common.{Option, None, ◌==◌, false, sym, subst}
use Rattle.std.proofs.Math.Bool.{not}
use Rattle.rx_cellar.specs.declared.shapes.Effect.{Effect}
use Rattle.rx_cellar.specs.declared.cellar.Cellar.{Cellar}
use Rattle.rx_cellar.specs.Asking.{asked_of, asked_as}
use Rattle.rx_cellar.specs.Serving.{words_due}
use Rattle.rx_turns.specs.States.{turn_state}
use Rattle.rx_turns.specs.Making.{inner_lane, ComesIf}
use Rattle.rx_turns.proofs.Laws.HandsKept.{home_dues}
use Rattle.rx_turns.proofs.NothingHanded.{nothing_given, no_item_opened}
use Rattle.rx_turns.proofs.turns.Turns.make_opening.Goals as goal

pub returns : goal.returns
returns c =
    let command = c.args.command.now in
    let made = c.make-status.new.self in
    let status = c.make-status.result in
    let between = turn_state c.come_home_if.new.self in
    let none = nothing_given _ (asked_as (not c.args.is_free) (asked_of command)) c.args.turn.by c.args.self.now.cellar made c.args.answer.now
    c.make-status.new.answer c.make-status.new.given status (no_item_opened (not c.args.is_free) command c.requires) c.make-status.ensures in
    let home = home_dues c.args.turn (record (turn_state c.args.self.now) { cellar = made }) between (inner_lane (status == 0) command made)
    c.come_home_if.ensures in
    record {
      cellar = made;
      given = c.make-status.new.given;
      stood = c.promise.ensures;
      made = c.make-status.ensures;
      stands = c.promise-2.ensures;
      between = between;
      home = c.come_home_if.ensures;
      comes = subst (λ (o : Option Effect). ComesIf (status == 0) c.args.turn (words_due made) o between (turn_state c.come_bare.new.self) false) (sym none)
          (subst (λ (x : Cellar). ComesIf (status == 0) c.args.turn (words_due x) None between (turn_state c.come_bare.new.self) false) home.cellar
          c.come_bare.ensures);
    }
