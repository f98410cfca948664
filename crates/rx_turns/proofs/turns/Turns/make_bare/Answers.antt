use Rattle.std.proofs.Common.{Option, ◌==◌, false, refl, sym, subst}
use Rattle.rx_cellar.specs.declared.shapes.Effect.{Effect}
use Rattle.rx_cellar.specs.Asking.{asked_of, asked_as}
use Rattle.rx_cellar.specs.Serving.{words_due}
use Rattle.rx_turns.specs.States.{turn_state}
use Rattle.rx_turns.specs.Making.{ComesHome, ComesIf, opens_no_inner}
use Rattle.rx_turns.proofs.NothingHanded.{nothing_given, no_item, no_inner, not_asking}
use Rattle.rx_turns.proofs.turns.Turns.make_bare.Goals as goal

pub returns : goal.returns
returns c =
    let made = c.make-status.new.self in
    let done = c.make-status.result == 0 in
    let between = record (turn_state c.args.self.now) { cellar = made } in
    let none = nothing_given _ (asked_as false (asked_of c.args.command.now)) c.args.turn.by c.args.self.now.cellar made c.args.answer.now
    c.make-status.new.answer c.make-status.new.given c.make-status.result (no_item c.args.command.now c.requires) c.make-status.ensures in
    record {
      cellar = made;
      given = c.make-status.new.given;
      stood = c.promise.ensures;
      made = c.make-status.ensures;
      stands = c.promise-2.ensures;
      between = between;
      home = subst (λ (o : Option _). ComesHome c.args.turn between between o) (sym (no_inner done c.args.command.now made (not_asking c.args.command.now.what c.requires))) (opens_no_inner refl);
      comes = subst (λ (o : Option Effect). ComesIf done c.args.turn (words_due made) o between (turn_state c.come_bare.new.self) false) (sym none)
          c.come_bare.ensures;
    }
