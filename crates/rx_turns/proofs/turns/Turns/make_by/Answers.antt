use Rattle.std.proofs.Common.{ℕ, ◌==◌, Option, refl, sym, subst}
use Rattle.rx_turns.specs.States.{turn_state}
use Rattle.rx_turns.specs.Making.{ComesHome, opens_no_inner}
use Rattle.rx_turns.proofs.NothingHanded.{no_inner, not_opening}
use Rattle.rx_turns.proofs.turns.Turns.make_by.Goals as goal

pub returns : goal.returns
returns c =
    let made = c.make-status.new.self in
    let between = record (turn_state c.args.self.now) { cellar = made } in
    record {
      cellar = made;
      given = c.make-status.new.given;
      stood = c.promise.ensures;
      made = c.make-status.ensures;
      stands = c.promise-2.ensures;
      between = between;
      home = subst (λ (o : Option ℕ). ComesHome c.args.on.turn between between o)
          (sym (no_inner (c.make-status.result == 0) c.args.command.now made (not_opening c.args.command.now.what c.requires.plain))) (opens_no_inner refl);
      comes = c.come_if-is_own.ensures;
    }
