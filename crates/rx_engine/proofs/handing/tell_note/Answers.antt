use Rattle.std.proofs.Common.{List, length, ap, refl, sym, ◌∙◌, ◌++◌, arith, append-nil}
use Rattle.rx_roles.specs.declared.roles.Role.{Role}
use Rattle.rx_roles.specs.declared.effect.Effect.{Effect}
use Rattle.rx_roles.specs.Effects.{told}
use Rattle.rx_roles.proofs.Laws.RolesTaken.{told_paid}
use Rattle.rx_engine.proofs.handing.tell_note.Goals as goal

pub tell_one-requires : goal.tell_one-requires
tell_one-requires c = record {
  room =
      let paid = told_paid c.args.parts.now.hears.list c.args.parts.now.merges.list c.args.mail in
      let had = c.requires.room in
      omega (arith, paid, had);
}

pub returns : goal.returns
returns c =
    let p = c.args.parts.now in
    record {
      hears = c.tell_one.ensures.hears;
      effects = c.tell_one.ensures.effects
          ∙ ap (λ (es : List Effect). p.effects.list ++ es) (sym (append-nil (told c.args.by c.args.value p.hears.list p.merges.list c.args.mail)));
      room =
          let paid = told_paid p.hears.list p.merges.list c.args.mail in
          let spent = c.tell_one.ensures.room in let fewer = ap (length {A = Role}) c.tell_one.ensures.hears in
          omega (arith, paid, spent, fewer);
      only = refl;
    }
