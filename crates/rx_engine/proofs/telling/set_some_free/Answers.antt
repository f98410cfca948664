use Rattle.std.proofs.Common.{refl, ◌≡◌, ◌++◌, List, length, sym, ap, ◌∙◌, arith, subst, Option}
use Rattle.rx_resource.specs.contracts.token.TokenResource.TheImpl.{ghosts}
use Rattle.std.specs.Option.{option_to_list}
use Rattle.rx_roles.specs.declared.roles.Role.{Role}
use Rattle.rx_roles.specs.declared.effect.Effect.{Effect}
use Rattle.rx_roles.specs.declared.effect.What.TheVariants.{Release}
use Rattle.rx_roles.specs.Roles.{role_of, without}
use Rattle.rx_roles.specs.Effects.{effects_for}
use Rattle.rx_roles.proofs.Laws.RolesTaken.{fewer}
use Rattle.rx_engine.specs.Settlements.{Releases, none_released, one_released}
use Rattle.rx_engine.proofs.KeysKept.{keeps_taken, keeps_itself, keeps_on}
use Rattle.rx_engine.proofs.telling.set_some_free.Goals as goal

pub loop-handed-init : goal.loop-handed-init
loop-handed-init c = record { promised = c.promise.ensures; releases = none_released; keys = keeps_itself c.args.book.now; base = refl; limit = refl; room = omega arith }

pub loop-handed-preserved : goal.loop-handed-preserved
loop-handed-preserved c =
    let i = c.loop-handed.invariant in
    let holds = c.loop-handed.holds.list in
    let number = c.in-Some.handed.0 in
    let list : c.take-role.new.self.list ≡ without holds number = c.take-role.ensures.list ∙ ap (without holds) c.number-number.ensures in
    let role : c.take-role.result ≡ role_of holds number = c.take-role.ensures.value ∙ ap (role_of holds) c.number-number.ensures in
    let effects = c.put_for.ensures.list ∙ ap (λ (o : Option Role). c.loop-handed.effects.list ++ effects_for c.args.by 0 Release o) role in
    record {
      promised = c.promise-in-Some.ensures;
      releases = subst (λ (rs : List Role). Releases ghosts c.args.by c.args.book.now c.args.holds.now.list c.args.effects.now.list c.take.new.self rs
          c.put_for.new.effects.list)
          (sym list)
          (subst (λ (es : List Effect). Releases ghosts c.args.by c.args.book.now c.args.holds.now.list c.args.effects.now.list c.take.new.self
          (without holds number) es)
          (sym effects) (one_released i.releases i.promised c.in-Some.ensures));
      keys = keeps_on c.args.book.now c.loop-handed.book c.take.new.self i.keys
          (keeps_taken ghosts c.loop-handed.book c.take.new.self number c.in-Some.handed.1 i.promised c.promise-in-Some.ensures c.in-Some.ensures);
      base = c.in-Some.ensures.accepted.base ∙ i.base;
      limit = c.in-Some.ensures.accepted.limit ∙ i.limit;
      room =
          let f = fewer holds number in
          let a = ap (length {A = Role}) list in
          let o = ap (λ (x : Option Role). length (option_to_list x)) role in
          let had = i.room in let spent = c.put_for.ensures.room in
          omega (arith, f, a, o, had, spent);
    }
