use Rattle.std.proofs.Common.{◌++◌, Option, length, option_map, sym, ap, ◌∙◌, arith}
use Rattle.std.specs.Option.{option_to_list}
use Rattle.rx_roles.specs.declared.roles.Role.{Role}
use Rattle.rx_engine.proofs.wishes.close_one.Goals as goal

pub push_reserved-requires : goal.push_reserved-requires
push_reserved-requires c =
    let one = ap (λ (o : Option Role). length (option_to_list o)) (sym c.take.ensures.value ∙ c.in-Some.is) in
    let room = c.requires.room in
    omega (arith, one, room)

pub returns-in-Some-clause-closings : goal.returns-in-Some-clause-closings
returns-in-Some-clause-closings c =
    c.push_reserved.ensures.items
    ∙ ap (λ (o : Option Role). c.args.closings.now.items ++ option_to_list (option_map (λ (r : Role). r.word) o)) (sym c.in-Some.is ∙ c.take.ensures.value)
