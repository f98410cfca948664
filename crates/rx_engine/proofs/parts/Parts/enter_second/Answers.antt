use Rattle.std.proofs.Common.{Option, option_map, sym, subst}
use Rattle.rx_slots.specs.declared.Key.{Key}
use Rattle.rx_engine.specs.Sharings.{ConnectsIf}
use Rattle.rx_engine.proofs.parts.Parts.enter_second.Goals as goal

pub enter_connection-requires : goal.enter_connection-requires
enter_connection-requires c = c.requires c.in-Some.key c.in-Some.is

pub returns-in-Some-clause-connects : goal.returns-in-Some-clause-connects
returns-in-Some-clause-connects c =
    subst (λ (o : Option Key). ConnectsIf c.args.self.now (option_map (λ (k : Key). k.number) o) c.args.place c.args.word c.enter_connection.new.self)
    (sym c.in-Some.is) c.enter_connection.ensures.connects
