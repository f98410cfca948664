use Rattle.std.proofs.Common.{ℕ, List, subst, sym, ◌∙◌, rules}
use Rattle.rx_line.specs.declared.names.Names.{Names}
use Rattle.rx_line.specs.Names.{Binds}
use Rattle.rx_line.proofs.BoundAfterChange.{bound_names, bound_paired}
use Rattle.rx_line.proofs.names.Names.bind.Goals as goal

pub returns-clause-binds : goal.returns-clause-binds
returns-clause-binds c =
    let new : Names = record { by_name = c.insert.new.self; by_number = c.insert-2.new.self } in
    let both = c.into_both-one.ensures in
    subst (λ (name : List ℕ). Binds c.args.self.now name c.args.spot new) both.one
    (bound_names c.args.self.now new c.into_both-one.result.0 c.into_both-one.result.1 c.args.spot (both.other ∙ sym both.one)
    c.in-Ok.ensures.updates c.in-Ok-insert.ensures.updates)

pub returns-clause-paired : goal.returns-clause-paired
returns-clause-paired c =
    search (rules, bound_paired, returns-clause-binds)
