use Rattle.std.proofs.Common.{◌≡◌, ℕ, List, Some, option_map, string_bytes, ap, sym, subst}
use Rattle.rx_line.specs.declared.names.Names.{Names}
use Rattle.rx_line.specs.Names.{name_of_number, Forgets}
use Rattle.rx_line.proofs.BoundAfterChange.{forgotten_names, forgotten_paired}
use Rattle.rx_line.proofs.names.Names.forget.Goals as goal

pub returns-clause-some : goal.returns-clause-some
returns-clause-some c =
    let new : Names = record { by_name = c.remove-2.new.self; by_number = c.remove.new.self } in
    subst (λ (name : List ℕ). Forgets c.args.self.now c.args.number name new) c.as_str.ensures.value
    (forgotten_names c.args.self.now new c.args.number c.as_str.result.now c.remove-2.ensures.updates c.remove.ensures.updates)

pub returns-clause-paired : goal.returns-clause-paired
returns-clause-paired c =
    let new : Names = record { by_name = c.remove-2.new.self; by_number = c.remove.new.self } in
    let known : name_of_number c.args.self.now c.args.number ≡ Some (string_bytes c.in_ok-name.name) =
    ap (option_map string_bytes) (sym c.in_ok-name.ensures.value) in
    forgotten_paired c.args.self.now new c.args.number (string_bytes c.in_ok-name.name) known (returns-clause-some c) c.requires
