use Rattle.rx_tree.proofs.Common.{◌≡◌, Bool, true, false, true≢false, not, tells, leaves_nothing}
use Rattle.rx_tree.proofs.store.Store.unnote.Goals as goal
use Rattle.std.proofs.Common.{rules}

not_false : (b : Bool) → false ≡ not b → b ≡ true
not_false x0 e = search (rules, true≢false)

pub returns-else-is_noted-clause-leaves : goal.returns-else-is_noted-clause-leaves
returns-else-is_noted-clause-leaves g c = search (rules, not_false, leaves_nothing, tells)

pub returns-else-is_noted-clause-rest : goal.returns-else-is_noted-clause-rest
returns-else-is_noted-clause-rest g c = search rules
