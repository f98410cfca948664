use Rattle.rx_audit.proofs.Common.{length, arith}
use Rattle.rx_audit.proofs.LeaseTallies.{leases_found, leases_long, leases_few}
use Rattle.rx_audit.proofs.found.find_leases.Goals as goal
use Rattle.std.proofs.Common.{rules}

pub returns-clause-leases : goal.returns-clause-leases
returns-clause-leases c = rw (c.count_less.ensures, c.count.ensures, c.leased.ensures, c.given_back.ensures) (leases_found _ _ c.requires.lawful
    c.requires.leases _ c.requires.next)

pub returns-clause-len : goal.returns-clause-len
returns-clause-len c = search (rules, leases_long)

pub returns-clause-few : goal.returns-clause-few
returns-clause-few c = rw (c.count_less.ensures, c.count.ensures) (leases_few _ _ _ (length _) c.requires.few)

pub count-requires : goal.count-requires
count-requires c = λ n. let few = c.requires.few n in let short = c.requires.short in omega arith
