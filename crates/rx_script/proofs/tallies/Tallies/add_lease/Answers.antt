use Rattle.rx_script.proofs.Common.{◌<◌, ◌+◌, ◌==◌, ◌∙◌, sym, ap, subst, refl, cond, nat_eq, arith, unwrap_or, get, none-some}
use Rattle.rx_script.proofs.Common.{same_Some, Return, is_lease_of, is_return, nothing_kept, MayFollow, leases_of}
use Rattle.rx_event.proofs.Laws.Leases.{leases_of_kept, leases_of_still}
use Rattle.rx_script.proofs.LeasesOut.{front_lawful, last_follows, leases_few, leases_of_less, returned_lease, out_leased, out_returned, out_same, leases_none}
use Rattle.rx_script.proofs.tallies.Tallies.add_lease.Goals as goal
use Rattle.std.proofs.Common.{rules}

pub returns-in_ok-raise-in-Lease-clause-leases : goal.returns-in_ok-raise-in-Lease-clause-leases
returns-in_ok-raise-in-Lease-clause-leases c = λ h is short law before counts r.
    let few = leases_few h r in
    let was = counts r in
    let small : unwrap_or (get nat_eq c.args.self.now.leases r) 0 < 18446744073709551615 = omega arith in
    c.in_ok-raise-in-Lease.ensures r small ∙ ap (λ n. n + cond (c.in-Lease.resource == r) 1 0) was
    ∙ ap (λ e. leases_of h r + cond (is_lease_of r e) 1 0) (sym c.in-Lease.is)
    ∙ sym (leases_of_kept nothing_kept h c.args.event.now (front_lawful h c.args.event.now law) (ap is_return c.in-Lease.is) r)

pub returns-in_ok-raise-in-Lease-clause-out : goal.returns-in_ok-raise-in-Lease-clause-out
returns-in_ok-raise-in-Lease-clause-out c = λ h is law before l. out_leased l _ _ (front_lawful h _ law) is c.in-Lease.is (before l)
    (c.in_ok-insert-in-Lease.ensures.updates.0 l)

pub returns-in-Some-clause-leases : goal.returns-in-Some-clause-leases
returns-in-Some-clause-leases c = search (rules, last_follows, returned_lease, same_Some, cond, leases_of_less, front_lawful)

pub returns-in-Some-clause-out : goal.returns-in-Some-clause-out
returns-in-Some-clause-out c = λ h is law before l.
    out_returned l c.in-Return.lease _ _ (front_lawful h c.args.event.now law) c.in-Return.is (before l) (c.remove.ensures.updates.0 l)

-- in a lawful history what comes back was out
pub returns-in_default-remove-clause-leases : goal.returns-in_default-remove-clause-leases
returns-in_default-remove-clause-leases c = λ h is short law before counts r. let m = c.in-Return.lease in let next : MayFollow nothing_kept h (Return
    m) = subst (λ e. MayFollow nothing_kept h e) c.in-Return.is (last_follows h _ law) in let found = returned_lease h m next in absurd (none-some
    found.0 (c.in_default-remove.ensures.value ∙ before m ∙ found.2))

pub returns-in_default-remove-clause-out : goal.returns-in_default-remove-clause-out
returns-in_default-remove-clause-out c = λ h is law before l.
    out_returned l c.in-Return.lease _ _ (front_lawful h c.args.event.now law) c.in-Return.is (before l) (c.remove.ensures.updates.0 l)

pub returns-in_default : goal.returns-in_default
returns-in_default c =
    let none = leases_none c.args.event.now c.in_default.not-Lease c.in_default.not-Return in
    record {
      leases = λ h is short law before counts r.
          counts r ∙ sym (leases_of_still nothing_kept h c.args.event.now (front_lawful h c.args.event.now law) none.returns r (none.lease_of r));
      out = λ h is law before l. before l ∙ out_same h c.args.event.now l (front_lawful h c.args.event.now law) none;
      kept = refl;
    }
