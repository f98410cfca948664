use Rattle.rx_ground.proofs.Common.{◌∙◌, ◌<◌, ◌+◌, ◌≡◌, true, arith, ap, refl, is_some, vec_capacity, store_key, stowed_of, is_owned_at, lease_key}
use Rattle.rx_ground.proofs.EventWritten.{seen, step, same_nodes, wrote_resources}
use Rattle.rx_ground.proofs.Memory.{same_places}
use Rattle.rx_ground.proofs.RegisterAfterWrite.{writes_silent}
use Rattle.rx_ground.proofs.ResourcesAfterEvent.{stored_leased}
use Rattle.rx_ground.proofs.StaysTied.{still_there}
use Rattle.rx_ground.proofs.HeldKept.{held_owned}
use Rattle.rx_ground.proofs.Newest.{owned_stored, if_found}
use Rattle.rx_ground.proofs.LeasesAfterEvent.{past_leases, few_leases, leased_more, leased_same, leases_more}
use Rattle.rx_ground.proofs.base.Ground.write_lease.Goals as goal
use Rattle.std.proofs.Common.{rules}

pub lease-lease-requires-clause-newest : goal.lease-lease-requires-clause-newest
lease-lease-requires-clause-newest g c = search (rules, past_leases)

pub lend-requires-clause-countable : goal.lend-requires-clause-countable
lend-requires-clause-countable g c κs within =
    let f = owned_stored g.R.Resource c.self.view_is c.requires.between c.args.res c.requires.owned in
    let lent = f.is.lent in
    let few = few_leases c.self.inside.register.history c.args.res.number in
    let within = c.promise.ensures.within in
    let placed = c.promise.ensures.placed in
    let limited = c.promise.ensures.limited in
    if_found (stowed_of c.self.inside.tree c.args.res) f.stowed (λ stowed. stowed.leases + 1 < 18446744073709551616) f.found (omega arith)

pub returns-clause-wrote : goal.returns-clause-wrote
returns-clause-wrote g c =
    let h = c.self.inside.register.history in
    let old = c.self.inside.tree in
    let new = c.lend.new.self in
    let law = c.promise.ensures.lawful in
    let w = c.write.ensures in
    let u = c.lend.ensures in
    let lease = c.lease-lease.ensures in
    let key = lease_key c.lease-lease.result in
    let numbered = lease.numbered ∙ c.len-number.ensures in
    let f = owned_stored g.R.Resource c.self.view_is c.requires.between c.args.res c.requires.owned in
    let s = step g.R.Resource c.self.view_is law c.requires.between c.requires.ready
    (writes_silent refl w.base w.events w.pending w.room w.limit w.given w.mail_room) in
    let more = leased_more h old.resources c.self.inside.leases s.between.leased law key c.args.res numbered (ap is_some f.found) lease.was_free lease.out
    lease.kept in
    rw (← c.self.view_is) (wrote_resources g.R.Resource s (record { shuts = refl; makes = refl; joins = refl; untouched = λ k n. refl })
    (same_nodes u.nodes u.chain refl refl (vec_capacity c.self.inside.closed) refl refl) (record {
      places = same_places old.resources new.resources u.resources.rest;
      stored = stored_leased c.self.inside.register.base g.R.Resource h law old new s.between.tied.of_tree.stored c.promise-2.ensures.resources_apart
          u.nodes (store_key c.args.res) f.stowed f.found u.resources;
      leased = leased_same _ old.resources c.lease-lease.new.self more new.resources c.lease-lease.new.self
          (λ l res is. still_there (store_key c.args.res) u.resources (store_key res) is.stored) (λ k. refl);
      held = held_owned old new _ c.args.res u.nodes u.resources.others (seen (λ b. is_owned_at b.tree c.args.res ≡ true) c.self.view_is c.requires.owned);
      leases = leases_more _ _ _ key lease.kept numbered;
    }))

pub returns-clause-number : goal.returns-clause-number
returns-clause-number g c = rw (← c.self.view_is) (c.lease-lease.ensures.numbered ∙ c.len-number.ensures)

pub returns-clause-out : goal.returns-clause-out
returns-clause-out g c = ap is_some c.lease-lease.ensures.out
