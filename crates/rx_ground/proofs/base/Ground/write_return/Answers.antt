use Rattle.rx_ground.proofs.Common.{◌∙◌, refl, sym, ap, is_some, vec_capacity, find, store_key, one_lease_less, some_of, lease_key}
use Rattle.rx_ground.specs.Wrote.{IsBetween}
use Rattle.rx_ground.proofs.EventWritten.{seen, step, same_nodes, wrote_resources}
use Rattle.rx_ground.proofs.Memory.{same_places}
use Rattle.rx_ground.proofs.RegisterAfterWrite.{writes_silent}
use Rattle.rx_ground.proofs.ResourcesAfterEvent.{stored_returned}
use Rattle.rx_ground.proofs.StaysTied.{still_there}
use Rattle.rx_ground.proofs.HeldKept.{held_rewritten, less_held}
use Rattle.rx_ground.proofs.LeasesAfterEvent.{lent_there, leased_less, leased_same, leases_less}
use Rattle.rx_ground.proofs.base.Ground.write_return.Goals as goal

pub unlend-requires-clause-lent : goal.unlend-requires-clause-lent
unlend-requires-clause-lent g c κs within =
    let b = seen (IsBetween g.R.Resource) c.self.view_is c.requires.between in
    lent_there _ g.R.Resource _ _ b.tied.of_tree _ _ (b.leased.each (lease_key _) _ (sym c.give_back.ensures.value ∙ c.in-Some.is))

pub returns-clause-wrote : goal.returns-clause-wrote
returns-clause-wrote g c =
    let base = c.self.inside.register.base in
    let h = c.self.inside.register.history in
    let old = c.self.inside.tree in
    let new = c.unlend.new.self in
    let law = c.promise.ensures.lawful in
    let w = c.write.ensures in
    let u = c.unlend.ensures in
    let given = c.give_back.ensures in
    let key = store_key c.in-Some.res in
    let found = sym given.value ∙ c.in-Some.is in
    let s = step g.R.Resource c.self.view_is law c.requires.between c.requires.ready
    (writes_silent refl w.base w.events w.pending w.room w.limit w.given w.mail_room) in
    let of = s.between.leased.each (lease_key c.args.lease) c.in-Some.res found in
    let x = some_of (find old.resources key) of.stored in
    let less = leased_less h old.resources c.self.inside.leases s.between.leased base law c.promise-3.ensures c.give_back.new.self
    (lease_key c.args.lease) (ap is_some found) given.gone given.kept in
    rw (← c.self.view_is) (wrote_resources g.R.Resource s (record { shuts = refl; makes = refl; joins = refl; untouched = λ k n. refl })
    (same_nodes u.nodes u.chain refl refl (vec_capacity c.self.inside.closed) refl refl) (record {
      places = same_places old.resources new.resources u.resources.rest;
      stored = stored_returned base g.R.Resource h law old new s.between.tied.of_tree.stored c.promise-2.ensures.resources_apart u.nodes
          c.args.lease.number key x.0 s.next of.made x.1 u.resources;
      leased = leased_same _ old.resources c.give_back.new.self less new.resources c.give_back.new.self
          (λ l res is. still_there key u.resources (store_key res) is.stored) (λ k. refl);
      held = held_rewritten old new _ key one_lease_less u.nodes u.resources (less_held old.nodes);
      leases = leases_less _ _ _ (lease_key c.args.lease) given.gone given.kept;
    }))
