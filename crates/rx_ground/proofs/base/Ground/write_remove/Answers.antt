use Rattle.rx_ground.proofs.Common.{refl, vec_capacity, store_key, removed}
use Rattle.rx_ground.proofs.EventWritten.{step, same_nodes, leased_still, wrote_resources}
use Rattle.rx_ground.proofs.Memory.{same_places}
use Rattle.rx_ground.proofs.RegisterAfterWrite.{writes_silent}
use Rattle.rx_ground.proofs.ResourcesAfterEvent.{stored_removed}
use Rattle.rx_ground.proofs.StaysTied.{still_there}
use Rattle.rx_ground.proofs.HeldKept.{held_rewritten, removed_held}
use Rattle.rx_ground.proofs.Newest.{owned_stored}
use Rattle.rx_ground.proofs.Laws.KeysKept.{leases_stay}
use Rattle.rx_ground.proofs.base.Ground.write_remove.Goals as goal

pub returns-clause-wrote : goal.returns-clause-wrote
returns-clause-wrote g c =
    let h = c.self.inside.register.history in
    let old = c.self.inside.tree in
    let new = c.unhold.new.self in
    let law = c.promise.ensures.lawful in
    let w = c.write.ensures in
    let u = c.unhold.ensures in
    let f = owned_stored g.R.Resource c.self.view_is c.requires.between c.args.res c.requires.owned in
    let s = step g.R.Resource c.self.view_is law c.requires.between c.requires.ready
    (writes_silent refl w.base w.events w.pending w.room w.limit w.given w.mail_room) in
    rw (← c.self.view_is) (wrote_resources g.R.Resource s (record { shuts = refl; makes = refl; joins = refl; untouched = λ k n. refl })
    (same_nodes u.nodes u.chain refl refl (vec_capacity c.self.inside.closed) refl refl) (record {
      places = same_places old.resources new.resources u.resources.rest;
      stored = stored_removed c.self.inside.register.base g.R.Resource h law old new s.between.tied.of_tree.stored c.promise-2.ensures.resources_apart
          u.nodes (store_key c.args.res) f.stowed f.found u.resources;
      leased = leased_still g.R.Resource s refl refl refl (λ l res is. still_there (store_key c.args.res) u.resources (store_key res) is.stored);
      held = held_rewritten old new _ (store_key c.args.res) removed u.nodes u.resources (removed_held old.nodes);
      leases = leases_stay _ _ _ refl;
    }))
