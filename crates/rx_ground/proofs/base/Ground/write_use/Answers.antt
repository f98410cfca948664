use Rattle.rx_ground.proofs.Common.{arith, refl, ◌<◌, ◌+◌, vec_capacity, store_key, stowed_of, with_resource, Uses}
use Rattle.rx_ground.proofs.EventWritten.{step, same_nodes, leased_still, wrote_resources}
use Rattle.rx_ground.proofs.Memory.{same_places}
use Rattle.rx_ground.proofs.RegisterAfterWrite.{writes_silent}
use Rattle.rx_ground.proofs.ResourcesAfterEvent.{stored_used}
use Rattle.rx_ground.proofs.StaysTied.{still_there}
use Rattle.rx_ground.proofs.HeldKept.{held_rewritten}
use Rattle.rx_ground.proofs.Newest.{held_stored, of_found, if_found}
use Rattle.rx_ground.proofs.Laws.KeysKept.{leases_stay}
use Rattle.rx_ground.proofs.base.Ground.write_use.Goals as goal

pub apply-answer-requires-clause-live : goal.apply-answer-requires-clause-live
apply-answer-requires-clause-live g c κs within =
    let f = held_stored g.R.Resource c.self.view_is c.requires.between c.args.res c.requires.held in if_found _ f.stowed _ f.found f.is.live

pub apply-answer-requires-clause-countable : goal.apply-answer-requires-clause-countable
apply-answer-requires-clause-countable g c κs within =
    let f = held_stored g.R.Resource c.self.view_is c.requires.between c.args.res c.requires.held in
    let used = f.is.uses in
    let less = f.is.few in
    let p = c.promise.ensures.placed in
    let w = c.promise.ensures.within in
    let l = c.promise.ensures.limited in
    if_found (stowed_of c.self.inside.tree c.args.res) f.stowed (λ s. g.R.Resource.uses_of s.resource + 1 < 18446744073709551616) f.found (omega arith)

pub returns-clause-wrote : goal.returns-clause-wrote
returns-clause-wrote g c =
    let h = c.self.inside.register.history in
    let old = c.self.inside.tree in
    let new = c.apply-answer.new.self in
    let law = c.promise.ensures.lawful in
    let w = c.write.ensures in
    let f = held_stored g.R.Resource c.self.view_is c.requires.between c.args.res c.requires.held in
    let u = of_found (stowed_of old c.args.res) f.stowed (Uses g.R.Resource old new c.args.res) f.found c.apply-answer.ensures in
    let s = step g.R.Resource c.self.view_is law c.requires.between c.requires.ready
    (writes_silent refl w.base w.events w.pending w.room w.limit w.given w.mail_room) in
    rw (← c.self.view_is) (wrote_resources g.R.Resource s (record { shuts = refl; makes = refl; joins = refl; untouched = λ k n. refl })
    (same_nodes u.nodes u.chain refl refl (vec_capacity c.self.inside.closed) refl refl) (record {
      places = same_places old.resources new.resources u.written.rest;
      stored = stored_used c.self.inside.register.base g.R.Resource h law old new s.between.tied.of_tree.stored c.promise-2.ensures.resources_apart
          u.nodes (store_key c.args.res) f.stowed u.after f.found u.uses u.tag u.life u.written;
      leased = leased_still g.R.Resource s refl refl refl (λ l res is. still_there (store_key c.args.res) u.written (store_key res) is.stored);
      held = held_rewritten old new _ (store_key c.args.res) (with_resource u.after) u.nodes u.written (λ x h. h);
      leases = leases_stay _ _ _ refl;
    }))
