use Rattle.rx_ground.proofs.Common.{◌∙◌, ◌<◌, ap, arith, refl, is_some, IsSome, vec_capacity, find, with_number, store_key, may_accept, none_not_some}
use Rattle.rx_ground.proofs.EventWritten.{step, same_nodes, leased_still, wrote_resources}
use Rattle.rx_ground.proofs.RegisterAfterWrite.{writes_silent}
use Rattle.rx_ground.proofs.ResourcesAfterEvent.{stored_accepted}
use Rattle.rx_ground.proofs.HeldKept.{held_new}
use Rattle.rx_ground.proofs.Newest.{past_resources}
use Rattle.rx_ground.proofs.Laws.KeysKept.{leases_stay}
use Rattle.rx_ground.proofs.base.Ground.write_accept.Goals as goal
use Rattle.std.proofs.Common.{rules}

pub hold-requires-clause-newest : goal.hold-requires-clause-newest
hold-requires-clause-newest g c κs within = search (rules, past_resources)

pub returns-clause-wrote : goal.returns-clause-wrote
returns-clause-wrote g c =
    let h = c.self.inside.register.history in
    let old = c.self.inside.tree in
    let new = c.hold.new.self in
    let law = c.promise.ensures.lawful in
    let w = c.write.ensures in
    let u = c.in-Ok.ensures in
    let key = store_key c.in-Ok.res in
    let there : IsSome (find old.nodes c.args.node) = rw (← c.self.view_is) at c.requires.open in
    let room : 0 < old.resources.room = rw (← c.self.view_is) at c.requires.room in
    let more = u.count in
    let less = u.had_room room in
    let numbered = u.numbered ∙ c.len-number.ensures in
    let s = step g.R.Resource c.self.view_is law c.requires.between c.requires.ready
    (writes_silent refl w.base (rw c.tag-tag.ensures at w.events) w.pending w.room w.limit w.given w.mail_room) in
    rw (← c.self.view_is) (wrote_resources g.R.Resource s (record { shuts = refl; makes = refl; joins = refl; untouched = λ k n. refl })
    (same_nodes u.nodes u.chain refl refl (vec_capacity c.self.inside.closed) refl refl) (record {
      places = omega arith;
      stored = stored_accepted c.self.inside.register.base g.R.Resource h law old new s.between.tied.of_tree.stored c.promise-2.ensures.resources_apart
          u.nodes there (may_accept c.self.inside.register.base s.next) c.requires.live c.requires.unused
          (record { numbered = numbered; free = u.was_free; found = u.held; others = u.kept });
      leased = leased_still g.R.Resource s refl refl refl (λ l res is. ap is_some (u.kept (store_key res) (λ same. none_not_some _
          (ap (find old.resources) same ∙ ap (with_number c.in-Ok.res.number) u.was_free) is.stored)) ∙ is.stored);
      held = held_new old new _ key u.nodes u.kept numbered;
      leases = leases_stay _ _ _ refl;
    }))
