use Rattle.rx_ground.proofs.Common.{◌≡◌, ◌∷◌, ◌++◌, [], ap, arith, refl, sym, subst, true, is_some, vec_capacity, Take, allowed, IsTied, IsReady, AreStored}
use Rattle.rx_ground.specs.Wrote.{IsBetween}
use Rattle.rx_event.specs.Resources.{is_waiting}
use Rattle.rx_ground.proofs.EventWritten.{seen, step, same_nodes, leased_still, wrote_resources}
use Rattle.rx_ground.proofs.RegisterAfterWrite.{writes_silent}
use Rattle.rx_ground.proofs.ResourcesAfterEvent.{stored_taken}
use Rattle.rx_ground.proofs.HeldKept.{held_gone}
use Rattle.rx_ground.proofs.TakenResourceWaited.{takes_waiting, takes_live, takes_listed, none_waits}
use Rattle.rx_ground.proofs.LeasesAfterEvent.{taken_still}
use Rattle.rx_ground.proofs.Laws.KeysKept.{leases_stay}
use Rattle.rx_ground.proofs.base.Ground.write_take.Given.{Over}
use Rattle.rx_ground.proofs.base.Ground.write_take.Goals as goal
use Rattle.rx_ground.proofs.base.Ground.write_take.Goals.{In_ok-number}
use Rattle.std.proofs.Common.{rules}

pub returns-in_err-number-clause-waited : goal.returns-in_err-number-clause-waited
returns-in_err-number-clause-waited g c = search (rules, none_waits)

pub write-requires-clause-next : goal.write-requires-clause-next
write-requires-clause-next g c = search (rules, allowed, takes_waiting)

ready : (g : Over) (c : In_ok-number g) → IsReady c.self.inside.register (Take c.in_ok-number.number)
ready g c = let tied : IsTied _ g.R.Resource _ c.self.inside.tree = rw (← c.self.view_is) at c.requires.between.tied.of_tree in (rw (← c.self.view_is) at
    c.requires.room) _ (takes_waiting g.R.Resource _ _ _ _ _ _ tied c.in_ok-number.ensures.some)

pub write-requires-clause-room : goal.write-requires-clause-room
write-requires-clause-room g c = (ready g (goal.at.write-requires-clause-room g c).In_ok-number).room

pub write-requires-clause-told : goal.write-requires-clause-told
write-requires-clause-told g c = (ready g (goal.at.write-requires-clause-told g c).In_ok-number).pending

pub new-requires-clause-live : goal.new-requires-clause-live
new-requires-clause-live g c κs within = search (rules, takes_live)

pub returns-clause-waited : goal.returns-clause-waited
returns-clause-waited g c = rw (c.new.ensures, ← c.self.view_is) (takes_listed g.R.Resource _ _ _ _ c.in_ok-number.ensures.some)

pub returns-clause-wrote : goal.returns-clause-wrote
returns-clause-wrote g c =
    let base = c.self.inside.register.base in
    let h = c.self.inside.register.history in
    let old = c.self.inside.tree in
    let new = c.take_waiting.new.self in
    let law = c.promise.ensures.lawful in
    let w = c.write.ensures in
    let u = c.in_ok-number.ensures in
    let t = u.some in
    let fewer = t.count in
    let more = t.room in
    let between = seen (IsBetween g.R.Resource) c.self.view_is c.requires.between in
    let waits = subst (λ n. is_waiting h n ≡ true) (sym t.numbered) (takes_waiting g.R.Resource h _ _ _ _ base between.tied.of_tree t) in
    let s = step g.R.Resource refl law between (ready g (goal.at.returns-clause-wrote g c).In_ok-number)
    (writes_silent refl w.base w.events w.pending w.room w.limit w.given w.mail_room) in
    rw (c.new.ensures, ← c.self.view_is) (wrote_resources g.R.Resource s (record { shuts = refl; makes = refl; joins = refl; untouched = λ k n. refl })
    (same_nodes u.nodes u.chain refl refl (vec_capacity c.self.inside.closed) refl refl) (record {
      places = omega arith;
      stored = subst (λ n. AreStored base g.R.Resource (h ++ Take n ∷ []) new) t.numbered (stored_taken base g.R.Resource h law old new
          between.tied.of_tree.stored c.promise-2.ensures.resources_apart u.nodes t.key (ap is_some t.found) t.gone t.others);
      leased = leased_still g.R.Resource s refl refl refl (taken_still new.resources law t.key waits t.others);
      held = held_gone old new _ t.key u.nodes t.others t.gone;
      leases = leases_stay _ _ _ refl;
    }))
