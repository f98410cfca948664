use Rattle.rx_ground.proofs.Common.{◌-◌, ap, refl, IsSome, arith, vec_capacity, after_decline, may_decline, find, Slots, Node, Remarks, Decline}
use Rattle.rx_ground.proofs.EventWritten.{ground_of, HasMarks, step, changes_marks, wrote_marks}
use Rattle.rx_ground.proofs.RegisterAfterWrite.{writes_silent}
use Rattle.rx_ground.proofs.OwedCountBounded.{owes_told}
use Rattle.rx_ground.proofs.StaysTied.{tied_decline, remarked_keeps}
use Rattle.rx_ground.proofs.TiedWhileSettling.{found_marked}
use Rattle.rx_ground.proofs.HubsAfterEvent.{tied_on_marked}
use Rattle.rx_ground.proofs.base.Ground.write_decline.Given.{Over}
use Rattle.rx_ground.proofs.base.Ground.write_decline.Goals as goal
use Rattle.std.proofs.Common.{rules}

pub mark_decline-requires-clause-owes : goal.mark_decline-requires-clause-owes
mark_decline-requires-clause-owes g c κs within = search (rules, owes_told, may_decline)

marked : (g : Over) (c : goal.After-write g) → Remarks c.self.inside.tree c.mark_decline.new.self c.args.merging after_decline
marked g c =
    let is : IsSome (find c.self.inside.tree.nodes c.args.merging) = rw (← c.self.view_is) at c.requires.open in
    found_marked after_decline is c.mark_decline.ensures.nodes c.mark_decline.ensures.chain c.mark_decline.ensures.resources

pub invariant_of-self : goal.invariant_of-self
invariant_of-self g c =
    let count = ap (λ (s : Slots Node). s.count) (marked g c).nodes.rest in
    ((let room = c.self.invariant.0 in omega arith), c.self.invariant.1)

-- what the call leaves
left : (g : Over) (c : goal.After-write g) → (let b = c.self.inside in HasMarks g.R.Resource
    (ground_of b.register b.tree b.hubs b.leases b.closed.items (vec_capacity b.closed))
    (ground_of c.write.new.self c.mark_decline.new.self b.hubs b.leases b.closed.items (vec_capacity b.closed)) (Decline c.args.merging.number))
left g c =
    let law = c.promise.ensures.lawful in
    let w = c.write.ensures in
    let m = marked g c in
    let s = step g.R.Resource c.self.view_is law c.requires.between c.requires.ready
    (writes_silent refl w.base w.events w.pending w.room w.limit w.given w.mail_room) in
    let there : IsSome (find c.self.inside.tree.nodes c.args.merging) = rw (← c.self.view_is) at c.requires.open in
    record {
      s = s;
      tied = tied_on_marked g.R.Resource law s.next s.between.tied refl refl m (tied_decline _ g.R.Resource _ law _ _
          s.between.tied.of_tree c.promise-2.ensures.sound c.args.merging there s.next m);
      kept = remarked_keeps _ _ _ c.args.merging after_decline m;
      places = m.nodes.rest;
      resources = m.resources;
      rest = refl;
      space = ap (λ (n : Slots Node). vec_capacity c.self.inside.closed - n.count) m.nodes.rest;
    }

pub returns-clause-wrote : goal.returns-clause-wrote
returns-clause-wrote g c = rw (← c.self.view_is) (wrote_marks g.R.Resource (left g c) refl refl refl)

pub returns-clause-frame : goal.returns-clause-frame
returns-clause-frame g c = rw (← c.self.view_is) (changes_marks g.R.Resource (left g c))
