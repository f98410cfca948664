use Rattle.rx_ground.proofs.Common.{◌-◌, ◌∙◌, sym, ap, w64, refl, vec_capacity, to_z-of_z, Slots, Node, AreTied, Item}
use Rattle.rx_ground.proofs.EventWritten.{ground_of, HasMarks, step, changes_marks, wrote_marks}
use Rattle.rx_ground.proofs.ItemWentItsWay.{arrived_writes, arrived_tied}
use Rattle.rx_ground.proofs.OwedCountBounded.{owed_in-bounded}
use Rattle.rx_ground.proofs.WayAsInHistory.{walk_tied}
use Rattle.rx_ground.proofs.base.Ground.write_item.Given.{Over}
use Rattle.rx_ground.proofs.base.Ground.write_item.Goals as goal
use Rattle.std.proofs.Common.{rules}

pub pass-requires-clause-walk : goal.pass-requires-clause-walk
pass-requires-clause-walk g c κs within = let tied : AreTied _ g.R.Resource _ _ c.self.inside.hubs = rw (← c.self.view_is) at c.requires.between.tied in
    walk_tied _ tied c.promise-2.ensures.sound

pub pass-requires-clause-countable : goal.pass-requires-clause-countable
pass-requires-clause-countable g c κs within = let tied : AreTied _ g.R.Resource _ _ c.self.inside.hubs = rw (← c.self.view_is) at c.requires.between.tied
    in owed_in-bounded g.R.Resource _ _ tied.of_tree c.promise.ensures c.promise-2.ensures.sound.apart

pub pass-requires-clause-only : goal.pass-requires-clause-only
pass-requires-clause-only g c κs within = search rules

-- what the call leaves
left : (g : Over) (c : goal.After-write g) → (let b = c.self.inside in HasMarks g.R.Resource
    (ground_of b.register b.tree b.hubs b.leases b.closed.items (vec_capacity b.closed))
    (ground_of c.write.new.self c.pass.new.tree b.hubs b.leases b.closed.items (vec_capacity b.closed)) (Item c.args.leaf.number c.args.value))
left g c =
    let law = c.promise.ensures.lawful in
    let w = c.write.ensures in
    let passed = rw (to_z-of_z w64 c.args.value c.ranges.value) at c.pass.ensures.passed in
    let events = rw (to_z-of_z w64 c.args.value c.ranges.value) at w.events in
    let s = step g.R.Resource c.self.view_is law c.requires.between c.requires.ready (arrived_writes c.self.inside.register c.self.inside.tree
    c.args.leaf.number c.args.value c.pass.new.register c.pass.new.tree passed c.write.new.self w.base events w.pending w.room w.limit w.given w.mail_room) in
    record {
      s = s;
      tied = arrived_tied c.self.inside.register c.self.inside.tree c.args.leaf.number c.args.value c.pass.new.register c.pass.new.tree passed
          g.R.Resource c.self.inside.hubs law s.next s.between.tied;
      kept = record { from = λ key some. sym (passed.there key) ∙ some; still = λ key some alive. passed.there key ∙ some };
      places = passed.places;
      resources = passed.resources;
      rest = refl;
      space = ap (λ (n : Slots Node). vec_capacity c.self.inside.closed - n.count) passed.places;
    }

pub returns-clause-wrote : goal.returns-clause-wrote
returns-clause-wrote g c = rw (← c.self.view_is) (wrote_marks g.R.Resource (left g c) refl refl refl)

pub returns-clause-frame : goal.returns-clause-frame
returns-clause-frame g c = rw (← c.self.view_is) (changes_marks g.R.Resource (left g c))
