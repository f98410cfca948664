use Rattle.rx_ground.proofs.Common.{None, refl, subst, ◌∷◌, [], vec_capacity, Close, Writes, State, is_open_outside-close}
use Rattle.rx_hub.proofs.Laws.AfterCases.{hubs_closed}
use Rattle.rx_ground.proofs.EventWritten.{ground_of, IsClosing, cut_seen, step, closes, wrote_closing}
use Rattle.rx_ground.proofs.RegisterAfterWrite.{writes_silent}
use Rattle.rx_ground.proofs.StaysTied.{tied_close, cut_keeps}
use Rattle.rx_ground.proofs.base.Ground.write_close.Given.{Over}
use Rattle.rx_ground.proofs.base.Ground.write_close.Goals as goal

-- what the call leaves
left : (g : Over) (c : goal.After-write g) → (let b = c.self.inside in let m = c.self-2.inside in IsClosing g.R.Resource
    (ground_of b.register b.tree b.hubs b.leases b.closed.items (vec_capacity b.closed))
    (ground_of m.register m.tree m.hubs m.leases m.closed.items (vec_capacity m.closed))
    (ground_of c.write.new.self m.tree m.hubs m.leases m.closed.items (vec_capacity m.closed)) (Close c.args.node.number) c.args.node.number None)
left g c =
    let b = c.self.inside in
    let m = c.self-2.inside in
    let n = c.args.node.number in
    let law = c.promise.ensures.lawful in
    let sound = c.promise-2.ensures.sound in
    let w = c.write.ensures in
    let x = cut_seen c.self.view_is c.self-2.view_is c.cut.ensures in
    let s = step g.R.Resource c.self.view_is law c.requires.between c.requires.ready (subst (λ (r : State). Writes r (Close n ∷ []) c.write.new.self)
    x.register (writes_silent refl w.base w.events w.pending w.room w.limit w.given w.mail_room)) in
    let tied = s.between.tied.of_tree in
    record {
      s = s;
      sound = sound;
      cut = x;
      after = hubs_closed b.register.history n 0 b.hubs.hubs s.between.tied.published;
      outside = is_open_outside-close b.register.history n;
      tied = tied_close n law s.next b.tree m.tree tied sound x.cuts;
      kept = cut_keeps _ b.register.history (Close n) b.tree m.tree tied.records sound n (is_open_outside-close b.register.history n) x.cuts;
      places = refl;
      resources = refl;
      rest = refl;
      space = refl;
    }

pub returns-clause-wrote : goal.returns-clause-wrote
returns-clause-wrote g c = rw (← c.self.view_is) (wrote_closing g.R.Resource (left g c) refl refl)

pub returns-clause-frame : goal.returns-clause-frame
returns-clause-frame g c = rw (← c.self.view_is) (closes g.R.Resource (left g c))
