use Rattle.rx_ground.proofs.Common.{◌∷◌, [], ◌-◌, ◌∙◌, refl, sym, ap, subst, arith, Option, option_map_or, false, length, vec_capacity, IsSome, end_by}
use Rattle.rx_ground.proofs.Common.{Event, End, is_root, find, Slots, Node, State, Writes}
use Rattle.rx_ground.proofs.EventWritten.{ground_of, IsClosing, closes, wrote_closing}
use Rattle.rx_ground.proofs.NodeEnds.{IsReadyToEnd, ready_to_end, above_there, above_counted, ended}
use Rattle.rx_ground.proofs.RegisterAfterWrite.{TellsOf, writes_told}
use Rattle.rx_slots.proofs.Laws.EntryByNumber.{find-value_at}
use Rattle.rx_ground.proofs.base.Ground.write_end.Given.{Over}
use Rattle.rx_ground.proofs.base.Ground.write_end.Goals as goal
use Rattle.rx_ground.proofs.base.Ground.write_end.Goals.{After-self-2}

-- all is ready for the end
ready : (g : Over) (c : After-self-2 g) → (let b = c.self.inside in let m = c.self-2.inside in IsReadyToEnd g.R.Resource c.args.node c.args.terminal
    c.at-record.result.now.node.made c.parent-above.result (ground_of b.register b.tree b.hubs b.leases b.closed.items (vec_capacity b.closed))
    (ground_of m.register m.tree m.hubs m.leases m.closed.items (vec_capacity m.closed)))
ready g c =
    let nodes = c.self.inside.tree.nodes in
    let there : IsSome (find nodes c.args.node) = rw (← c.self.view_is) at c.requires.open in
    ready_to_end g.R.Resource c.self.view_is c.self-2.view_is c.promise.ensures.lawful c.promise-2.ensures.sound c.requires.between c.requires.ready
    (find-value_at nodes c.args.node there ∙ c.at-record.ensures.value) c.parent-above.ensures c.at-record.ensures.above c.len-place.ensures c.cut.ensures

pub tell_end-requires-clause-root : goal.tell_end-requires-clause-root
tell_end-requires-clause-root g c =
    let r = ready g (goal.at.tell_end-requires-clause-root g c).After-self-2 in
    rw r.cut.register (c.is_root-is_root.ensures ∙ sym (ap (λ (o : Option Event). option_map_or is_root o false) r.at_n))

pub mark_end-requires-clause-there : goal.mark_end-requires-clause-there
mark_end-requires-clause-there g c κs within =
    above_there g.R.Resource c.parent-above.result (ready g (goal.at.mark_end-requires-clause-there g c).After-self-2)

pub mark_end-requires-clause-child : goal.mark_end-requires-clause-child
mark_end-requires-clause-child g c κs within =
    above_counted g.R.Resource c.parent-above.result (ready g (goal.at.mark_end-requires-clause-child g c).After-self-2)

pub invariant_of-self : goal.invariant_of-self
invariant_of-self g c =
    let count = ap (λ (n : Slots Node). n.count) c.mark_end.ensures.rest in ((let room = c.self-2.invariant.0 in omega arith), c.self-2.invariant.1)

-- what the call leaves
left : (g : Over) (c : goal.After-mark_end g) → (let b = c.self.inside in let m = c.self-2.inside in let e : Event = End c.args.node.number c.args.terminal in
    IsClosing g.R.Resource (ground_of b.register b.tree b.hubs b.leases b.closed.items (vec_capacity b.closed))
    (ground_of m.register m.tree m.hubs m.leases m.closed.items (vec_capacity m.closed))
    (ground_of c.write.new.self c.mark_end.new.tree m.hubs m.leases m.closed.items (vec_capacity m.closed))
    e c.args.node.number (end_by (length b.register.history) e))
left g c =
    let r = ready g (goal.at.returns-clause-wrote g c).After-self-2 in
    let m = c.mark_end.ensures in
    let e : Event = End c.args.node.number c.args.terminal in
    let w = c.write.ensures in
    let tells : TellsOf e c.self-2.inside.register c.tell_end.new.register = record { same = c.tell_end.ensures.kept; notes = c.tell_end.ensures.mail_room } in
    let written = writes_told {told = c.tell_end.new.register} tells w.base w.events w.pending w.room w.limit w.given w.mail_room in
    ended g.R.Resource c.parent-above.result r (subst (λ (q : State). Writes q (e ∷ []) c.write.new.self) r.cut.register written)
    c.promise-3.ensures.sound.apart (rw c.is_source-is_source.ensures at m.marked) m.none m.rest m.resources refl
    (ap (λ (k : Slots Node). vec_capacity c.self-2.inside.closed - k.count) m.rest)

pub returns-clause-wrote : goal.returns-clause-wrote
returns-clause-wrote g c = rw (← c.self.view_is) (wrote_closing g.R.Resource (left g c) refl refl)

pub returns-clause-frame : goal.returns-clause-frame
returns-clause-frame g c = rw (← c.self.view_is) (closes g.R.Resource (left g c))
