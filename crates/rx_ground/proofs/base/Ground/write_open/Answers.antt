use Rattle.rx_ground.proofs.Common.{is_some, ◌≡◌, refl, ◌∙◌, arith, ◌∷◌, [], ◌+◌, ap, vec_capacity, subst, Open, Slots, Node, Hubs, State, Writes}
use Rattle.rx_ground.proofs.EventWritten.{ground_of, HasOpened, step, opens_node, wrote_opening}
use Rattle.rx_ground.proofs.Memory.{memory_after}
use Rattle.rx_ground.proofs.RegisterAfterWrite.{writes_silent}
use Rattle.rx_ground.proofs.ReadyToOpen.{IsOpenedBelow, stands_below, opened_new, owes_above, above_there_still, quiet_above, newest_left, placed_left}
use Rattle.rx_ground.proofs.ReadyToOpen.{way_resources}
use Rattle.rx_ground.proofs.HubsAtOpening.{rest_same, joined_left, stands_left, found_before, ready_left, older_left, all_opened, as_many_opened, hubs_opened}
use Rattle.rx_ground.proofs.RoomAtOpening.{IsWayMade, way_made, few_children, slot_within, closes_opened}
use Rattle.rx_ground.proofs.HubsBesideTree.{slot_free, some_hub}
use Rattle.rx_ground.proofs.base.Ground.write_open.Given.{Over}
use Rattle.rx_ground.proofs.base.Ground.write_open.Goals as goal
use Rattle.rx_ground.proofs.base.Ground.write_open.Goals.{After-open, After-join}
use Rattle.std.proofs.Common.{rules}

-- way is made in what the call finds
way : (g : Over) (c : goal.After-open-arg-1 g) → (let b = c.self.inside in let l = c.self-2.inside in
    IsWayMade g.R.Resource c.args.place c.args.kind (ground_of b.register b.tree b.hubs b.leases b.closed.items (vec_capacity b.closed))
    (ground_of l.register l.tree l.hubs l.leases l.closed.items (vec_capacity l.closed)) c.exchange-replaces.result)
way g c = way_made c.self.view_is c.self-2.view_is c.promise.ensures.lawful c.requires.ready.next c.requires.between.tied c.promise-2.ensures.sound
    c.exchange-replaces.ensures

pub open-requires-clause-newest : goal.open-requires-clause-newest
open-requires-clause-newest g c κs within = newest_left (way g c).ready c.len-number.result c.len-number.ensures

pub open-requires-clause-placed : goal.open-requires-clause-placed
open-requires-clause-placed g c κs within = placed_left (way g c).ready c.len-number.result c.args.above c.len-number.ensures
    (rw (← c.self.view_is) at c.requires.placed)

-- the node, which takes one place of what is free, stands below the one that its place names
below : (g : Over) (c : After-join g) → IsOpenedBelow c.self.inside.register.history c.args.place c.args.kind c.args.above
    c.self.inside.tree c.self-2.inside.tree c.open.new.self c.in-Ok.key
below g c = search (rules, stands_below)

place_taken : (g : Over) (c : After-open g) → c.open.new.self.nodes.room + 1 ≡ c.self-2.inside.tree.nodes.room
place_taken g c = search rules

pub join-requires-clause-there : goal.join-requires-clause-there
join-requires-clause-there g c = λ n same.
    let ready = (way g (goal.at.join-requires-clause-there g c).After-open.before).ready in
    stands_left ready _ n ((rw (← c.self.view_is) at c.requires.found) n same (found_before ready n same))

pub join-requires-clause-newest : goal.join-requires-clause-newest
join-requires-clause-newest g c = λ n same. older_left (way g (goal.at.join-requires-clause-newest g c).After-open.before).ready c.in-Ok.key.number n
    (c.in-Ok.ensures.numbered ∙ c.len-number.ensures) same

pub join-requires-clause-free : goal.join-requires-clause-free
join-requires-clause-free g c = slot_free c.self-2.inside.tree.nodes c.in-Ok.key.slot c.self-2.inside.hubs.hubs
    (joined_left (way g (goal.at.join-requires-clause-free g c).After-open.before).ready) c.in-Ok.ensures.was_free

pub join-requires-clause-slot : goal.join-requires-clause-slot
join-requires-clause-slot g c = λ n same.
    let opened = (goal.at.join-requires-clause-slot g c).After-open in
    let w = way g opened.before in
    let r = ready_left w.ready n same in
    let here = c.slots-slots.ensures.within c.in-Ok.key (ap is_some c.in-Ok.ensures.opened) in
    let more = c.in-Ok.ensures.count in
    let less = place_taken g opened in
    slot_within w.stays (rest_same w.ready) (rw (← c.self.view_is) at c.requires.slots) (some_hub c.self-2.inside.hubs.hubs n r.0 r.1)
    c.in-Ok.key.slot (omega arith)

pub mark_opened-requires-clause-there : goal.mark_opened-requires-clause-there
mark_opened-requires-clause-there g c κs within = let at = goal.at.mark_opened-requires-clause-there g c in
    above_there_still (way g at.After-open.before).ready c.args.above (below g at.After-join)

pub mark_opened-requires-clause-found : goal.mark_opened-requires-clause-found
mark_opened-requires-clause-found g c κs within = let at = goal.at.mark_opened-requires-clause-found g c in
    few_children (way g at.After-open.before) c.promise.ensures (below g at.After-join)

pub mark_opened-requires-clause-owes : goal.mark_opened-requires-clause-owes
mark_opened-requires-clause-owes g c κs within = let at = goal.at.mark_opened-requires-clause-owes g c in
    owes_above (way g at.After-open.before).ready (below g at.After-join)

pub mark_opened-requires-clause-quiet : goal.mark_opened-requires-clause-quiet
mark_opened-requires-clause-quiet g c κs within = let at = goal.at.mark_opened-requires-clause-quiet g c in
    quiet_above (way g at.After-open.before).ready c.args.above (below g at.After-join)

-- what the call leaves
left : (g : Over) (c : goal.After-write g) → (let b = c.self.inside in let l = c.self-2.inside in HasOpened g.R.Resource
    (ground_of b.register b.tree b.hubs b.leases b.closed.items (vec_capacity b.closed))
    (ground_of c.write.new.self c.mark_opened.new.tree c.join.new.hubs l.leases l.closed.items (vec_capacity l.closed))
    (Open c.args.place c.args.kind) c.in-Ok.key)
left g c =
    let at = goal.at.returns-clause-wrote g c in
    let way = way g at.After-open.before in
    let below = below g at.After-join in
    let law = c.promise.ensures.lawful in
    let w = c.write.ensures in
    let m = c.mark_opened.ensures in
    let space = rw (← c.self.view_is) at c.requires.space in
    let closing = way.stays.memory.closing in
    let within = c.self-2.invariant.0 in
    let more = c.in-Ok.ensures.count in
    let less = place_taken g at.After-open in
    let count = ap (λ (s : Slots Node). s.count) m.rest in
    let room = ap (λ (s : Slots Node). s.room) m.rest in
    let s = step g.R.Resource c.self.view_is law c.requires.between c.requires.ready
    (subst (λ (r : State). Writes r (Open c.args.place c.args.kind ∷ []) c.write.new.self) way.stays.register
    (writes_silent refl w.base w.events w.pending w.room w.limit w.given w.mail_room)) in
    record {
      s = s;
      tied = all_opened way.ready c.args.above below c.promise-3.ensures.sound.apart m.marked m.none c.join.ensures;
      is_new = opened_new way.ready c.mark_opened.new.tree c.args.above below m.marked m.none;
      resources = m.resources ∙ c.in-Ok.ensures.resources ∙ way_resources way.ready;
      hubs = hubs_opened way.ready c.in-Ok.key (c.in-Ok.ensures.numbered ∙ c.len-number.ensures) c.join.ensures;
      leases = way.stays.leases;
      closed = closes_opened way s.written.history refl;
      memory = memory_after way.stays.memory (Open c.args.place c.args.kind ∷ []) s.written (omega arith) (m.resources ∙ c.in-Ok.ensures.resources) (omega arith)
          (as_many_opened c.in-Ok.key c.args.place c.args.kind c.self-2.inside.hubs c.join.ensures) (ap (λ (s : Hubs). s.slots) c.join.ensures);
    }

pub returns-clause-wrote : goal.returns-clause-wrote
returns-clause-wrote g c = rw (← c.self.view_is) (wrote_opening g.R.Resource (left g c) refl refl)

pub returns-clause-frame : goal.returns-clause-frame
returns-clause-frame g c = rw (← c.self.view_is) (opens_node g.R.Resource (left g c))

pub returns-clause-left : goal.returns-clause-left
returns-clause-left g c = search (rules, place_taken)
