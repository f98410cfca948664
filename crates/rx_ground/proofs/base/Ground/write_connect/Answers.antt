use Rattle.rx_ground.proofs.Common.{is_some, None, ℕ, refl, ◌∙◌, arith, ◌∷◌, [], ◌+◌, ◌-◌, ◌<◌, ap, vec_capacity, Key}
use Rattle.rx_ground.proofs.Common.{IsSome, length, Event, Connect, is_open_kept, Slots, find, Stowed, Hubs, connected}
use Rattle.rx_ground.proofs.Common.{ready_to_connect, closed_keys, AreTied, Hub, List, sym}
use Rattle.rx_ground.proofs.StaysTied.{IsOpenedIn, OpensTop, found_still, tied_top}
use Rattle.rx_ground.proofs.Records.{all_left}
use Rattle.rx_ground.proofs.HubsBesideTree.{as_many_at}
use Rattle.rx_ground.proofs.Memory.{written_memory}
use Rattle.rx_ground.proofs.RegisterAfterWrite.{writes_silent}
use Rattle.rx_ground.proofs.Newest.{newest}
use Rattle.rx_ground.proofs.HubsAfterEvent.{connected_after, tied_connected}
use Rattle.rx_ground.proofs.EventWritten.{ground_of, HasOpened, step, opens_node, wrote_opening}
use Rattle.rx_ground.proofs.Laws.GoneStaysGone.{closes_quiet}
use Rattle.rx_ground.proofs.base.Ground.write_connect.Given.{Over}
use Rattle.rx_ground.proofs.base.Ground.write_connect.Goals as goal
use Rattle.std.proofs.Common.{rules}

pub open-requires-clause-newest : goal.open-requires-clause-newest
open-requires-clause-newest g c κs within = search (rules, AreTied, newest)

pub open-requires-clause-placed : goal.open-requires-clause-placed
open-requires-clause-placed g c κs within = record { makes = refl; named = refl; lower = tt; there = tt }

pub connect-requires-clause-there : goal.connect-requires-clause-there
connect-requires-clause-there g c = search (rules, AreTied, ready_to_connect, is_some)

pub connect-requires-clause-unconnected : goal.connect-requires-clause-unconnected
connect-requires-clause-unconnected g c = search (rules, AreTied, ready_to_connect)

-- the tree has the connection's node
opened_in : (g : Over) (c : goal.After-write g) →
    IsOpenedIn c.self.inside.register.history (Connect c.args.hub) None c.self.inside.tree c.open.new.self c.in-Ok.key
opened_in g c = search rules

-- nodes that are older were there
before : (g : Over) (c : goal.After-write g) → (k : Key) → IsSome (find c.open.new.self.nodes k) → k.number < length c.self.inside.register.history →
    IsSome (find c.self.inside.tree.nodes k)
before g c k some less = search (rules, opened_in, is_some)

-- what the call leaves
left : (g : Over) (c : goal.After-write g) → (let b = c.self.inside in HasOpened g.R.Resource
    (ground_of b.register b.tree b.hubs b.leases b.closed.items (vec_capacity b.closed))
    (ground_of c.write.new.self c.open.new.self c.connect.new.self b.leases b.closed.items (vec_capacity b.closed)) (Connect c.args.hub) c.in-Ok.key)
left g c =
    let old = c.self.inside in
    let h = old.register.history in
    let e : Event = Connect c.args.hub in
    let law = c.promise.ensures.lawful in
    let w = c.write.ensures in
    let opened = opened_in g c in
    let s = step g.R.Resource c.self.view_is law c.requires.between c.requires.ready
    (writes_silent refl w.base w.events w.pending w.room w.limit w.given w.mail_room) in
    let was = s.between.tied in
    let stays = all_left _ h e law s.next old.tree.nodes old.tree.chain was.of_tree.records (λ n less. is_open_kept h e n less refl) in
    let opens : OpensTop h e = record {
      makes = refl;
      none = refl;
      top = refl;
      untouched = λ n. refl;
      apart = λ r. record { removes = refl; takes = refl; uses = refl; leases = refl; returns = refl };
    } in
    let tied = tied_top _ g.R.Resource h law old.tree old.tree _ was.of_tree _ s.next opens stays refl opened in
    let room : 0 < old.tree.nodes.room = rw (← c.self.view_is) at c.requires.room in
    let space : 0 < (vec_capacity old.closed - old.tree.nodes.count) - length (closed_keys old.closed.items) = rw (← c.self.view_is) at c.requires.space in
    let within = c.self.invariant.0 in
    let more = c.in-Ok.ensures.count in
    let less = c.in-Ok.ensures.had_room room in
    let hubs = ap (λ (hs : Hubs). length hs.hubs + hs.room) c.connect.ensures ∙
    ap (λ (n : ℕ). n + old.hubs.room) (as_many_at _ (connected _) old.hubs.hubs) in
    record {
      s = s;
      tied = tied_connected g.R.Resource {later = c.connect.new.self} law s.next was opened (ap (λ (hs : Hubs). hs.hubs) c.connect.ensures) tied;
      is_new = record { numbered = opened.numbered; found = ap is_some opened.found; from = before g c };
      resources = opened.resources;
      hubs = c.connect.ensures ∙ ap (λ (hs : List Hub). record old.hubs { hubs = hs })
          (sym (connected_after h c.args.hub c.in-Ok.key old.hubs.hubs was.published opened.numbered));
      leases = refl;
      closed = closes_quiet e s.next refl s.written refl;
      memory = written_memory (e ∷ []) s.written (omega arith) (ap (λ (n : Slots (Stowed g.row.R.Denot)). n.count + n.room) opened.resources)
          (omega arith) hubs (ap (λ (hs : Hubs). hs.slots) c.connect.ensures);
    }

pub returns-clause-wrote : goal.returns-clause-wrote
returns-clause-wrote g c = rw (← c.self.view_is) (wrote_opening g.R.Resource (left g c) refl refl)

pub returns-clause-frame : goal.returns-clause-frame
returns-clause-frame g c = rw (← c.self.view_is) (opens_node g.R.Resource (left g c))

pub returns-clause-nodes : goal.returns-clause-nodes
returns-clause-nodes g c = search (rules, length, before, is_some, found_still, opened_in)
