use Rattle.rx_ground.proofs.Common.{◌≡◌, ◌+◌, ◌∙◌, ℕ, ap, sym, subst, drop, length, length-map, map, refl, arith, AreClosing, AreTied, Hubs, Slots, Stowed, left_inside}
use Rattle.rx_ground.proofs.HubsBesideTree.{are_closing, moved_left}
use Rattle.rx_ground.proofs.MovedHaveGone.{behind, moves_subtree}
use Rattle.rx_ground.proofs.base.Ground.cut.Goals as goal
use Rattle.std.proofs.Common.{rules}
use Rattle.std.proofs.lemmas.Grind.{common_steps}

pub leave_closed-requires : goal.leave_closed-requires
leave_closed-requires g c = let was : AreTied _ g.R.Resource _ _ c.self.inside.hubs = rw (← c.self.view_is) at c.requires.between.tied in let before =
    c.self.inside.closed.items in let after = c.close_below.new.closed.items in let closing = are_closing _ g.R.Resource _ _ _ was
    c.promise.ensures.lawful c.promise-2.ensures.sound _ (drop (length before) after) c.close_below.ensures.moved in let from : c.len-from.result ≡
    length before = let len = c.len-from.ensures in omega arith in record {
      closing = subst (AreClosing _) (sym (behind (length before) _ after _ from c.as_slice.ensures.value)) closing;
    }

pub returns : goal.returns
returns g c =
    let u = c.close_below.ensures in
    let count = u.count in
    let room = u.room in
    let hubs : c.leave_closed.new.self ≡ left_inside c.self.inside.register.history c.args.node.number c.args.ended c.self.inside.hubs =
    search (rules, AreTied, length, behind, moved_left, drop, map) in
    let all = u.list_room in
    let within = c.self.invariant.0 in
    rw (← c.self.view_is) (record {
      cuts = record { nodes = u.kept; chain = u.chain; resources = u.resources };
      owed = u.owed;
      register = refl;
      room = grind (arith, common_steps);
      hubs = hubs;
      leases = refl;
      moves = moves_subtree c.self.inside.tree.nodes c.args.node.number c.self.inside.closed.items c.close_below.new.closed.items u.before u.moved;
      listed = grind (arith, common_steps, length-map);
      memory = record {
        events = refl;
        notes = refl;
        nodes = omega arith;
        resources = ap (λ (r : Slots (Stowed g.row.R.Denot)). r.count + r.room) u.resources;
        hubs = ap (λ (hs : Hubs). length hs.hubs + hs.room) hubs ∙ ap (λ (n : ℕ). n + c.self.inside.hubs.room) (length-map c.self.inside.hubs.hubs _);
        slots = ap (λ (hs : Hubs). hs.slots) hubs;
        closing = grind (arith, common_steps);
      };
    })
