use Rattle.rx_tree.proofs.Common.{refl, sym, ap, subst, ◌∙◌, project, nodes_of, resources_of, IsKept, owed_in, Tree, Marks}
use Rattle.rx_tree.proofs.RecordSteps.{room_nodes, opened_last, ring_stands, opened_on_tied, opened_on_chain, opened_off_tied, opened_off_chain}
use Rattle.rx_tree.proofs.CountSteps.{counted_room_nodes, counted_relinked, owed_opened}
use Rattle.rx_tree.proofs.tree.Tree.open.Goals as goal

pub invariant_of-self : goal.invariant_of-self
invariant_of-self g c =
    let s = c.self.inside.store in
    let room = record c.self.inside.store.nodes { room = c.add_node.new.self.nodes.room } in
    subst (λ s. IsKept s) (sym c.in-Err.ensures.err)
    (record { tied = room_nodes s room refl c.self.invariant.tied; counted = counted_room_nodes s c.self.invariant.counted room refl })

pub join_siblings-requires-clause-last : goal.join_siblings-requires-clause-last
join_siblings-requires-clause-last g c =
    let s = c.self.inside.store in
    opened_last s c.add_node.new.self
    c.self.invariant.tied c.in-Ok.ensures.ok c.add_node.ensures.links (ap (project (λ r. r.stowed)) c.add_node.ensures.resources) c.in-Some.ring
    (ring_stands (nodes_of s) (resources_of s) c.args.number (record { made = c.args.made; above = c.args.above; marks = c.blank.result }) c.in-Some.ring
    (rw (← c.self.view_is) at c.requires.placed) (sym c.sibling_ring-ring.ensures ∙ c.in-Some.is))

pub invariant_of-self-in-Some : goal.invariant_of-self-in-Some
invariant_of-self-in-Some g c =
    record {
      tied = opened_on_tied c.self.inside.store c.add_node.new.self c.in-Ok.key c.args.number
          (record { made = c.args.made; above = c.args.above; marks = c.blank.result }) c.self.invariant.tied c.in-Ok.ensures.ok
          (rw (← c.self.view_is) at c.requires.newest.past) (rw (← c.self.view_is) at c.requires.newest.homes) (rw (← c.self.view_is) at c.requires.placed)
          c.add_node.ensures.links (ap (project (λ r. r.stowed)) c.add_node.ensures.resources) c.join_siblings.new.self c.in-Some.ring
          (sym c.sibling_ring-ring.ensures ∙ c.in-Some.is) c.join_siblings.ensures.joins c.join_siblings.ensures.rest;
      counted = counted_relinked c.add_node.new.self c.join_siblings.new.self c.join_siblings.ensures.rest c.in-Ok.ensures.counted;
    }

pub invariant_of-self-in_default : goal.invariant_of-self-in_default
invariant_of-self-in_default g c =
    record {
      tied = opened_off_tied c.self.inside.store c.add_node.new.self c.in-Ok.key c.args.number
          (record { made = c.args.made; above = c.args.above; marks = c.blank.result }) c.self.invariant.tied c.in-Ok.ensures.ok
          (rw (← c.self.view_is) at c.requires.newest.past) (rw (← c.self.view_is) at c.requires.newest.homes) (rw (← c.self.view_is) at c.requires.placed)
          c.add_node.ensures.links (ap (project (λ r. r.stowed)) c.add_node.ensures.resources) (sym c.sibling_ring-ring.ensures ∙ c.in_default.is);
      counted = c.in-Ok.ensures.counted;
    }

pub returns-in-Some-clause-chain : goal.returns-in-Some-clause-chain
returns-in-Some-clause-chain g c = rw (← c.self.view_is) (opened_on_chain c.self.inside.store c.add_node.new.self c.in-Ok.key c.args.number
    (record { made = c.args.made; above = c.args.above; marks = c.blank.result }) c.self.invariant.tied c.in-Ok.ensures.ok
    (rw (← c.self.view_is) at c.requires.newest.past) (rw (← c.self.view_is) at c.requires.newest.homes) (rw (← c.self.view_is) at c.requires.placed)
    c.add_node.ensures.links (ap (project (λ r. r.stowed)) c.add_node.ensures.resources) c.join_siblings.new.self c.in-Some.ring
    (sym c.sibling_ring-ring.ensures ∙ c.in-Some.is) c.join_siblings.ensures.joins c.join_siblings.ensures.rest)

pub returns-in_default-clause-chain : goal.returns-in_default-clause-chain
returns-in_default-clause-chain g c = rw (← c.self.view_is) (opened_off_chain c.self.inside.store c.add_node.new.self c.in-Ok.key c.args.number
    (record { made = c.args.made; above = c.args.above; marks = c.blank.result }) c.self.invariant.tied c.in-Ok.ensures.ok
    (rw (← c.self.view_is) at c.requires.newest.past) (rw (← c.self.view_is) at c.requires.newest.homes) (rw (← c.self.view_is) at c.requires.placed)
    c.add_node.ensures.links (ap (project (λ r. r.stowed)) c.add_node.ensures.resources) (sym c.sibling_ring-ring.ensures ∙ c.in_default.is))

pub add_node-requires-clause-homes : goal.add_node-requires-clause-homes
add_node-requires-clause-homes g c = rw (← c.self.view_is) at c.requires.newest.homes

pub add_node-requires-clause-owes_nothing : goal.add_node-requires-clause-owes_nothing
add_node-requires-clause-owes_nothing g c = ap (λ (m : Marks). m.owed) c.blank.ensures

pub returns-in-Some-clause-owed : goal.returns-in-Some-clause-owed
returns-in-Some-clause-owed g c = ap owed_in c.join_siblings.ensures.rest.nodes ∙ owed_opened c.self.inside.store c.add_node.new.self c.in-Ok.key c.args.number
    (record { made = c.args.made; above = c.args.above; marks = c.blank.result }) c.in-Ok.ensures.ok (ap (λ (m : Marks). m.owed) c.blank.ensures) ∙
    ap (λ (x : Tree g.row.R.Denot). owed_in x.nodes) c.self.view_is

pub returns-in_default-clause-owed : goal.returns-in_default-clause-owed
returns-in_default-clause-owed g c = owed_opened c.self.inside.store c.add_node.new.self c.in-Ok.key c.args.number
    (record { made = c.args.made; above = c.args.above; marks = c.blank.result }) c.in-Ok.ensures.ok (ap (λ (m : Marks). m.owed) c.blank.ensures) ∙
    ap (λ (x : Tree g.row.R.Denot). owed_in x.nodes) c.self.view_is
