use Rattle.rx_tree.proofs.Common.{true, false, ◌&&◌, refl, sym, ap, subst, nodes_of, IsKept, Held}
use Rattle.rx_tree.proofs.There.{slot_stands}
use Rattle.rx_tree.proofs.RecordSteps.{room_resources, held_last, held_tied, held_chain}
use Rattle.rx_tree.proofs.CountSteps.{counted_room_resources, counted_relinked}
use Rattle.rx_tree.proofs.tree.Tree.hold.Goals as goal

pub join-requires-clause-last : goal.join-requires-clause-last
join-requires-clause-last g c = held_last c.self.inside.store c.add_resource.new.self c.self.invariant.tied c.in-Ok.ensures.ok c.add_resource.ensures.links
    c.add_resource.ensures.nodes (Held c.args.key.slot) (slot_stands (nodes_of c.self.inside.store) c.args.key (rw (← c.self.view_is) at c.requires.open))

pub invariant_of-self : goal.invariant_of-self
invariant_of-self g c =
    record {
      tied = held_tied c.self.inside.store c.add_resource.new.self c.join.new.self c.in-Ok.stored c.args.number
          (record { node = c.args.key; removed = false; leases = 0; resource = c.args.resource }) c.self.invariant.tied c.in-Ok.ensures.ok
          (rw (← c.self.view_is) at c.requires.newest) (ap (λ b. b && true) (rw (← c.self.view_is) at c.requires.open)) refl c.add_resource.ensures.links
          c.add_resource.ensures.nodes c.join.ensures.joins c.join.ensures.rest;
      counted = counted_relinked c.add_resource.new.self c.join.new.self c.join.ensures.rest c.in-Ok.ensures.counted;
    }

pub invariant_of-self-in-Err : goal.invariant_of-self-in-Err
invariant_of-self-in-Err g c =
    let s = c.self.inside.store in
    let room = record c.self.inside.store.resources { room = c.add_resource.new.self.resources.room } in
    subst (λ s. IsKept s) (sym c.in-Err.ensures.err)
    (record { tied = room_resources s room refl c.self.invariant.tied; counted = counted_room_resources s c.self.invariant.counted room refl })

pub returns-in-Ok-clause-chain : goal.returns-in-Ok-clause-chain
returns-in-Ok-clause-chain g c = rw (← c.self.view_is) (held_chain c.self.inside.store c.add_resource.new.self c.join.new.self c.in-Ok.stored c.args.number
    (record { node = c.args.key; removed = false; leases = 0; resource = c.args.resource }) c.self.invariant.tied c.in-Ok.ensures.ok
    (rw (← c.self.view_is) at c.requires.newest) (ap (λ b. b && true) (rw (← c.self.view_is) at c.requires.open)) refl c.add_resource.ensures.links
    c.add_resource.ensures.nodes c.join.ensures.joins c.join.ensures.rest)
