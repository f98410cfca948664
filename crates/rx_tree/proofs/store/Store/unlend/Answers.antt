use Rattle.rx_tree.proofs.Common.{◌-◌, refl, sym, ap, ◌∙◌, arith, not, option_copied_mut, one_lease_less, Some}
use Rattle.rx_tree.proofs.StoreLemmas.{written, written_then}
use Rattle.rx_tree.proofs.CountSteps.{last_some, last_fits, counted_last, counted_fewer, ring_told}
use Rattle.rx_tree.proofs.CountLemmas.{same_here, same_apart}
use Rattle.rx_tree.proofs.store.Store.unlend.Goals as goal

pub free_one-requires-clause-some : goal.free_one-requires-clause-some
free_one-requires-clause-some g c =
    let w = written c.args.self.now c.args.key one_lease_less (sym c.get_mut.ensures.value ∙ ap option_copied_mut c.in_ok-stored.was) in
    last_some c.requires.counted w c.requires.lent c.owns-owned.ensures c.if-last.true

pub free_one-requires-clause-fits : goal.free_one-requires-clause-fits
free_one-requires-clause-fits g c =
    let w = written c.args.self.now c.args.key one_lease_less (sym c.get_mut.ensures.value ∙ ap option_copied_mut c.in_ok-stored.was) in
    let few = last_fits c.requires.counted w c.requires.lent c.owns-owned.ensures c.if-last.true in
    let slots = c.slot_count-slots.ensures.value in
    let fits = c.slot_count-slots.ensures.most in omega (arith, few, slots, fits)

pub returns-then-last-clause-counted : goal.returns-then-last-clause-counted
returns-then-last-clause-counted g c =
    let h = c.free_one.ensures in
    let w = written_then c.args.self.now c.args.key one_lease_less (sym c.get_mut.ensures.value ∙ ap option_copied_mut c.in_ok-stored.was)
    c.free_one.new.self c.free_one.ensures.resources c.free_one.ensures.links in
    counted_last c.requires.counted w c.requires.lent c.owns-owned.ensures c.if-last.true h.nodes h.waiting h.held h.owed

pub returns-then-last-clause-rewrites : goal.returns-then-last-clause-rewrites
returns-then-last-clause-rewrites g c = (written_then c.args.self.now c.args.key one_lease_less
    (sym c.get_mut.ensures.value ∙ ap option_copied_mut c.in_ok-stored.was) c.free_one.new.self c.free_one.ensures.resources c.free_one.ensures.links).rewrites

pub returns-then-last-clause-changes : goal.returns-then-last-clause-changes
returns-then-last-clause-changes g c = (written_then c.args.self.now c.args.key one_lease_less
    (sym c.get_mut.ensures.value ∙ ap option_copied_mut c.in_ok-stored.was) c.free_one.new.self c.free_one.ensures.resources c.free_one.ensures.links).changes

pub returns-then-last-clause-links : goal.returns-then-last-clause-links
returns-then-last-clause-links g c = (written_then c.args.self.now c.args.key one_lease_less
    (sym c.get_mut.ensures.value ∙ ap option_copied_mut c.in_ok-stored.was) c.free_one.new.self c.free_one.ensures.resources c.free_one.ensures.links).links

pub returns-then-last-clause-ring : goal.returns-then-last-clause-ring
returns-then-last-clause-ring g c =
    let h = c.free_one.ensures in
    let w = written_then c.args.self.now c.args.key one_lease_less (sym c.get_mut.ensures.value ∙ ap option_copied_mut c.in_ok-stored.was)
    c.free_one.new.self c.free_one.ensures.resources c.free_one.ensures.links in
    ap Some h.ring ∙ sym (ring_told c.requires.counted w c.requires.lent c.owns-owned.ensures h.nodes
    (ap not (same_here (c.in_ok-stored.stored.now.stowed.leases - 1) 0 c.if-last.true)))

pub returns-else-last-clause-counted : goal.returns-else-last-clause-counted
returns-else-last-clause-counted g c =
    let w = written c.args.self.now c.args.key one_lease_less (sym c.get_mut.ensures.value ∙ ap option_copied_mut c.in_ok-stored.was) in
    counted_fewer c.requires.counted w c.requires.lent c.owns-owned.ensures c.if-last.false refl refl (λ j. refl) refl

pub returns-else-last-clause-rewrites : goal.returns-else-last-clause-rewrites
returns-else-last-clause-rewrites g c = (written c.args.self.now c.args.key one_lease_less
    (sym c.get_mut.ensures.value ∙ ap option_copied_mut c.in_ok-stored.was)).rewrites

pub returns-else-last-clause-changes : goal.returns-else-last-clause-changes
returns-else-last-clause-changes g c = (written c.args.self.now c.args.key one_lease_less
    (sym c.get_mut.ensures.value ∙ ap option_copied_mut c.in_ok-stored.was)).changes

pub returns-else-last-clause-links : goal.returns-else-last-clause-links
returns-else-last-clause-links g c = (written c.args.self.now c.args.key one_lease_less
    (sym c.get_mut.ensures.value ∙ ap option_copied_mut c.in_ok-stored.was)).links

pub returns-else-last-clause-ring : goal.returns-else-last-clause-ring
returns-else-last-clause-ring g c =
    let w = written c.args.self.now c.args.key one_lease_less (sym c.get_mut.ensures.value ∙ ap option_copied_mut c.in_ok-stored.was) in
    sym (ring_told c.requires.counted w c.requires.lent c.owns-owned.ensures refl
    (ap not (same_apart (c.in_ok-stored.stored.now.stowed.leases - 1) 0 c.if-last.false)))
