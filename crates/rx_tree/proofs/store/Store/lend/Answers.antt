use Rattle.rx_tree.proofs.Common.{◌≤◌, ◌==◌, true, false, cond, refl, sym, ap, subst, ◌∙◌, arith, option_copied_mut, held_count_at, one_less, one_more}
use Rattle.rx_tree.proofs.Common.{one_lease_more}
use Rattle.rx_tree.proofs.StoreLemmas.{written, written_then}
use Rattle.rx_tree.proofs.CountSteps.{first_some, first_fits, counted_first, counted_again}
use Rattle.rx_tree.proofs.store.Store.lend.Goals as goal

pub less-requires : goal.less-requires
less-requires g c =
    let w = written c.args.self.now c.args.key one_lease_more (sym c.get_mut.ensures.value ∙ ap option_copied_mut c.in-Some.is) in
    subst (λ n. 1 ≤ n.free) (sym c.held_count-count.ensures) (first_some c.requires.counted w c.requires.owned c.if-not-lent.true)

pub more-requires : goal.more-requires
more-requires g c =
    let w = written c.args.self.now c.args.key one_lease_more (sym c.get_mut.ensures.value ∙ ap option_copied_mut c.in-Some.is) in
    let few = first_fits c.requires.counted w c.requires.owned c.if-not-lent.true in
    let same = ap (λ n. n.lent) (c.less.ensures ∙ ap (one_less false) c.held_count-count.ensures) in
    let slots = c.slot_count-slots.ensures.value in
    let fits = c.slot_count-slots.ensures.most in omega (arith, few, same, slots, fits)

pub returns-then-not-lent-clause-counted : goal.returns-then-not-lent-clause-counted
returns-then-not-lent-clause-counted g c =
    let h = c.set_held_count.ensures in
    let w = written_then c.args.self.now c.args.key one_lease_more (sym c.get_mut.ensures.value ∙ ap option_copied_mut c.in-Some.is)
    c.set_held_count.new.self c.set_held_count.ensures.resources c.set_held_count.ensures.links in
    counted_first c.requires.counted w c.requires.owned c.if-not-lent.true h.nodes h.waiting
    (λ j. h.held j ∙ ap (λ n. cond (c.in-Some.stored.now.stowed.node.slot == j) n (held_count_at c.args.self.now j)) (c.more.ensures ∙ ap (one_more true)
    (c.less.ensures ∙ ap (one_less false) c.held_count-count.ensures))) h.owed

pub returns-then-not-lent-clause-rewrites : goal.returns-then-not-lent-clause-rewrites
returns-then-not-lent-clause-rewrites g c = (written_then c.args.self.now c.args.key one_lease_more
    (sym c.get_mut.ensures.value ∙ ap option_copied_mut c.in-Some.is)
    c.set_held_count.new.self c.set_held_count.ensures.resources c.set_held_count.ensures.links).rewrites

pub returns-then-not-lent-clause-changes : goal.returns-then-not-lent-clause-changes
returns-then-not-lent-clause-changes g c = (written_then c.args.self.now c.args.key one_lease_more
    (sym c.get_mut.ensures.value ∙ ap option_copied_mut c.in-Some.is)
    c.set_held_count.new.self c.set_held_count.ensures.resources c.set_held_count.ensures.links).changes

pub returns-then-not-lent-clause-links : goal.returns-then-not-lent-clause-links
returns-then-not-lent-clause-links g c = (written_then c.args.self.now c.args.key one_lease_more
    (sym c.get_mut.ensures.value ∙ ap option_copied_mut c.in-Some.is)
    c.set_held_count.new.self c.set_held_count.ensures.resources c.set_held_count.ensures.links).links

pub returns-else-not-lent-clause-counted : goal.returns-else-not-lent-clause-counted
returns-else-not-lent-clause-counted g c =
    let w = written c.args.self.now c.args.key one_lease_more (sym c.get_mut.ensures.value ∙ ap option_copied_mut c.in-Some.is) in
    counted_again c.requires.counted w c.requires.owned c.if-not-lent.false refl refl (λ j. refl) refl

pub returns-else-not-lent-clause-rewrites : goal.returns-else-not-lent-clause-rewrites
returns-else-not-lent-clause-rewrites g c = (written c.args.self.now c.args.key one_lease_more
    (sym c.get_mut.ensures.value ∙ ap option_copied_mut c.in-Some.is)).rewrites

pub returns-else-not-lent-clause-changes : goal.returns-else-not-lent-clause-changes
returns-else-not-lent-clause-changes g c = (written c.args.self.now c.args.key one_lease_more
    (sym c.get_mut.ensures.value ∙ ap option_copied_mut c.in-Some.is)).changes

pub returns-else-not-lent-clause-links : goal.returns-else-not-lent-clause-links
returns-else-not-lent-clause-links g c = (written c.args.self.now c.args.key one_lease_more
    (sym c.get_mut.ensures.value ∙ ap option_copied_mut c.in-Some.is)).links
