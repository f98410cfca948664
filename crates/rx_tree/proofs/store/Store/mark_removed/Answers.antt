use Rattle.rx_tree.proofs.Common.{◌≤◌, length, ◌==◌, cond, sym, ap, subst, ◌∙◌, arith, option_copied_mut, held_count_at, count_if, one_less, one_more, is_lent}
use Rattle.rx_tree.proofs.Common.{removed}
use Rattle.rx_tree.proofs.StoreLemmas.{written, written_then}
use Rattle.rx_tree.proofs.CountSteps.{removed_some, removed_fits, counted_removed}
use Rattle.rx_tree.proofs.store.Store.mark_removed.Goals as goal

pub less-requires : goal.less-requires
less-requires g c =
    let w = written c.args.self.now c.args.key removed (sym c.get_mut.ensures.value ∙ ap option_copied_mut c.in-Some.is) in
    subst (λ n. 1 ≤ count_if (is_lent c.in-Some.stored.now.stowed) n) (sym c.held_count-count.ensures) (removed_some c.requires.counted w c.requires.owned)

pub more-self-requires : goal.more-self-requires
more-self-requires g c =
    let w = written_then c.args.self.now c.args.key removed (sym c.get_mut.ensures.value ∙ ap option_copied_mut c.in-Some.is)
    c.set_held_count.new.self c.set_held_count.ensures.resources c.set_held_count.ensures.links in
    let few = removed_fits c.requires.counted w c.requires.owned in
    let same = ap (count_if (is_lent c.in-Some.stored.now.stowed)) c.set_held_count.ensures.waiting in
    let longer = ap (λ r. length r.entries) c.set_held_count.ensures.resources in
    let slots = c.slot_count-slots.ensures.value in
    let fits = c.slot_count-slots.ensures.most in omega (arith, few, same, longer, slots, fits)

pub returns-in-Some-clause-rewrites : goal.returns-in-Some-clause-rewrites
returns-in-Some-clause-rewrites g c = (written_then c.args.self.now c.args.key removed (sym c.get_mut.ensures.value ∙ ap option_copied_mut c.in-Some.is)
    c.set_held_count.new.self c.set_held_count.ensures.resources c.set_held_count.ensures.links).rewrites

pub returns-in-Some-clause-links : goal.returns-in-Some-clause-links
returns-in-Some-clause-links g c = (written_then c.args.self.now c.args.key removed (sym c.get_mut.ensures.value ∙ ap option_copied_mut c.in-Some.is)
    c.set_held_count.new.self c.set_held_count.ensures.resources c.set_held_count.ensures.links).links

pub returns-in-Some-clause-changes : goal.returns-in-Some-clause-changes
returns-in-Some-clause-changes g c = (written_then c.args.self.now c.args.key removed (sym c.get_mut.ensures.value ∙ ap option_copied_mut c.in-Some.is)
    c.set_held_count.new.self c.set_held_count.ensures.resources c.set_held_count.ensures.links).changes

pub returns-in-Some-clause-counted : goal.returns-in-Some-clause-counted
returns-in-Some-clause-counted g c =
    let h = c.set_held_count.ensures in
    let lent = is_lent c.in-Some.stored.now.stowed in
    let w = written_then c.args.self.now c.args.key removed (sym c.get_mut.ensures.value ∙ ap option_copied_mut c.in-Some.is)
    (record c.set_held_count.new.self { waiting_count = c.more-self.result }) h.resources h.links in
    counted_removed c.requires.counted w c.requires.owned h.nodes (c.more-self.ensures ∙ ap (one_more lent) h.waiting)
    (λ j. h.held j ∙ ap (λ n. cond (c.in-Some.stored.now.stowed.node.slot == j) n (held_count_at c.args.self.now j))
    (c.less.ensures ∙ ap (one_less lent) c.held_count-count.ensures)) h.owed
