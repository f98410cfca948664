use Rattle.rx_tree.proofs.Common.{sym, ap, ◌∙◌, option_copied_mut}
use Rattle.rx_tree.proofs.UseSteps.{used_kept, used}
use Rattle.rx_tree.proofs.tree.Tree.apply.Goals as goal

pub invariant_of-self : goal.invariant_of-self
invariant_of-self g c = used_kept c.self.inside.store c.self.invariant.tied c.args.res c.in-Some.stored.now c.apply.new.self
    (sym c.get_mut.ensures.value ∙ ap option_copied_mut c.in-Some.is) c.self.invariant.counted

pub returns : goal.returns
returns g c =
    rw (← c.self.view_is) (used c.self.inside.store c.self.invariant.tied c.args.res c.in-Some.stored.now c.apply.new.self (sym c.get_mut.ensures.value ∙
    ap option_copied_mut c.in-Some.is) g.R.Resource c.apply.ensures.used c.apply.ensures.kept_tag c.apply.ensures.kept_life)
