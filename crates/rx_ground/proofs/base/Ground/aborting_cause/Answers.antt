use Rattle.rx_ground.proofs.Common.{rules, ◌≡◌, true, false, Option, refl, ap, ◌∙◌, arith, nat_lt, option_map_or, lt-ltb, Event, at, has_open_child}
use Rattle.rx_event.specs.Allowed.{may_abort}
use Rattle.rx_ground.proofs.Told.{child_marked}
use Rattle.rx_ground.proofs.base.Ground.aborting_cause.Goals as goal

pub returns-then-open_children-gt0 : goal.returns-then-open_children-gt0
returns-then-open_children-gt0 g c = let b = c.args.self.now in let h = b.register.history in let is = c.in-Some.ensures.some in let can : may_abort
    c.in-Some.record.now.node.made ≡ true = search rules in let may : at may_abort h c.args.node.number ≡ true = ap (λ (o : Option Event). option_map_or
    may_abort o false) is.made ∙ can in let child : has_open_child h c.args.node.number ≡ true = child_marked b.register.base h b.tree.nodes _ _ is ∙
    lt-ltb 0 _ (rw c.open_children.ensures at c.if-open_children-gt0.true) in rw (is.there, is.alive, may, child) refl

pub returns : goal.returns
returns g c = let b = c.args.self.now in let h = b.register.history in let is = c.in-Some.ensures.some in let can : may_abort c.in-Some.record.now.node.made ≡
    true = search rules in let may : at may_abort h c.args.node.number ≡ true = ap (λ (o : Option Event). option_map_or may_abort o false) is.made ∙
    can in let few = c.if-open_children-gt0.false in let none : c.in-Some.record.now.node.marks.open_children ≡ 0 = omega arith in let child : has_open_child h
    c.args.node.number ≡ false = child_marked b.register.base h b.tree.nodes _ _ is ∙ ap (nat_lt 0) none in rw (is.there, is.alive, may, child) refl
