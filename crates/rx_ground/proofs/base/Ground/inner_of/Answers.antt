use Rattle.rx_ground.proofs.Common.{◌≡◌, IsSome, true, is_some, sym, ap, ◌∙◌, Event, is_switch, inner_named, at, find, IsTied, IsInner, HasNoInner}
use Rattle.rx_ground.proofs.Inners.{no_child, inner_first, inner_next, no_next, if_none, if_some_by, if_none_by, made_found}
use Rattle.rx_ground.proofs.base.Ground.inner_of.Goals as goal

pub returns-in_err-first-clause-none : goal.returns-in_err-first-clause-none
returns-in_err-first-clause-none g c =
    let h = c.self.inside.register.history in
    let tree = c.self.inside.tree in
    let tied : IsTied c.self.inside.register.base g.R.Resource h tree = rw (← c.self.view_is) at c.requires.between.tied.of_tree in
    let there : IsSome (find tree.nodes c.args.switch) = rw (← c.self.view_is) at c.requires.open in
    let switches : at is_switch h c.args.switch.number ≡ true = rw (← c.self.view_is) at c.requires.switches in
    if_none c.from_residual.result _
    (rw (← c.self.view_is) (no_child c.self.inside.register.base h c.promise.ensures.lawful tree.nodes tree.chain tied.records c.args.switch there
    switches c.in_err-first.ensures.none))

pub returns-then-is_some-clause-some : goal.returns-then-is_some-clause-some
returns-then-is_some-clause-some g c = let h = c.self.inside.register.history in let tree = c.self.inside.tree in let tied : IsTied _ g.R.Resource h
    tree = rw (← c.self.view_is) at c.requires.between.tied.of_tree in let there : IsSome (find tree.nodes _) = rw (← c.self.view_is) at c.requires.open in
    let switches : at is_switch h c.args.switch.number ≡ true = rw (← c.self.view_is) at c.requires.switches in let x = made_found (find tree.nodes _)
    _ (sym c.made.ensures ∙ c.in_ok-made.was) in let inner = ap (λ (e : Event). is_some (inner_named e)) x.2 ∙ ap is_some (sym c.inner_of.ensures) ∙
    sym c.is_some.ensures ∙ c.if-is_some.true in rw (← c.self.view_is) (inner_first _ h c.promise.ensures.lawful tree.nodes tree.chain tied.records _
    there switches _ x.0 c.in_ok-first.ensures.some.one x.1 inner)

pub returns-clause-some : goal.returns-clause-some
returns-clause-some g c = let h = c.self.inside.register.history in let tree = c.self.inside.tree in let tied : IsTied _ g.R.Resource h tree = rw (←
    c.self.view_is) at c.requires.between.tied.of_tree in let there : IsSome (find tree.nodes _) = rw (← c.self.view_is) at c.requires.open in let switches :
    at is_switch h c.args.switch.number ≡ true = rw (← c.self.view_is) at c.requires.switches in let x = made_found (find tree.nodes _) _ (sym
    c.made.ensures ∙ c.in_ok-made.was) in let not_inner = ap (λ (e : Event). is_some (inner_named e)) x.2 ∙ ap is_some (sym c.inner_of.ensures) ∙ sym
    c.is_some.ensures ∙ c.if-is_some.false in rw (← c.self.view_is) (if_some_by _ _ (IsInner h tree.nodes _) (λ next younger. inner_next _ h
    c.promise.ensures.lawful tree.nodes tree.chain tied.records _ there switches _ x.0 c.in_ok-first.ensures.some x.1 not_inner next (younger _
    c.in_ok-first.ensures.some.one)) c.next_sibling.ensures.some)

pub returns-clause-none : goal.returns-clause-none
returns-clause-none g c = let h = c.self.inside.register.history in let tree = c.self.inside.tree in let tied : IsTied _ g.R.Resource h tree = rw (←
    c.self.view_is) at c.requires.between.tied.of_tree in let there : IsSome (find tree.nodes _) = rw (← c.self.view_is) at c.requires.open in let switches :
    at is_switch h c.args.switch.number ≡ true = rw (← c.self.view_is) at c.requires.switches in let x = made_found (find tree.nodes _) _ (sym
    c.made.ensures ∙ c.in_ok-made.was) in let not_inner = ap (λ (e : Event). is_some (inner_named e)) x.2 ∙ ap is_some (sym c.inner_of.ensures) ∙ sym
    c.is_some.ensures ∙ c.if-is_some.false in rw (← c.self.view_is) (if_none_by _ _ (HasNoInner h _) (λ none. no_next _ h c.promise.ensures.lawful
    tree.nodes tree.chain tied.records _ there switches _ x.0 c.in_ok-first.ensures.some x.1 not_inner (none _ c.in_ok-first.ensures.some.one))
    c.next_sibling.ensures.none)
