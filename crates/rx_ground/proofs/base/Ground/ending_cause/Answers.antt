use Rattle.rx_ground.proofs.Common.{◌≡◌, ◌∙◌, false, Option, option_map_or, refl, sym, ap, at, is_leaf, Event}
use Rattle.rx_ground.proofs.Told.{told}
use Rattle.rx_ground.proofs.base.Ground.ending_cause.Goals as goal

pub returns-then-not-is_leaf : goal.returns-then-not-is_leaf
returns-then-not-is_leaf g c =
    let standing = rw (← c.self.view_is) at c.requires.standing in
    let is = told _ g.R.Resource _ _ standing.tied.of_tree c.args.leaf c.in-Some.record.now.node c.in-Some.ensures.value in
    let other : at is_leaf c.self.inside.register.history c.args.leaf.number ≡ false =
    ap (λ (o : Option Event). option_map_or is_leaf o false) is.made ∙ sym c.if-not-is_leaf.ensures in
    rw (← c.self.view_is) (rw (is.there, is.alive, other) refl)
