use Rattle.rx_ground.proofs.Common.{◌≡◌, ◌∙◌, ℕ, false, Some, Option, option_map, option_map_or, ap, not, sym, Key, named_by, is_open, is_wrong_place}
use Rattle.rx_ground.proofs.Told.{taken_at, taken_first, wrong_at}
use Rattle.rx_ground.proofs.base.Ground.place_cause.Goals as goal
use Rattle.std.proofs.Common.{rules}

pub returns-then-is_used-clause-some : goal.returns-then-is_used-clause-some
returns-then-is_used-clause-some g c =
    let b = c.args.self.now in
    let h = b.register.history in
    let is = c.in-Some-told.ensures.some in
    let named : named_by c.args.place ≡ Some c.in-Some.key.number = c.requires.named ∙ ap (option_map (λ (k : Key). k.number)) c.in-Some.is in
    let wrong : is_wrong_place h c.args.place ≡ false = search (rules, wrong_at) in
    taken_first b _ c.args.place (search rules)
    (ap (λ (o : Option ℕ). option_map_or (λ n. not (is_open h n)) o false) named ∙ ap not is.alive) wrong
    (taken_at b.register.base h c.args.place c.in-Some.key.number c.in-Some-told.record.now.node.marks named is.marks ∙ sym c.is_used.ensures ∙ c.if-is_used.true)
