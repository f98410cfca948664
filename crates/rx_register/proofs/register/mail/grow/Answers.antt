use Rattle.std.proofs.Common.{◌≡◌, List, [], ◌∷◌, length, refl, arith, rules}
use Rattle.rx_register.proofs.register.mail.grow.Goals as goal

no_items : {X : Type 0} (xs : List X) → length xs ≡ 0 → xs ≡ []
no_items [] none = refl
no_items (x ∷ xs) none = absurd (omega arith)

pub returns-clause-items : goal.returns-clause-items
returns-clause-items c =
    search (rules, no_items)
