use Rattle.std.proofs.Common.{◌<◌, ◌≡◌, ℕ, arith, rules}
use Rattle.rx_event.specs.Notes.{notes}
use Rattle.rx_register.proofs.RegisterStaysTied.{IsPopped, popped_first, popped_inside}
use Rattle.rx_register.proofs.register.Register.take_mail.Goals as goal

some : (n : ℕ) → (n ≡ 0 → ⊥) → 0 < n
some n nonzero = omega arith

pub invariant_of-self : goal.invariant_of-self
invariant_of-self c =
    let first : IsPopped (notes c.self.inside.history.events) c.self.inside.mail.items c.pop_front.new.self.items c.self.inside.told
    c.pop_front.result = search (rules, popped_first, some) in
    popped_inside c.self.inside c.pop_front.new.self c.self.invariant first (some c.self.inside.told c.if-self-eq0.false)

pub returns-clause-value : goal.returns-clause-value
returns-clause-value c =
    let first : IsPopped (notes c.self.inside.history.events) c.self.inside.mail.items c.pop_front.new.self.items c.self.inside.told
    c.pop_front.result = search (rules, popped_first, some) in
    rw (← c.self.view_is) first.value
