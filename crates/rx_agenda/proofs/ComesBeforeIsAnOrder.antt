-- The comparison is an order.
use Rattle.rx_agenda.proofs.Common.{◌≡◌, ◌⊎◌, cases_lt, Origin, Turn, PlacedStep, IsScheduledBefore, IsEarlierTurn, ComesBefore}
use Rattle.std.proofs.Common.{rules}

pub scheduled-trans : (a b c : Origin) → IsScheduledBefore a b → IsScheduledBefore b c → IsScheduledBefore a c
scheduled-trans a b c x3 x4 = search rules

pub scheduled-asym : (a b : Origin) → IsScheduledBefore a b → IsScheduledBefore b a → ⊥
scheduled-asym a b x2 x3 = search rules

pub scheduled-self : (a b : Origin) → a ≡ b → IsScheduledBefore a b → ⊥
scheduled-self a b same before = search (rules, scheduled-asym)

pub earlier-trans : (t u v : Turn) → IsEarlierTurn t u → IsEarlierTurn u v → IsEarlierTurn t v
earlier-trans t u v x3 x4 = search (rules, scheduled-trans)

pub earlier-asym : (t u : Turn) → IsEarlierTurn t u → IsEarlierTurn u t → ⊥
earlier-asym t u x2 x3 = search (rules, scheduled-asym)

pub earlier-self : (t u : Turn) → t ≡ u → IsEarlierTurn t u → ⊥
earlier-self t u same before = search (rules, earlier-asym)

pub comes-trans : (x y z : PlacedStep) → ComesBefore x y → ComesBefore y z → ComesBefore x z
comes-trans x y z x3 x4 = search (rules, earlier-trans, scheduled-trans)

pub comes-asym : (x y : PlacedStep) → ComesBefore x y → ComesBefore y x → ⊥
comes-asym x y x2 x3 = search (rules, earlier-asym, earlier-self, scheduled-asym)

pub comes-self : (x y : PlacedStep) → x ≡ y → ComesBefore x y → ⊥
comes-self x y same before = search (rules, comes-asym)

-- of two steps one comes first, or they are held at one place and have one turn
pub comes-cases : (x y : PlacedStep) → (ComesBefore x y ⊎ ComesBefore y x) ⊎ ((x.turn ≡ y.turn) × (x.origin ≡ y.origin))
comes-cases x y = search (rules, cases_lt)
