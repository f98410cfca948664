use Rattle.std.proofs.Common.{◌≡◌, Some, None, sym, subst, rules}
use Rattle.rx_turns.specs.declared.agenda.Row.{Row}
use Rattle.rx_turns.specs.Rows.{IsToldOf, tells_none, tells_fresh, tells_told, row_on, blank}
use Rattle.rx_turns.proofs.agenda.told_on.Goals as goal

pub returns-then-handed : goal.returns-then-handed
returns-then-handed c =
    let there : row_on c.args.rows.now c.args.line ≡ c.in-Some.row.now = search rules in
    let told = tells_told c.in-Some-in_hand.handed c.if-handed.true in
    subst (λ (r : Row). IsToldOf r.in_hand (Some c.in-Some-in_hand.handed.word)) (sym there)
    (subst (λ o. IsToldOf o (Some c.in-Some-in_hand.handed.word)) (sym c.in-Some-in_hand.is) told)

pub returns-else-handed : goal.returns-else-handed
returns-else-handed c =
    let there : row_on c.args.rows.now c.args.line ≡ c.in-Some.row.now = search rules in
    let fresh = tells_fresh c.in-Some-in_hand.handed c.if-handed.false in
    subst (λ (r : Row). IsToldOf r.in_hand None) (sym there) (subst (λ o. IsToldOf o None) (sym c.in-Some-in_hand.is) fresh)

pub returns-in-None-in_hand : goal.returns-in-None-in_hand
returns-in-None-in_hand c =
    let there : row_on c.args.rows.now c.args.line ≡ c.in-Some.row.now = search rules in
    subst (λ (r : Row). IsToldOf r.in_hand None) (sym there) (subst (λ o. IsToldOf o None) (sym c.in-None-in_hand.is) tells_none)

pub returns-in-None : goal.returns-in-None
returns-in-None c =
    let past : row_on c.args.rows.now c.args.line ≡ blank = search rules in
    subst (λ (r : Row). IsToldOf r.in_hand None) (sym past) tells_none
