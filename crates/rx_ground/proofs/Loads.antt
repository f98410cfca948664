-- What closing everything needs, counted from what is there.
use Rattle.rx_ground.proofs.Common.{◌≡◌, ℕ, ◌+◌, ◌-◌, ◌*◌, ◌≤◌, Bool, true, false, List, [], ◌∷◌, cond, count_by, refl, arith, not, ◌&&◌, false≢true, Kept}
use Rattle.rx_ground.proofs.Common.{sum_by-cons, Event, places, open_count, owned_count, held_count, lease_count, waiting_count, accepted_count, taken_count}
use Rattle.rx_ground.proofs.Common.{owed_count, debt, IsLawful, debt-counts, accepted_count-parts, owned_held, State, IsPromised, IsPaid, greatest_limit}
use Rattle.rx_event.specs.Resources.{is_owned, is_held}
use Rattle.rx_ground.proofs.TreeAgreesOnResource.{is_alone}
use Rattle.std.proofs.Common.{rules}

-- what is held is owned, or leases alone hold it
counted_apart : (p q : ℕ → Bool) → ((n : ℕ) → q n ≡ true → p n ≡ true) → (ns : List ℕ) → count_by p ns ≡ count_by q ns + count_by (λ n. p n && not (q n)) ns
counted_apart p q within [] = refl
counted_apart p q within (n ∷ ns) =
    let rest = counted_apart p q within ns in
    let one = shape (p n) (q n) (within n) in
    omega (
      arith,
      sum_by-cons (λ k. cond {A = ℕ} (p k) 1 0) n ns,
      sum_by-cons (λ k. cond {A = ℕ} (q k) 1 0) n ns,
      sum_by-cons (λ k. cond {A = ℕ} (p k && not (q k)) 1 0) n ns,
    ) where
      shape : (a b : Bool) → (b ≡ true → a ≡ true) → cond {A = ℕ} a 1 0 ≡ cond {A = ℕ} b 1 0 + cond {A = ℕ} (a && not b) 1 0
      shape true true w = refl
      shape true false w = refl
      shape false false w = refl
      shape false true w = absurd (false≢true (w refl))

pub held_counted : (h : List Event) → held_count h ≡ owned_count h + count_by (is_alone h) (places h)
held_counted h = counted_apart (is_held h) (is_owned h) (owned_held h) (places h)

-- the debt is counted from the open nodes, those that wait, those that leases alone hold, what was accepted and taken, the leases out,
-- and what is owed
pub debt_counted : {base : Kept} {h : List Event} {nodes waiting accepted taken alone leases owing : ℕ} → IsLawful base h → nodes ≡ open_count h →
    waiting ≡ waiting_count h → accepted ≡ accepted_count base h → taken ≡ taken_count base h → alone ≡ count_by (is_alone h) (places h) →
    leases ≡ lease_count h → owing ≡ owed_count base h → nodes + 2 * ((accepted - taken - waiting) - alone) + alone + waiting + leases + owing ≡ debt base h
debt_counted {base} {h} law o w a t k l p = search (rules, accepted_count-parts, debt-counts, held_counted)

-- a register that is paid for has room for it
pub debt_bounded : (s : State) → IsPromised s → IsPaid s → debt s.base s.history ≤ greatest_limit
debt_bounded s promised paid = search rules

-- each open node takes a part of it
pub open_count_in_debt : (base : Kept) → (h : List Event) → open_count h ≤ debt base h
open_count_in_debt base h = let counts = debt-counts base h in omega arith

-- and so they are few
pub open_bounded : (s : State) → IsPromised s → IsPaid s → open_count s.history ≤ greatest_limit
open_bounded s promised paid =
    let most = debt_bounded s promised paid in
    let part = open_count_in_debt s.base s.history in omega arith
