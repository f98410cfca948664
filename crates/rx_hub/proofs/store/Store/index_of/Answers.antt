use Rattle.rx_hub.proofs.Common.{ℕ, ◌<◌, ◌-◌, ◌/◌, ◌+◌, Some, length, sym, ap, ◌∙◌, arith, Published, no_hub}
use Rattle.rx_hub.proofs.StoreShowsHubs.{get_same, number_at, not_between, all_before, all_behind, promised}
use Rattle.rx_hub.proofs.store.Store.index_of.Goals as goal
use Rattle.std.proofs.Common.{rules}

pub returns-then-found-number-clause-some : goal.returns-then-found-number-clause-some
returns-then-found-number-clause-some c = let s = c.self.inside in let middle : ℕ = c.loop-low.low + (c.loop-low.high - c.loop-low.low) / 2 in let
    test = c.loop-low-test.true in let inside = c.loop-low.invariant.inside in let below : middle < length s.records.items = omega (
      arith,
      test,
      inside,
    ) in let found = ap (λ (r : Published). r.number) (get_same s.records.items middle no_hub _ below ∙ sym c.index.ensures) ∙
    c.if-found-number.true in rw (← c.self.view_is) (number_at s.records.items s.subscribers s.numbers.items c.self.invariant middle below ∙ ap (λ (n
    : ℕ). Some n) found)

pub loop-low-preserved-then-found-number-2 : goal.loop-low-preserved-then-found-number-2
loop-low-preserved-then-found-number-2 c = grind (arith, length, get_same, all_before)

pub loop-low-preserved : goal.loop-low-preserved
loop-low-preserved c = search (rules, get_same, all_behind)

pub returns-clause-none : goal.returns-clause-none
returns-clause-none c = let s = c.self.inside in rw (← c.self.view_is) (not_between s.records.items s.subscribers s.numbers.items c.self.invariant
    (record { before = c.loop-low.invariant.before; behind = c.loop-low.invariant.behind }) c.loop-low-test.false)

pub returns-then-found-number-clause-promised : goal.returns-then-found-number-clause-promised
returns-then-found-number-clause-promised c = let s = c.self.inside in rw (← c.self.view_is) (promised s.records.items s.subscribers s.numbers.items
    c.self.invariant _)

pub returns-clause-promised : goal.returns-clause-promised
returns-clause-promised c = let s = c.self.inside in rw (← c.self.view_is) (promised s.records.items s.subscribers s.numbers.items c.self.invariant _)
