use Rattle.rx_hub.proofs.Common.{List, sym, subst, Published, IsKept}
use Rattle.rx_hub.proofs.StoreShowsHubs.{kept_forgot, store_forgot}
use Rattle.rx_hub.proofs.store.Store.forget_ends.Goals as goal
use Rattle.std.proofs.Common.{rules}

pub invariant_of-self : goal.invariant_of-self
invariant_of-self c =
    let s = c.self.inside in
    subst (λ (ps : List Published). IsKept ps s.subscribers s.numbers.items) (sym c.forget_all.ensures.items)
    (kept_forgot s.records.items s.subscribers s.numbers.items c.self.invariant)

pub returns : goal.returns
returns c = search (rules, store_forgot)
