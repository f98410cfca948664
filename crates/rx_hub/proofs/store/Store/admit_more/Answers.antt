use Rattle.rx_hub.proofs.Common.{ap, arith, Lists}
use Rattle.rx_hub.proofs.StoreShowsHubs.{kept_same}
use Rattle.rx_hub.proofs.store.Store.admit_more.Goals as goal

pub invariant_of-self-2 : goal.invariant_of-self-2
invariant_of-self-2 c = let s = c.self.inside in kept_same s.records.items s.subscribers s.numbers.items c.self.invariant _ _ (ap (λ (l : Lists).
    l.lists) c.admit.ensures.kept) c.lengthen.ensures.same (let m = c.admit.ensures.most in let o = c.in_ok-lengthen.ensures.ok in let l =
    c.lengthen.ensures.longer in let k = c.self.invariant.slots in omega (arith, m, o, l, k))
