use Rattle.rx_ground.proofs.Common.{List, rules, subst, IsPermutation, IsNonDecreasingBy-from_sort_by_key, BaseLease}
use Rattle.rx_ground.proofs.leases.Leases.base_leases.Goals as goal

pub returns : goal.returns
returns c = record {
  same = subst (λ (xs : List BaseLease). IsPermutation xs c.sort_by_key.new.self.items) c.in_ok-leases.ensures c.sort_by_key.ensures.permutation;
  rising = IsNonDecreasingBy-from_sort_by_key (λ k. k.number) _ c.in_ok-sort_by_key.ensures.sorted (λ a r q k. search rules);
}
