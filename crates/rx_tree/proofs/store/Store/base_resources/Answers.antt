use Rattle.rx_tree.proofs.Common.{List, rules, subst, ◌∙◌, IsPermutation, IsNonDecreasingBy-from_sort_by_key, BaseResource, resource_as_kept, nodes_of}
use Rattle.rx_tree.proofs.KeptLists.{list_kept}
use Rattle.rx_tree.proofs.store.Store.base_resources.Goals as goal

pub returns : goal.returns
returns g c = record {
  same = subst (λ (xs : List BaseResource). IsPermutation xs c.sort_by_key.new.self.items)
      (c.in_ok-resources.ensures ∙ list_kept (λ r. r.stowed) (resource_as_kept g.R.Resource (nodes_of c.args.self.now)) c.args.self.now.resources)
      c.sort_by_key.ensures.permutation;
  rising = IsNonDecreasingBy-from_sort_by_key (λ k. k.number) _ c.in_ok-sort_by_key.ensures.sorted (λ a r q k. search rules);
}
