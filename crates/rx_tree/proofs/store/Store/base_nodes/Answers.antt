use Rattle.rx_tree.proofs.Common.{List, rules, subst, ◌∙◌, IsPermutation, IsNonDecreasingBy-from_sort_by_key, BaseNode, node_as_kept}
use Rattle.rx_tree.proofs.KeptLists.{list_kept}
use Rattle.rx_tree.proofs.store.Store.base_nodes.Goals as goal

pub returns : goal.returns
returns g c = record {
  same = subst (λ (xs : List BaseNode). IsPermutation xs c.sort_by_key.new.self.items)
      (c.in_ok-nodes.ensures ∙ list_kept (λ l. l.node) node_as_kept c.args.self.now.nodes) c.sort_by_key.ensures.permutation;
  rising = IsNonDecreasingBy-from_sort_by_key (λ k. k.number) _ c.in_ok-sort_by_key.ensures.sorted (λ a r q k. search rules);
}
