use Rattle.rx_hub.proofs.Common.{◌≡◌, length, IsCalm, IsChain, list_at, given_by}
use Rattle.rx_hub.proofs.forcing.next_at.Given as goal

abbrev pub invariant-loop-index : goal.invariant-loop-index
invariant-loop-index l = IsCalm (given_by l.fn.rule) l.fn.store.hubs l.chain × IsChain l.chain × (l.chain.members ≡ l.initial.chain.members)

abbrev pub decreases-loop-index : goal.decreases-loop-index
decreases-loop-index l = length (list_at l.chain 0)
