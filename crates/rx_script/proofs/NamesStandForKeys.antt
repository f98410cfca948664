-- What the names of nodes, of resources and of leases stand for.
use Rattle.rx_script.proofs.Common.{◌≡◌, List, map, ap, ◌∙◌, Some, None, option_map, Key, ResKey, LeaseKey, Name, Named, bound, key_named, node_binding}
use Rattle.rx_script.proofs.Common.{res_binding, lease_binding}
use Rattle.rx_agenda.proofs.Laws.{bound-keys}

pub bound-nodes : (names : List (Named Key)) (name : Name) → bound (map node_binding names) name ≡ option_map (λ k. k.number) (key_named names name)
bound-nodes names name = bound-keys (λ k. k.number) names name

pub bound-resources : (names : List (Named ResKey)) (name : Name) → bound (map res_binding names) name ≡ option_map (λ k. k.number) (key_named names name)
bound-resources names name = bound-keys (λ k. k.number) names name

-- a name that stands for a node, and one that stands for none
pub node_bound : (names : List (Named Key)) (name : Name) (k : Key) → key_named names name ≡ Some k → bound (map node_binding names) name ≡ Some k.number
node_bound names name k e = bound-nodes names name ∙ ap (option_map (λ k. k.number)) e

pub node_unbound : (names : List (Named Key)) (name : Name) → key_named names name ≡ None → bound (map node_binding names) name ≡ None
node_unbound names name e = bound-nodes names name ∙ ap (option_map (λ k. k.number)) e

pub bound-leases : (names : List (Named LeaseKey)) (name : Name) → bound (map lease_binding names) name ≡ option_map (λ k. k.number) (key_named names name)
bound-leases names name = bound-keys (λ k. k.number) names name
