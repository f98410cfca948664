-- A resource that is owned under its key is held under it.
use Rattle.rx_ground.proofs.Common.{◌≡◌, true, not, ◌||◌, ◌==◌, Option, Some, None, option_map_or, false≢true, ap, ResKey, Tree, Stowed, store_key, find}
use Rattle.rx_ground.proofs.Common.{is_owned, is_owned_at, is_held_at, false}
use Rattle.rx_tree.specs.Resources.{is_held}

pub owned_is_held : {T : Type 0} (tree : Tree T) (res : ResKey) → is_owned_at tree res ≡ true → is_held_at tree res ≡ true
owned_is_held {T = T} tree res owned = by_value (find tree.resources (store_key res)) owned where
  by_value : (o : Option (Stowed T)) → option_map_or (is_owned tree.nodes) o false ≡ true → option_map_or (is_held tree.nodes) o false ≡ true
  by_value None none = absurd (false≢true none)
  by_value (Some x) some = ap (λ b. b || not (x.leases == 0)) some
