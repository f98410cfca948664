-- A resource that is held under its key, and that the history leaves owned, is owned there.
use Rattle.rx_ground.proofs.Common.{◌≡◌, true, List, sym, ◌∙◌, Kept, Ghosts, Event, ResKey, Tree, is_owned_at, is_held_at, IsTied}
use Rattle.rx_event.specs.Resources.{is_owned as is_owned_in}
use Rattle.rx_ground.proofs.Told.{owned_in_history}

module _ (base : Kept) {T : Type 0} (g : Ghosts T) (h : List Event) (tree : Tree T) (tied : IsTied base g h tree) where
  pub owned_there : (res : ResKey) → is_held_at tree res ≡ true → is_owned_in h res.number ≡ true → is_owned_at tree res ≡ true
  owned_there res held owned = sym (owned_in_history base g h tree tied res held) ∙ owned
