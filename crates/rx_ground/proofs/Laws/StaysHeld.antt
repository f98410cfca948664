-- What is forced takes no resource from a node that stays open.
use Rattle.rx_ground.proofs.Common.{◌≡◌, ℕ, true, Some, sym, ap, ◌∙◌, Ghosts, Accept, is_open, accepted_by, Slots, find, Stowed, ResKey, store_key, Ground}
use Rattle.rx_ground.proofs.Common.{is_held_at, IsTied, KeepsOlder}
use Rattle.rx_ground.proofs.Laws.KeysKept.{held_before}

module _ {T : Type 0} (g : Ghosts T) (mid new : Ground T) (tied : IsTied mid.register.base g mid.register.history mid.tree) (number : ℕ)
    (nodes : KeepsOlder new.register.history number mid.tree.nodes new.tree.nodes) where
  -- a resource stays held where the node that accepted it is open in the new history
  pub resource_stays : new.tree.resources ≡ mid.tree.resources → (res : ResKey) (n tag : ℕ) →
      accepted_by mid.register.base mid.register.history res.number ≡ Some (Accept n tag) → is_open new.register.history n ≡ true →
      is_held_at mid.tree res ≡ true → is_held_at new.tree res ≡ true
  resource_stays same res n tag accepted alive held =
      held_before new.tree mid.tree (sym same) res (λ s found there. nodes.still s.node there (home s found)) held where
        home : (s : Stowed T) → find new.tree.resources (store_key res) ≡ Some s → is_open new.register.history s.node.number ≡ true
        home s found =
            let stored = ap (λ (r : Slots (Stowed T)). find r (store_key res)) (sym same) ∙ found in
            let both : Some (Accept s.node.number (g.tag_of s.resource)) ≡ Some (Accept n tag) =
            sym (tied.stored.each (store_key res) s stored).accepted ∙ accepted in
            let at_n : s.node.number ≡ n = cc in ap (is_open new.register.history) at_n ∙ alive
