-- What a call made is listed after what it forced.
use Rattle.rx_book.proofs.Common.{◌≡◌, ℕ, true, length, Some, IsSome, Ghosts, Accept, is_open, accepted_by, find, is_held_at, Ground, IsTied, Key}
use Rattle.rx_book.proofs.Common.{KeepsOlder, resource_stays, ResKey, state_of, IsNewKey, IsNewResKey}
use Rattle.rx_book.proofs.ShownKeys.{has_key_is, has_res_key_is}
use Rattle.std.proofs.Common.{rules}

module _ {T : Type 0} (g : Ghosts T) (mid new : Ground T)
    (nodes : KeepsOlder new.register.history (length mid.register.history) mid.tree.nodes new.tree.nodes) (place : ℕ) where
  -- a node that is open then
  pub key_listed : (key : Key) → key.number ≡ place → IsSome (find mid.tree.nodes key) →
      is_open new.register.history place ≡ true → IsNewKey (state_of g new) place key
  key_listed key number there alive = search (rules, has_key_is)

  -- a resource of such a node
  pub res_key_listed : IsTied mid.register.base g mid.register.history mid.tree → (res : ResKey) →
      new.tree.resources ≡ mid.tree.resources → res.number ≡ place → is_held_at mid.tree res ≡ true → {n tag : ℕ} →
      accepted_by mid.register.base mid.register.history place ≡ Some (Accept n tag) → is_open new.register.history n ≡ true →
      IsNewResKey (state_of g new) place res
  res_key_listed tied res same number held {n} {tag} accepted alive = search (rules, Accept, has_res_key_is, resource_stays)
