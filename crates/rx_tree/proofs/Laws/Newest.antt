-- How a number stays the newest, and the next one becomes it.
use Rattle.rx_tree.proofs.Common.{◌≡◌, ℕ, IsSome, Key, Slots, find, Tree, IsNewest, IsPast}
use Rattle.std.proofs.Common.{rules}

module _ {X : Type 0} (old new : Slots X) where
  -- no number comes that was not there
  pub past_fewer : (n : ℕ) → ((k : Key) → IsSome (find new k) → IsSome (find old k)) → IsPast old n → IsPast new n
  past_fewer n fewer past k some = past k (fewer k some)

module _ {T : Type 0} (old new : Tree T) where
  pub newest_fewer : (n : ℕ) → ((k : Key) → IsSome (find new.nodes k) → IsSome (find old.nodes k)) → new.resources ≡ old.resources →
      IsNewest old n → IsNewest new n
  newest_fewer n fewer same newest = search (rules, past_fewer)
