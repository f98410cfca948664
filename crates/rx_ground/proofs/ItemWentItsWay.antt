-- An item that went its whole way, and its event.
use Rattle.rx_ground.proofs.Common.{◌≡◌, ℕ, ℤ, ◌+◌, List, [], ◌∷◌, ◌++◌, length, sym, subst, ◌∙◌, append-nil, filter_map, Ghosts, Item, Tree}
use Rattle.rx_ground.proofs.Common.{MayFollow, IsLawful, Hubs, Writes, AreTied, ArePassed, IsPassing}
use Rattle.rx_event.specs.Climb.{Stop as NumberedStop, stops}
use Rattle.rx_register.specs.State.{State as Register}
use Rattle.rx_ground.proofs.RecordsAfterItem.{tied_item}
use Rattle.rx_ground.proofs.RegisterAfterWrite.{writes_told}
use Rattle.std.proofs.Common.{rules}

module _ {T : Type 0} (first : Register) (start : Tree T) (leaf : ℕ) (value : ℤ) (register : Register) (tree : Tree T)
    (passed : IsPassing first start leaf value register tree []) where
  all_done : passed.done ≡ stops first.history leaf
  all_done = sym (passed.whole ∙ append-nil passed.done)

  pub arrived_writes : (new : Register) → new.base ≡ register.base → new.history ≡ register.history ++ Item leaf value ∷ [] → new.pending ≡ [] →
      new.room + 1 ≡ register.room →
      new.limit ≡ register.limit → new.given ≡ register.given → new.mail_room ≡ register.mail_room → Writes first (Item leaf value ∷ []) new
  arrived_writes new = search (rules, writes_told, length, filter_map, all_done)

  pub arrived_tied : (g : Ghosts T) (hubs : Hubs) → IsLawful first.base first.history → MayFollow first.base first.history (Item leaf value) →
      AreTied first.base g first.history start hubs → AreTied first.base g (first.history ++ Item leaf value ∷ []) tree hubs
  arrived_tied g hubs law next tied = tied_item value law next tree tied
      (subst (λ (ss : List NumberedStop). ArePassed first.base first.history ss tree.nodes tree.chain) all_done passed.records)
      (λ key there. passed.there key ∙ there) passed.resources
