-- What was there before the next event, and what is found of a held resource.
use Rattle.rx_ground.proofs.Common.{◌≡◌, ℕ, true, false, List, length, Option, Some, None, IfSome, refl, sym, subst, arith, option_map_or, false≢true, Kept}
use Rattle.rx_ground.proofs.Common.{Ghosts, Event, IsLawful, is_open_within, find, Stowed, ResKey, Tree, IsNewest, IsPast, store_key, is_owned, is_owned_at}
use Rattle.rx_ground.proofs.Common.{is_held, is_held_at, some_of, IsTied}
use Rattle.rx_ground.proofs.Common.{Ground, IsStored}
use Rattle.rx_ground.specs.Wrote.{IsBetween}
use Rattle.rx_ground.proofs.EventWritten.{seen}
use Rattle.rx_ground.proofs.ResourcesAfterEvent.{stored_within}

module _ (base : Kept) {T : Type 0} (g : Ghosts T) (h : List Event) (tree : Tree T) (tied : IsTied base g h tree) (law : IsLawful base h) (n : ℕ)
    (at_end : n ≡ length h) where
  pub past_resources : IsPast tree.resources n
  past_resources key some =
      let x = some_of (find tree.resources key) some in
      let w = (stored_within base g h law tree.nodes key.number x.0 (tied.stored.each key x.0 x.1)).0 in omega arith

  pub newest : IsNewest tree n
  newest = record {
    past = λ key some. let x = some_of (find tree.nodes key) some in let w = is_open_within h key.number (tied.records.each key x.0 x.1).alive in omega arith;
    homes = λ key s found. let w = stored_within base g h law tree.nodes key.number s (tied.stored.each key s found) in let a = w.0 in let b = w.1 in
        omega arith;
  }

-- what the key of a held resource finds
pub record IsFoundHeld {T : Type 0} (tree : Tree T) (res : ResKey) : Type 0 where
  pub stowed : Stowed T
  pub found : find tree.resources (store_key res) ≡ Some stowed
  pub held : is_held tree.nodes stowed ≡ true

pub held_found : {T : Type 0} (tree : Tree T) (res : ResKey) → is_held_at tree res ≡ true → IsFoundHeld tree res
held_found {T = T} tree res held = by_value (find tree.resources (store_key res)) refl held where
  by_value : (o : Option (Stowed T)) → find tree.resources (store_key res) ≡ o → option_map_or (is_held tree.nodes) o false ≡ true → IsFoundHeld tree res
  by_value None found held = absurd (false≢true held)
  by_value (Some x) found held = record { stowed = x; found = found; held = held }

-- and that of an owned one
pub record IsFoundOwned {T : Type 0} (tree : Tree T) (res : ResKey) : Type 0 where
  pub stowed : Stowed T
  pub found : find tree.resources (store_key res) ≡ Some stowed
  pub owned : is_owned tree.nodes stowed ≡ true

pub owned_found : {T : Type 0} (tree : Tree T) (res : ResKey) → is_owned_at tree res ≡ true → IsFoundOwned tree res
owned_found {T = T} tree res owned = by_value (find tree.resources (store_key res)) refl owned where
  by_value : (o : Option (Stowed T)) → find tree.resources (store_key res) ≡ o → option_map_or (is_owned tree.nodes) o false ≡ true → IsFoundOwned tree res
  by_value None found owned = absurd (false≢true owned)
  by_value (Some x) found owned = record { stowed = x; found = found; owned = owned }

-- what the ground says of a resource that is found
pub record IsFoundStored {T : Type 0} (g : Ghosts T) (b : Ground T) (res : ResKey) : Type 0 where
  pub stowed : Stowed T
  pub found : find b.tree.resources (store_key res) ≡ Some stowed
  pub is : IsStored b.register.base g b.register.history b.tree.nodes res.number stowed

module _ {T : Type 0} (g : Ghosts T) {now given : Ground T} (same : now ≡ given) (between : IsBetween g given) (res : ResKey) where
  found_stored : (s : Stowed T) → find given.tree.resources (store_key res) ≡ Some s → IsFoundStored g now res
  found_stored s found = seen (λ b. IsFoundStored g b res) same
      (record { stowed = s; found = found; is = between.tied.of_tree.stored.each (store_key res) s found })

  pub held_stored : is_held_at given.tree res ≡ true → IsFoundStored g now res
  held_stored held = let f = held_found given.tree res held in found_stored f.stowed f.found

  pub owned_stored : is_owned_at given.tree res ≡ true → IsFoundStored g now res
  owned_stored owned = let f = owned_found given.tree res owned in found_stored f.stowed f.found

-- what is said of what is found
pub of_found : {X : Type 0} (o : Option X) (x : X) (P : X → Type 0) → o ≡ Some x → IfSome o P → P x
of_found o x P same holds = subst (λ p. IfSome p P) same holds

pub if_found : {X : Type 0} (o : Option X) (x : X) (P : X → Type 0) → o ≡ Some x → P x → IfSome o P
if_found o x P same holds = subst (λ p. IfSome p P) (sym same) holds
