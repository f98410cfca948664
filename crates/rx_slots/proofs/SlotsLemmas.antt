-- What a write makes of the entries, slot by slot.
use Rattle.rx_slots.proofs.Common.{◌≡◌, ℕ, zero, suc, ◌+◌, ◌-◌, List, [], ◌∷◌, ◌++◌, length, get_or, replicate, Option, Some, None}
use Rattle.rx_slots.proofs.Common.{refl, length-set, get_or-set_same, get_or-set_other, Entry, Slots}
use Rattle.rx_slots.proofs.Common.{placed, Changes}
use Rattle.std.proofs.lemmas.List.{length-append, length-replicate}
use Rattle.std.proofs.Common.{rules}

-- nothing more is read past the end of a list that is longer by nothing
pub get_or-append-nothing : {X : Type 0} (xs : List (Option X)) (more k : ℕ) → get_or (xs ++ replicate more None) k None ≡ get_or xs k None
get_or-append-nothing [] zero k = refl
get_or-append-nothing [] (suc more) zero = refl
get_or-append-nothing [] (suc more) (suc k) = get_or-append-nothing [] more k
get_or-append-nothing (x ∷ xs) more zero = refl
get_or-append-nothing (x ∷ xs) more (suc k) = get_or-append-nothing xs more k

module _ {T : Type 0} where
  pub length-placed : (entries : List (Option (Entry T))) (slot : ℕ) (e : Entry T) →
      length (placed entries slot e) ≡ length entries + (slot + 1 - length entries)
  length-placed entries slot e =
      search (rules, length, length-set, replicate, length-append, length-replicate)

  -- an insert changes one slot alone
  pub Changes-placed : (old new : Slots T) (slot : ℕ) (e : Entry T) → new.entries ≡ placed old.entries slot e → Changes old new slot (Some e)
  Changes-placed old new slot e written =
      search (rules, length, replicate, length-append, length-replicate, get_or-set_same, get_or-set_other, get_or-append-nothing)
