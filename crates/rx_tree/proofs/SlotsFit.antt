-- The slots of what stands in a store fit a link and a record.
use Rattle.rx_tree.proofs.Common.{◌≡◌, ℕ, ◌+◌, ◌<◌, ◌≤◌, Option, IsSome, IfSome}
use Rattle.rx_tree.proofs.Common.{arith, Key, Slots, find, IsWithin}
use Rattle.std.proofs.Common.{rules}

-- where a value came to, its slot fits
pub home_fits : {X : Type 0} (s : Slots X) (key : Key) {slot capacity : ℕ} → IsSome (find s key) → IsWithin s → capacity ≡ s.count + s.room →
    capacity ≤ 536870912 → slot ≡ key.slot → slot < 536870912
home_fits s key found within is most at = let below = within key found in omega (arith, below, is, most, at)

module _ {X : Type 0} (s : Slots X) (within : IsWithin s) (most : s.count + s.room ≤ 536870912) where
  slot_of_key : (key : Key) → IsSome (find s key) → key.slot < 4294967296
  slot_of_key key found = let below = within key found in omega (arith, below, most)

  pub above_fits : (above : Option Key) → IfSome above (λ key. IsSome (find s key)) → IfSome above (λ key. key.slot < 4294967296)
  above_fits x0 there = search (rules, slot_of_key)
