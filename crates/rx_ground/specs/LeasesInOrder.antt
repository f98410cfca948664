-- How the leases stand in the order of their numbers. No public clause cites this module.
use Rattle.std.specs.Prelude.{◌≡◌, ℕ, ◌+◌, ◌<◌, ◌≤◌, true, nat_lt, cond, is_some, List, [], ◌∷◌, length}
use Rattle.std.specs.Option.{option_map_or}
use Rattle.rx_slots.specs.Slots.{Slots, entry_at}
use Rattle.rx_tree.specs.declared.node.ResKey.{ResKey}
use Rattle.rx_slots.specs.Lists.{Lists, list_at, is_in}

-- the number of the lease at a slot
abbrev pub number_in : Slots ResKey → ℕ → ℕ
number_in out slot = option_map_or (λ e. e.number) (entry_at out slot) 0

-- what each stands for rises
abbrev pub AreRising : (ℕ → ℕ) → List ℕ → Type 0
AreRising f [] = Unit {0}
AreRising f (x ∷ xs) = ((y : ℕ) → is_in y xs ≡ true → f x < f y) × AreRising f xs

-- for so many leases more there is room in both, each at a slot that may stand on the list
abbrev pub room_in : (count room members : ℕ) → ℕ
room_in count room members = cond (nat_lt members (count + room)) 0 room

-- what a contract sees of these
abbrev pub shown : Slots ResKey → Lists → Slots ResKey
shown out order = record out { room = room_in out.count out.room order.members }

-- one list has the slots of the leases, in the order of their numbers
pub record IsInOrder (out : Slots ResKey) (order : Lists) : Type 0 where
  pub single : length order.lists ≤ 1
  pub there : 0 < order.members → 0 < length order.lists
  pub each : (slot : ℕ) → is_in slot (list_at order 0) ≡ is_some (entry_at out slot)
  pub rising : AreRising (number_in out) (list_at order 0)
