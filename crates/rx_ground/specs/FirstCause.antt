-- What stands first against a call on a ground.
use Rattle.std.specs.Prelude.{◌≡◌, if◌then◌else◌, Bool, true, false, Option, Some, None, is_some}
use Rattle.std.proofs.Math.Bool.{not}
use Rattle.rx_event.specs.declared.event.Place.{Place}
use Rattle.rx_event.specs.declared.refusal.Refusal.TheVariants.{Gone, WrongKind, PlaceTaken, NothingOwed}
use Rattle.rx_event.specs.declared.refusal.Refusal.{Refusal}
use Rattle.rx_event.specs.Calls.{Call}
use Rattle.rx_event.specs.Refusals.{first_cause}
use Rattle.rx_event.specs.Causes.{causes, is_gone, is_wrong_place, is_taken_place, is_unowed_place, by_key, by_res_key, by_lease_key}
use Rattle.rx_slots.specs.declared.Key.{Key}
use Rattle.rx_slots.specs.Slots.{find}
use Rattle.rx_ground.specs.Shown.{Ground}

module _ {T : Type 0} where
  -- the key is an open node's
  abbrev pub has_node : Ground T → Key → Bool
  has_node b key = is_some (find b.tree.nodes key)

  -- against a call by a node's key, which is known or not, and with a resource, which is fresh or not; where a call has no key
  -- or no resource, these are true
  abbrev pub first_by_key : Ground T → (is_known is_fresh : Bool) → Call → Option Refusal
  first_by_key b is_known is_fresh call =
      first_cause (by_key is_known (causes b.register.base b.register.history b.register.limit is_fresh call))

  -- against a call by a node's key alone
  abbrev pub first_at : Ground T → Key → Call → Option Refusal
  first_at b key call = first_by_key b (has_node b key) true call

  -- against a call by a held resource's key
  abbrev pub first_by_res_key : Ground T → (is_known : Bool) → Call → Option Refusal
  first_by_res_key b is_known call = first_cause (by_res_key is_known (causes b.register.base b.register.history b.register.limit true call))

  -- against a call by the key of a lease
  abbrev pub first_by_lease_key : Ground T → (is_known : Bool) → Call → Option Refusal
  first_by_lease_key b is_known call =
      first_cause (by_lease_key is_known (causes b.register.base b.register.history b.register.limit true call))

  -- against a place alone, of what the node that it names tells: its key is known or not
  abbrev pub first_at_place : Ground T → (is_known : Bool) → Place → Option Refusal
  first_at_place b is_known place = if not is_known then Some Gone
      else if is_gone b.register.history place then Some Gone
      else if is_wrong_place b.register.history place then Some WrongKind
      else if is_taken_place b.register.base b.register.history place then Some PlaceTaken
      else if is_unowed_place b.register.base b.register.history place then Some NothingOwed else None

  -- nothing stands against it
  pub record IsFreePlace (b : Ground T) (is_known : Bool) (place : Place) : Type 0 where
    pub known : is_known ≡ true
    pub gone : is_gone b.register.history place ≡ false
    pub wrong : is_wrong_place b.register.history place ≡ false
    pub taken : is_taken_place b.register.base b.register.history place ≡ false
    pub unowed : is_unowed_place b.register.base b.register.history place ≡ false
