-- Which cause stands first against a call, by the keys that callers have.
use Rattle.rx_book.proofs.Common.{◌≡◌, ℕ, Bool, true, Option, None, is_some, sym, ap, ◌∙◌, ◌⊎◌, true≢false, Refusal, At}
use Rattle.rx_book.proofs.Common.{Call, first_cause, Slots, find, is_out_at, Tree, is_held_at, Place, Key}
use Rattle.rx_book.proofs.Common.{causes, by_key, by_key_of, no_cause, Ground, is_there, ResKey, LeaseKey, has_key, has_res_key, has_lease_key, key_above}
use Rattle.rx_book.proofs.Common.{is_known_place, place_of, keys_of, res_keys_of, lease_keys_of}
use Rattle.rx_event.specs.Causes.{by_res_key, by_lease_key}
use Rattle.rx_ground.specs.FirstCause.{has_node, first_by_key as first_at_key}
use Rattle.rx_book.proofs.ShownKeys.{has_key_is, is_known_place_is, has_res_key_is, has_lease_key_is}
use Rattle.std.proofs.Common.{rules}

module _ {T : Type 0} (tree : Tree T) (stand : Refusal → Bool) (why : Option Refusal) where
  -- what stands first by the tree's key stands first by the caller's
  pub first_by_key : (k : Key) → why ≡ first_cause (by_key (is_some (find tree.nodes k)) stand) →
      first_cause (by_key (has_key (keys_of tree) k) stand) ≡ why
  first_by_key k first = ap (λ b. first_cause (by_key b stand)) (has_key_is tree k) ∙ sym first

  pub first_by_res_key : (k : ResKey) → why ≡ first_cause (by_res_key (is_held_at tree k) stand) →
      first_cause (by_res_key (has_res_key (res_keys_of tree) k) stand) ≡ why
  first_by_res_key k first = ap (λ b. first_cause (by_res_key b stand)) (has_res_key_is tree k) ∙ sym first

  pub first_by_place : (at : At) → why ≡ first_cause (by_key (is_there tree.nodes (key_above at)) stand) →
      first_cause (by_key (is_known_place (keys_of tree) at) stand) ≡ why
  first_by_place at first = ap (λ b. first_cause (by_key b stand)) (is_known_place_is tree at) ∙ sym first

pub first_by_lease_key : (leases : Slots ResKey) (stand : Refusal → Bool) (why : Option Refusal) (k : LeaseKey) →
    why ≡ first_cause (by_lease_key (is_out_at leases k) stand) →
    first_cause (by_lease_key (has_lease_key (lease_keys_of leases) k) stand) ≡ why
first_by_lease_key leases stand why k first = ap (λ b. first_cause (by_lease_key b stand)) (has_lease_key_is leases k) ∙ sym first

-- and so for a call on a ground
module _ {T : Type 0} (b : Ground T) (fresh : Bool) where
  abbrev against : Call → Refusal → Bool
  against = causes b.register.base b.register.history b.register.limit fresh

  pub first_of_node : {why : Option Refusal} (k : Key) (call : ℕ → Call) → why ≡ first_at_key b (has_node b k) fresh (call k.number) →
      first_cause (by_key (has_key (keys_of b.tree) k) (causes b.register.base b.register.history b.register.limit fresh (call k.number))) ≡ why
  first_of_node {why} k call is = first_by_key b.tree (against (call k.number)) why k is

  pub first_of_res : {why : Option Refusal} (k : ResKey) (call : ℕ → Call) →
      why ≡ first_cause (by_res_key (is_held_at b.tree k) (causes b.register.base b.register.history b.register.limit fresh (call k.number))) →
      first_cause (by_res_key (has_res_key (res_keys_of b.tree) k) (causes b.register.base b.register.history b.register.limit fresh (call k.number))) ≡ why
  first_of_res {why} k call is = first_by_res_key b.tree (against (call k.number)) why k is

  pub first_of_place : {why : Option Refusal} {place : Place} {above : Option Key} (at : At) (call : Place → Call) → place ≡ place_of at →
      above ≡ key_above at → why ≡ first_at_key b (is_there b.tree.nodes above) fresh (call place) →
      first_cause (by_key (is_known_place (keys_of b.tree) at) (causes b.register.base b.register.history b.register.limit fresh (call (place_of at)))) ≡ why
  first_of_place {why} at call placed keyed is = first_by_place b.tree (against (call (place_of at))) why at (rw (placed, keyed) at is)

-- where nothing stands the key is known, and nothing stands against the call by numbers
by_known_key : (known : Bool) (stand : Refusal → Bool) → first_cause (by_key known stand) ≡ None → (known ≡ true) × (first_cause stand ≡ None)
by_known_key x0 stand none = search (rules, true≢false, no_cause)

by_known_res_key : (known : Bool) (stand : Refusal → Bool) → first_cause (by_res_key known stand) ≡ None → (known ≡ true) × (first_cause stand ≡ None)
by_known_res_key x0 stand none = search (rules, true≢false, no_cause)

by_known_lease_key : (known : Bool) (stand : Refusal → Bool) → first_cause (by_lease_key known stand) ≡ None → (known ≡ true) × (first_cause stand ≡ None)
by_known_lease_key x0 stand none = search (rules, true≢false, no_cause)

by_which : (call : Call) → (by_key_of call ≡ by_key) ⊎ ((by_key_of call ≡ by_res_key) ⊎ (by_key_of call ≡ by_lease_key))
by_which x0 = search rules

pub unstood : (call : Call) (known : Bool) (stand : Refusal → Bool) → first_cause (by_key_of call known stand) ≡ None →
    (known ≡ true) × (first_cause stand ≡ None)
unstood call known stand none = search (rules, by_which, by_known_key, by_known_res_key, by_known_lease_key)
