-- The keys that are listed are those that find something.
use Rattle.rx_book.proofs.Common.{◌≡◌, true, false, List, Option, Some, None, is_some, IsSome, refl, sym, ap, ◌∙◌, eq-eqb, nat_eq, Contains, Key}
use Rattle.rx_book.proofs.Common.{option_map_or, and_parts, and_from, eqb-true, false≢true, Slots, find, lease_key, is_out_at, Node, Stowed, Tree, is_held_at}
use Rattle.rx_book.proofs.Common.{some_of, held_in, is_there, ResKey, LeaseKey, At, has_key, has_res_key, has_lease_key, is_known_place, key_above}
use Rattle.rx_book.proofs.Common.{keys_of, res_keys_of, lease_keys_of, Contains-map, Contains-from_map}
use Rattle.std.proofs.lemmas.List.Folds.{list_any_at, Any-from_list_any}
use Rattle.std.specs.Cmp.{both_ways as same_test}
use Rattle.rx_tree.specs.Resources.{is_held, store_key}
use Rattle.rx_ground.specs.Shown.{Kept, kept_in}
use Rattle.rx_ground.proofs.Laws.Keys.{kept_finds, finds_kept, held_finds, finds_held}
use Rattle.rx_book.proofs.Laws.Keys.{Contains-has_key}
use Rattle.std.proofs.Common.{rules}

-- keys here and there -----------------------------------------------------------------------------

pub same_res_key : (j k : ResKey) → j.slot ≡ k.slot → j.number ≡ k.number → j ≡ k
same_res_key j k slot number = λ i. record { slot = slot i; number = number i }

-- to know a key is to contain it
pub has_key-Contains : (keys : List Key) (k : Key) → Contains keys k → has_key keys k ≡ true
has_key-Contains keys k c = search (rules, and_from, eq-eqb, list_any_at, nat_eq)

pub has_res_key-Contains : (keys : List ResKey) (k : ResKey) → Contains keys k → has_res_key keys k ≡ true
has_res_key-Contains keys k c = search (rules, and_from, eq-eqb, list_any_at, nat_eq)

pub Contains-has_res_key : (keys : List ResKey) (k : ResKey) → has_res_key keys k ≡ true → Contains keys k
Contains-has_res_key keys k found = search (rules, Any-from_list_any, nat_eq, and_parts, same_res_key, eqb-true)

-- where a node is to be opened --------------------------------------------------------------------

module _ {T : Type 0} (tree : Tree T) where
  abbrev held_key : Kept (Stowed T) → ResKey
  held_key x = record { slot = x.key.slot; number = x.key.number }

  -- nodes -----------------------------------------------------------------------------------------

  -- a listed key finds a record
  pub key_finds : (k : Key) → Contains (keys_of tree) k → IsSome (find tree.nodes k)
  key_finds k c =
      let from = Contains-from_map (λ (x : Kept Node). x.key) (kept_in tree.nodes) k c in
      ap (λ (j : Key). is_some (find tree.nodes j)) (sym from.2) ∙ ap is_some (kept_finds tree.nodes from.0 from.1)

  -- and one that finds a record is listed
  pub finding_key : (k : Key) → IsSome (find tree.nodes k) → Contains (keys_of tree) k
  finding_key k some =
      let found = some_of (find tree.nodes k) some in
      let here : Kept Node = record { key = k; value = found.0 } in
      Contains-map (λ (x : Kept Node). x.key) (kept_in tree.nodes) here (finds_kept tree.nodes k found.0 found.1)

  pub has_key_is : (k : Key) → has_key (keys_of tree) k ≡ is_some (find tree.nodes k)
  has_key_is k = same_test _ _ (λ has. key_finds k (Contains-has_key (keys_of tree) k has)) (λ some. has_key-Contains (keys_of tree) k (finding_key k some))

  -- a place is known where the key that it names finds a record
  pub is_known_place_is : (at : At) → is_known_place (keys_of tree) at ≡ is_there tree.nodes (key_above at)
  is_known_place_is x0 = search (rules, has_key_is)

  -- resources -------------------------------------------------------------------------------------

  pub res_key_finds : (k : ResKey) → Contains (res_keys_of tree) k → is_held_at tree k ≡ true
  res_key_finds k c =
      let from = Contains-from_map held_key (held_in tree) k c in
      let found = held_finds tree from.0 from.1 in
      ap (λ (j : ResKey). is_held_at tree j) (sym from.2) ∙
      ap (λ (o : Option (Stowed T)). option_map_or (is_held tree.nodes) o false) found.0 ∙ found.1

  pub finding_res_key : (k : ResKey) → is_held_at tree k ≡ true → Contains (res_keys_of tree) k
  finding_res_key k held = by_value (find tree.resources (store_key k)) refl held where
    by_value : (o : Option (Stowed T)) → find tree.resources (store_key k) ≡ o → option_map_or (is_held tree.nodes) o false ≡ true →
        Contains (res_keys_of tree) k
    by_value None none is = absurd (false≢true is)
    by_value (Some x) found is =
        let here : Kept (Stowed T) = record { key = store_key k; value = x } in
        Contains-map held_key (held_in tree) here (finds_held tree here.key x found is)

  pub has_res_key_is : (k : ResKey) → has_res_key (res_keys_of tree) k ≡ is_held_at tree k
  has_res_key_is k = same_test _ _ (λ has. res_key_finds k (Contains-has_res_key (res_keys_of tree) k has))
      (λ held. has_res_key-Contains (res_keys_of tree) k (finding_res_key k held))

-- leases ------------------------------------------------------------------------------------------

pub same_lease_key : (j k : LeaseKey) → j.slot ≡ k.slot → j.number ≡ k.number → j ≡ k
same_lease_key j k slot number = λ i. record { slot = slot i; number = number i }

has_lease_key-Contains : (keys : List LeaseKey) (k : LeaseKey) → Contains keys k → has_lease_key keys k ≡ true
has_lease_key-Contains keys k c = search (rules, and_from, eq-eqb, list_any_at, nat_eq)

Contains-has_lease_key : (keys : List LeaseKey) (k : LeaseKey) → has_lease_key keys k ≡ true → Contains keys k
Contains-has_lease_key keys k found = search (rules, Any-from_list_any, nat_eq, and_parts, same_lease_key, eqb-true)

module _ (leases : Slots ResKey) where
  abbrev shown_lease : Kept ResKey → LeaseKey
  shown_lease x = record { slot = x.key.slot; number = x.key.number }

  pub lease_key_finds : (k : LeaseKey) → Contains (lease_keys_of leases) k → IsSome (find leases (lease_key k))
  lease_key_finds k c =
      let from = Contains-from_map shown_lease (kept_in leases) k c in
      ap (λ (j : LeaseKey). is_some (find leases (lease_key j))) (sym from.2) ∙ ap is_some (kept_finds leases from.0 from.1)

  pub finding_lease_key : (k : LeaseKey) → IsSome (find leases (lease_key k)) → Contains (lease_keys_of leases) k
  finding_lease_key k some =
      let found = some_of (find leases (lease_key k)) some in
      let here : Kept ResKey = record { key = lease_key k; value = found.0 } in
      Contains-map shown_lease (kept_in leases) here (finds_kept leases here.key found.0 found.1)

  pub has_lease_key_is : (k : LeaseKey) → has_lease_key (lease_keys_of leases) k ≡ is_out_at leases k
  has_lease_key_is k = search (rules, lease_key_finds, Contains-has_lease_key, has_lease_key-Contains, finding_lease_key)
