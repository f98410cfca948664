-- What is kept of the records that are there is the base of their history.
use Rattle.rx_ground.proofs.Common.{◌≡◌, ℕ, zero, suc, ◌+◌, ◌<◌, Bool, true, false, cond, List, [], ◌∷◌, map, length, get_or, slice_get, Option, Some, None}
use Rattle.rx_ground.proofs.Common.{option_map, refl, sym, ap, subst, ◌∙◌, inl, inr, ◌⊎◌, arith, not, ◌&&◌, ◌||◌, Contains, cons_option, filter, filter_map}
use Rattle.rx_ground.proofs.Common.{list_any, range_with_len, option_map_or, false≢true, same_Some, none-some, Ghosts, BaseNode, BaseResource, BaseState, at}
use Rattle.rx_ground.proofs.Common.{BaseLease, Event, Close, makes_resource, makes_hub, is_take_of, open_nodes, hubs, places, is_untaken, IsLawful, at_within}
use Rattle.rx_ground.proofs.Common.{is_open_within, is_out_within, is_held_within, is_waiting_within, held_resource, held_not_taken, waiting_parts, Entry}
use Rattle.rx_ground.proofs.Common.{Slots, entry_of, find, Node, ResKey, Stowed, IsByNumber, kept_by, node_as_kept, resource_as_kept, state_in, Tree, is_lent}
use Rattle.rx_ground.proofs.Common.{AreApart, is_owned, lease_as_kept, Hub, Hubs, AreHubsOf, IsRecordOf, HasKey, IsTied, IsStored, AreLeased}
use Rattle.rx_event.specs.declared.base.BaseState.TheVariants.{Owned, Leased, Waiting}
use Rattle.rx_event.specs.Kept.{Kept as Base}
use Rattle.rx_event.specs.Resources.{is_owned as is_owned_in, is_out, is_held as is_held_in, is_waiting, is_taken}
use Rattle.rx_event.specs.Bases.{keep_node, keep_hub, keep_resource, keep_lease, accept_node, accept_tag, lease_resource, mode_of}
use Rattle.rx_hub.specs.Hubs.{IsPromised as AreHubsPromised, hub_as_kept}
use Rattle.rx_ground.specs.Shown.{Kept, kept_from, kept_in}
use Rattle.rx_ground.proofs.Laws.Members.{Contains-head, Contains-later, Contains-none, Contains-cases, Contains-map, Contains-from_map}
use Rattle.rx_ground.proofs.Laws.JustOpenHeldWaiting.{numbers, just_all, just_nodes, just_out}
use Rattle.rx_ground.proofs.Laws.Numbers.{ListsJust}
use Rattle.rx_ground.proofs.TreeAgreesOnResource.{owned_agrees, held_agrees}
use Rattle.rx_ground.proofs.FoundIsListed.{kept_found}
use Rattle.rx_ground.proofs.RisingNumbers.{Rising, rising_just, in_order}
use Rattle.std.proofs.Common.{rules}

-- slots as lists ------------------------------------------------------------------------------------

module _ {X Y : Type 0} (keep : Entry X → Y) where
  abbrev keep_kept : Kept X → Y
  keep_kept k = keep (entry_of k.key.number k.value)

  from_slots : (es all : List (Option (Entry X))) (first : ℕ) → ((i : ℕ) → get_or all (first + i) None ≡ get_or es i None) →
      filter_map (λ slot. option_map keep (get_or all slot None)) (range_with_len first (length es)) ≡ map keep_kept (kept_from first es)
  from_slots [] all first same = refl
  from_slots (o ∷ es) all first same =
      by_entry (from_slots es all (first + 1) (λ i. ap (λ s. get_or all s None) (let e : first + 1 + i ≡ first + suc i = omega arith in e) ∙ same (suc i))) o
      (ap (λ s. get_or all s None) (let e : first ≡ first + 0 = omega arith in e) ∙ same 0)
    where
      rest : List Y
      rest = filter_map (λ slot. option_map keep (get_or all slot None)) (range_with_len (first + 1) (length es))

      next : first + 1 ≡ suc first
      next = omega arith

      by_entry : rest ≡ map keep_kept (kept_from (first + 1) es) → (x : Option (Entry X)) → get_or all first None ≡ x →
          cons_option (option_map keep (get_or all first None)) rest ≡ map keep_kept (kept_from first (x ∷ es))
      by_entry further None is = ap (λ y. cons_option (option_map keep y) rest) is ∙ further ∙ ap (λ s. map keep_kept (kept_from s es)) next
      by_entry further (Some e) is = ap (λ y. cons_option (option_map keep y) rest) is ∙
          ap (λ ks. keep e ∷ ks) (further ∙ ap (λ s. map keep_kept (kept_from s es)) next)

  pub kept_listed_by : (slots : Slots X) → kept_by keep slots ≡ map keep_kept (kept_in slots)
  kept_listed_by slots = from_slots slots.entries slots.entries 0 (λ i. ap (λ s. get_or slots.entries s None) (let e : 0 + i ≡ i = omega arith in e))

  -- in the order of their numbers they are what is kept of the numbers that pass
  pub slots_in_order : {number : Y → ℕ} → ((k : Kept X) → number (keep_kept k) ≡ k.key.number) →
      (slots : Slots X) (keep_number : ℕ → Y) {test : ℕ → Bool} (m : ℕ) {ys : List Y} →
      IsByNumber number (kept_by keep slots) ys → ((k : Kept X) → Contains (kept_in slots) k → keep_kept k ≡ keep_number k.key.number) →
      ListsJust test (numbers (kept_in slots)) → ((n : ℕ) → test n ≡ true → n < m) → ys ≡ map keep_number (filter test (range_with_len 0 m))
  slots_in_order {number} numbered slots keep_number {test} m {ys} order each just below =
      in_order number keep_number m (map keep_kept (kept_in slots)) ys (subst (λ (xs : List Y). IsByNumber number xs ys) (kept_listed_by slots) order)
      each_kept (subst (ListsJust test) (sym (same_numbers (kept_in slots))) just) below
    where
      same_numbers : (ks : List (Kept X)) → map number (map keep_kept ks) ≡ numbers ks
      same_numbers [] = refl
      same_numbers (k ∷ ks) = λ i. numbered k i ∷ same_numbers ks i

      each_kept : (y : Y) → Contains (map keep_kept (kept_in slots)) y → y ≡ keep_number (number y)
      each_kept y c =
          let from = Contains-from_map keep_kept (kept_in slots) y c in
          sym from.2 ∙ each from.0 from.1 ∙ ap keep_number (sym (numbered from.0) ∙ ap number from.2)

-- nodes, resources and leases -----------------------------------------------------------------------

untaken_within : (h : List Event) (r : ℕ) → is_untaken h r ≡ true → r < length h
untaken_within h r u = search (rules, length, is_held_within, is_waiting_within)

module _ (base : Base) {T : Type 0} (g : Ghosts T) (h : List Event) (tree : Tree T) (tied : IsTied base g h tree) where
  node_kept : (k : Kept Node) → Contains (kept_in tree.nodes) k → node_as_kept (entry_of k.key.number k.value) ≡ keep_node base h k.key.number
  node_kept k c = (λ i. record {
    number = k.key.number;
    made = sym made i;
    source_opened = (is.marks i).source_opened;
    notifier_opened = (is.marks i).notifier_opened;
    source_completed = (is.marks i).source_completed;
    owed = (is.marks i).owed;
  }) where
    is : IsRecordOf base h k.key.number k.value
    is = tied.records.each k.key k.value (kept_found tree.nodes k c)

    made : option_map_or (λ e. e) (slice_get h k.key.number) (Close k.key.number) ≡ k.value.made
    made = ap (λ o. option_map_or (λ e. e) o (Close k.key.number)) is.made

  pub nodes_kept : AreApart tree.nodes → (ys : List BaseNode) → IsByNumber (λ k. k.number) (kept_by node_as_kept tree.nodes) ys →
      ys ≡ map (keep_node base h) (open_nodes h)
  nodes_kept apart ys order = slots_in_order node_as_kept (λ k. refl) tree.nodes (keep_node base h) (length h) order node_kept
      (just_nodes base g h tree tied apart) (is_open_within h)

  -- what is stored was not taken
  stored_untaken : (k : Kept (Stowed T)) → Contains (kept_in tree.resources) k → is_untaken h k.key.number ≡ true
  unfolding is_waiting is_taken
  stored_untaken k c = shape (at makes_resource h k.key.number) (is_held_in h k.key.number) (list_any (is_take_of k.key.number) h) is.made is.untaken where
    is : IsStored base g h tree.nodes k.key.number k.value
    is = tied.stored.each k.key k.value (kept_found tree.resources k c)

    shape : (a b d : Bool) → a ≡ true → d ≡ false → (b || (a && not b && not (a && d))) ≡ true
    shape true true d x y = refl
    shape true false false x y = refl
    shape true false true x y = absurd (false≢true (sym y))
    shape false b d x y = absurd (false≢true x)

  -- and what was not taken is stored
  untaken_stored : IsLawful base h → (r : ℕ) → is_untaken h r ≡ true → HasKey tree.resources r
  unfolding is_taken
  untaken_stored law r u = by_state (is_held_in h r) refl u where
    untaken : at makes_resource h r ≡ true → (at makes_resource h r && list_any (is_take_of r) h) ≡ false → list_any (is_take_of r) h ≡ false
    untaken made none = sym (ap (λ b. b && list_any (is_take_of r) h) made) ∙ none

    by_state : (b : Bool) → is_held_in h r ≡ b → (b || is_waiting h r) ≡ true → HasKey tree.resources r
    by_state true held passes = let made = held_resource h r held in tied.stored.every r made (untaken made (held_not_taken base h law r held))
    by_state false free waits = let parts = waiting_parts h r waits in tied.stored.every r parts.0 (untaken parts.0 parts.2)

  resource_kept : (k : Kept (Stowed T)) → Contains (kept_in tree.resources) k →
      resource_as_kept g tree.nodes (entry_of k.key.number k.value) ≡ keep_resource base h k.key.number
  resource_kept k c = (λ i. record {
    number = k.key.number;
    node = sym (ap (λ o. option_map_or accept_node o 0) is.accepted) i;
    tag = sym (ap (λ o. option_map_or accept_tag o 0) is.accepted) i;
    uses = is.uses i;
    state = state i;
  }) where
    found : find tree.resources k.key ≡ Some k.value
    found = kept_found tree.resources k c

    is : IsStored base g h tree.nodes k.key.number k.value
    is = tied.stored.each k.key k.value found

    shape : (a b : Bool) → cond {A = BaseState} a Owned (cond b Leased Waiting) ≡ cond a Owned (cond (a || b) Leased Waiting)
    shape true b = refl
    shape false b = refl

    state : state_in tree.nodes k.value ≡ cond (is_owned_in h k.key.number) Owned (cond (is_held_in h k.key.number) Leased Waiting)
    state = shape (is_owned tree.nodes k.value) (is_lent k.value) ∙ (λ i. cond (sym (owned_agrees base g h tree tied k.key k.value found) i) Owned
        (cond (sym (held_agrees base g h tree tied k.key k.value found) i) Leased Waiting))

  pub resources_kept : AreApart tree.resources → IsLawful base h → (ys : List BaseResource) →
      IsByNumber (λ k. k.number) (kept_by (resource_as_kept g tree.nodes) tree.resources) ys →
      ys ≡ map (keep_resource base h) (filter (is_untaken h) (places h))
  resources_kept apart law ys order = slots_in_order (resource_as_kept g tree.nodes) (λ k. refl) tree.resources (keep_resource base h) (length h) order
      resource_kept (just_all tree.resources (is_untaken h) apart (record { each = stored_untaken; every = untaken_stored law })) (untaken_within h)

pub leases_kept : {T : Type 0} (h : List Event) (resources : Slots (Stowed T)) (leases : Slots ResKey) → AreLeased h resources leases → AreApart leases →
    (ys : List BaseLease) → IsByNumber (λ k. k.number) (kept_by lease_as_kept leases) ys → ys ≡ map (keep_lease h) (filter (is_out h) (places h))
leases_kept h resources leases leased apart ys order = slots_in_order lease_as_kept (λ k. refl) leases (keep_lease h) (length h) order one
    (just_out h resources leases leased apart) (is_out_within h)
  where
    one : (k : Kept ResKey) → Contains (kept_in leases) k → lease_as_kept (entry_of k.key.number k.value) ≡ keep_lease h k.key.number
    one k c = (λ i. record {
      number = k.key.number;
      resource = sym (ap (λ o. lease_resource (option_map_or (λ e. e) o (Close k.key.number))) (leased.each k.key k.value (kept_found leases k c)).made) i;
    })

-- hubs ------------------------------------------------------------------------------------------------

contains_get : {X : Type 0} (xs : List X) (x : X) → Contains xs x → (i : ℕ) × (slice_get xs i ≡ Some x)
contains_get [] x c = absurd (Contains-none x c)
contains_get (y ∷ xs) x c = by_place (contains_get xs x) (Contains-cases y xs x c) where
  by_place : (Contains xs x → (i : ℕ) × (slice_get xs i ≡ Some x)) → (y ≡ x) ⊎ Contains xs x → (i : ℕ) × (slice_get (y ∷ xs) i ≡ Some x)
  by_place rest (inl same) = (0, ap Some same)
  by_place rest (inr later) = let r = rest later in (suc r.0, r.1)

get_contains : {X : Type 0} (xs : List X) (i : ℕ) (x : X) → slice_get xs i ≡ Some x → Contains xs x
get_contains [] zero x at_i = absurd (none-some x at_i)
get_contains [] (suc i) x at_i = absurd (none-some x at_i)
get_contains (y ∷ xs) zero x at_i = subst (Contains (y ∷ xs)) (same_Some y x at_i) (Contains-head y xs)
get_contains (y ∷ xs) (suc i) x at_i = Contains-later y xs x (get_contains xs i x at_i)

hubs_rise : (hs : List Hub) → ((i j : ℕ) (a b : Hub) → slice_get hs i ≡ Some a → slice_get hs j ≡ Some b → i < j → a.number < b.number) →
    Rising (map (λ (hub : Hub). hub.number) hs)
hubs_rise [] rising = tt
hubs_rise (hub ∷ hs) rising = (above, hubs_rise hs (λ i j a b at_i at_j l. rising (suc i) (suc j) a b at_i at_j (omega arith))) where
  above : (k : ℕ) → Contains (map (λ (other : Hub). other.number) hs) k → hub.number < k
  above k c =
      let from = Contains-from_map (λ (other : Hub). other.number) hs k c in
      let place = contains_get hs from.0 from.1 in
      subst (λ n. hub.number < n) from.2 (rising 0 (suc place.0) hub from.0 refl place.1 (omega arith))

pub hubs_kept : (h : List Event) (all : Hubs) → AreHubsPromised all → AreHubsOf h all.hubs → map hub_as_kept all.hubs ≡ map (keep_hub h) (hubs h)
hubs_kept h all promised are = by_numbers all.hubs one ∙ ap (map (keep_hub h))
    (rising_just (at makes_hub h) (length h) (map number all.hubs) (hubs_rise all.hubs promised.rising) each every (at_within makes_hub h))
  where
    number : Hub → ℕ
    number hub = hub.number

    one : (hub : Hub) → Contains all.hubs hub → hub_as_kept hub ≡ keep_hub h hub.number
    one hub c =
        let place = contains_get all.hubs hub c in
        (λ i. record {
          number = hub.number;
          mode = sym (ap (λ o. mode_of (option_map_or (λ e. e) o (Close hub.number))) (are.each place.0 hub place.1).made) i;
        })

    by_numbers : (hs : List Hub) → ((hub : Hub) → Contains hs hub → hub_as_kept hub ≡ keep_hub h hub.number) →
        map hub_as_kept hs ≡ map (keep_hub h) (map number hs)
    by_numbers [] same = refl
    by_numbers (hub ∷ hs) same = λ i. same hub (Contains-head hub hs) i ∷ by_numbers hs (λ other c. same other (Contains-later hub hs other c)) i

    each : (k : ℕ) → Contains (map number all.hubs) k → at makes_hub h k ≡ true
    each k c =
        let from = Contains-from_map number all.hubs k c in
        let place = contains_get all.hubs from.0 from.1 in
        ap (at makes_hub h) (sym from.2) ∙ ap (λ o. option_map_or makes_hub o false) (are.each place.0 from.0 place.1).made

    every : (k : ℕ) → at makes_hub h k ≡ true → Contains (map number all.hubs) k
    every k makes =
        let has = are.every k makes in
        subst (Contains (map number all.hubs)) has.numbered (Contains-map number all.hubs has.hub (get_contains all.hubs has.index has.hub has.there))
