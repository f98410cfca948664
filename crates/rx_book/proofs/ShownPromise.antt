-- What callers see of a ground that stands keeps what a book promises.
use Rattle.rx_book.proofs.Common.{◌≡◌, ℕ, ◌+◌, Bool, true, List, [], ◌∷◌, length, map, nat_lt, refl, sym, ap, ◌∙◌, arith, All, Contains, lt-ltb, Event}
use Rattle.rx_book.proofs.Common.{option_and_then, length-map, All-map, Ghosts, is_auto_hub, at, is_open, open_subscribers, IsSettled, IsLawful, is_out, Node}
use Rattle.rx_book.proofs.Common.{is_held, is_waiting, accepted_count, taken_count, accepted_count-parts, notes_grammatical, one_where_subscribed, Slots, Key}
use Rattle.rx_book.proofs.Common.{Stowed, AreApart, has_connection, Ground, held_in, waiting_in, label_in, IsStored, IsStanding, just_waiting, length-waiting}
use Rattle.rx_book.proofs.Common.{ResKey, LeaseKey, IsPromised, IsLabelOf, AreJust, accepted_tag, has_subscriber, state_of, All-members}
use Rattle.rx_event.specs.Kept.{Kept as Base}
use Rattle.rx_event.proofs.Laws.Hubs.{one_open_connection, unsubscribed_unconnected}
use Rattle.rx_tree.specs.Tree.{IsPromised as IsTreePromised}
use Rattle.rx_register.specs.State.{IsPromised as IsRegisterPromised}
use Rattle.rx_ground.specs.Shown.{Label, Kept, kept_in}
use Rattle.rx_ground.proofs.Laws.Numbers.{ListsJust}
use Rattle.rx_ground.proofs.Laws.JustOpenHeldWaiting.{numbers, stored_held, stored_waiting, just_nodes, just_held, just_out, length-held}
use Rattle.std.proofs.Common.{rules}

-- numbers -----------------------------------------------------------------------------------------

-- a list that is mapped twice
map-map : {X Y : Type 0} (f : X → Y) (of : Y → ℕ) (k : X → ℕ) → ((x : X) → of (f x) ≡ k x) → (xs : List X) → map of (map f xs) ≡ map k xs
map-map f of k same [] = refl
map-map f of k same (x ∷ xs) = λ i. same x i ∷ map-map f of k same xs i

module _ {X : Type 0} where
  -- the numbers of what is shown are those of what is kept
  shown_just : {Y : Type 0} (test : ℕ → Bool) (f : Kept X → Y) (of : Y → ℕ) → ((k : Kept X) → of (f k) ≡ k.key.number) →
      (ks : List (Kept X)) → ListsJust test (numbers ks) → AreJust test (map of (map f ks))
  shown_just test f of same ks just = search (rules, map-map)

-- hubs --------------------------------------------------------------------------------------------

-- RefCount: connected exactly while it has a subscriber
shared : (base : Base) → (h : List Event) → IsLawful base h → IsSettled base h → (g : ℕ) → at is_auto_hub h g ≡ true → has_connection h g ≡ has_subscriber h g
shared base h law settled g auto = by_list (open_subscribers h g) refl where
  by_list : (ss : List ℕ) → open_subscribers h g ≡ ss → has_connection h g ≡ nat_lt 0 (length ss)
  by_list [] none = ap (λ (cs : List ℕ). nat_lt 0 (length cs)) (unsubscribed_unconnected base h g settled auto none)
  by_list (s ∷ ss) some =
      let one = one_where_subscribed base h g law settled auto (λ none. let clash : s ∷ ss ≡ [] = sym some ∙ none in absurd (cc)) in
      ap (nat_lt 0) one ∙ sym (lt-ltb 0 (length (s ∷ ss)) (omega arith))

-- states ------------------------------------------------------------------------------------------

module _ {T : Type 0} (g : Ghosts T) where
  -- what is stored as its history says has the label that it should
  labels : (base : Base) → (h : List Event) (nodes : Slots Node) (ks : List (Kept (Stowed T))) →
      ((k : Kept (Stowed T)) → Contains ks k → IsStored base g h nodes k.key.number k.value) → All (IsLabelOf base h) (map (label_in g) ks)
  labels base h nodes ks stored = All-map (IsLabelOf base h) (label_in g) ks (All-members (λ (k : Kept (Stowed T)). IsLabelOf base h (label_in g k)) ks label)
    where
      label : (k : Kept (Stowed T)) → Contains ks k → IsLabelOf base h (label_in g k)
      label k c = let is = stored k c in record { live = is.live; tag = ap (option_and_then accepted_tag) is.accepted; uses = is.uses }

  module _ (b : Ground T) (register : IsRegisterPromised b.register) (tree : IsTreePromised b.tree) (apart : AreApart b.leases)
      (standing : IsStanding g b) where
    abbrev h : List Event
    h = b.register.history

    abbrev held_key : Kept (Stowed T) → ResKey
    held_key k = record { slot = k.key.slot; number = k.key.number }

    open_numbers : ListsJust (is_open h) (numbers (kept_in b.tree.nodes))
    open_numbers = just_nodes b.register.base g h b.tree standing.tied.of_tree tree.sound.apart

    held_numbers : ListsJust (is_held h) (numbers (held_in b.tree))
    held_numbers = just_held b.register.base g h b.tree standing.tied.of_tree register.lawful tree.resources_apart

    abbrev lease_shown : Kept ResKey → LeaseKey
    lease_shown k = record { slot = k.key.slot; number = k.key.number }

    out_numbers : ListsJust (is_out h) (numbers (kept_in b.leases))
    out_numbers = just_out h b.tree.resources b.leases standing.leased apart

    waiting_numbers : ListsJust (is_waiting h) (numbers (waiting_in b.tree))
    waiting_numbers = just_waiting b.register.base g h b.tree standing.tied.of_tree tree.resources_apart

    counted : accepted_count b.register.base h ≡
        length (map (label_in g) (held_in b.tree)) + length (map (label_in g) (waiting_in b.tree)) + taken_count b.register.base h
    counted =
        let as_held = length-map (held_in b.tree) (label_in g) in
        let as_waiting = length-map (waiting_in b.tree) (label_in g) in
        let holds = length-held b.register.base g h b.tree standing.tied.of_tree register.lawful tree.resources_apart in
        let waits = length-waiting b.register.base g h b.tree standing.tied.of_tree tree.resources_apart in
        omega (arith, accepted_count-parts b.register.base h register.lawful)

    pub state_promised : IsPromised (state_of g b)
    state_promised = record {
      lawful = register.lawful;
      settled = standing.settled;
      shared = shared b.register.base h register.lawful standing.settled;
      one_connection = one_open_connection b.register.base h register.lawful;
      keys = shown_just (is_open h) (λ (k : Kept Node). k.key) (λ (k : Key). k.number) (λ k. refl) (kept_in b.tree.nodes) open_numbers;
      res_keys = shown_just (is_held h) held_key (λ (k : ResKey). k.number) (λ k. refl) (held_in b.tree) held_numbers;
      lease_keys = shown_just (is_out h) lease_shown (λ (k : LeaseKey). k.number) (λ k. refl) (kept_in b.leases) out_numbers;
      held = shown_just (is_held h) (label_in g) (λ (l : Label). l.number) (λ k. refl) (held_in b.tree) held_numbers;
      waiting = shown_just (is_waiting h) (label_in g) (λ (l : Label). l.number) (λ k. refl) (waiting_in b.tree) waiting_numbers;
      held_labels = labels b.register.base h b.tree.nodes (held_in b.tree) (stored_held b.register.base g h b.tree standing.tied.of_tree);
      waiting_labels = labels b.register.base h b.tree.nodes (waiting_in b.tree) (stored_waiting b.register.base g h b.tree standing.tied.of_tree);
      few_items = register.few_items;
      few_accepted = register.few_accepted;
      few_taken = register.few_taken;
      in_one_place = counted;
      begun = register.begun;
      placed = register.placed;
      room = let room = register.room in let paid = standing.paid.events in omega arith;
      limited = register.limited;
      given = register.given;
      in_order = notes_grammatical b.register.base h register.lawful;
    }
