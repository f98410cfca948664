-- The order of the leases as they come and go.
use Rattle.rx_ground.proofs.Common.{◌≡◌, ◌≢◌, ℕ, ◌<◌, ◌≤◌, ◌==◌, ◌++◌, Bool, true, false, List, [], ◌∷◌, length, get_or, Option, Some, None, is_some, ap}
use Rattle.rx_ground.proofs.Common.{IsSome, refl, sym, subst, ◌∙◌, inl, inr, ◌⊎◌, arith, not, option_map_or, cases_Bool, false≢true, both_ways, eqb-true, Key}
use Rattle.rx_ground.proofs.Common.{eq-eqb, and_parts, Entry, Slots, entry_at, entry_of, find, Changes, ResKey, AreApart, IsPast, same_key, Lists, list_at}
use Rattle.rx_ground.proofs.Common.{is_in, take_out, number_in, AreRising, IsInOrder}
use Rattle.std.proofs.Common.{◌||◌, rules}
use Rattle.rx_slots.proofs.Laws.EntryByNumber.{found_entry, with_number-same}
use Rattle.rx_ground.proofs.RisingSlots.{is_in-append, is_in-out, rising_append, rising_out, rising_same, rising_apart}

-- the slot of a lease stands on the list, and its number is the lease's
module _ (out : Slots ResKey) (order : Lists) (is : IsInOrder out order) where
  there_in : (key : Key) → IsSome (find out key) → (is_in key.slot (list_at order 0) ≡ true) × (number_in out key.slot ≡ key.number)
  there_in key some = search (rules, found_entry, is_some, option_map_or)

  pub order_apart : AreApart out
  order_apart a b some_a some_b same = search (rules, there_in, same_key, rising_apart)

  -- what stands on the list is there
  on_list : (slot : ℕ) → is_in slot (list_at order 0) ≡ true → (e : Entry ResKey) × (entry_at out slot ≡ Some e)
  on_list slot on = search (rules, is_some, false≢true)

  -- where no entry changed
  pub order_same : (new : Slots ResKey) (order' : Lists) → new.entries ≡ out.entries → list_at order' 0 ≡ list_at order 0 → length order'.lists ≤ 1 →
      (0 < order'.members → 0 < length order'.lists) → IsInOrder new order'
  order_same new order' same list few there = search (rules, is_some, rising_same, option_map_or, get_or)

  -- a lease comes last
  pub order_joined : {new : Slots ResKey} {order' : Lists} {m : ℕ} (number : ℕ) (res : ResKey) → IsPast out number → entry_at out m ≡ None →
      Changes out new m (Some (entry_of number res)) → list_at order' 0 ≡ list_at order 0 ++ m ∷ [] → length order'.lists ≡ length order.lists →
      order'.members ≡ order.members → IsInOrder new order'
  order_joined {new} {m} number res past free changes list lists members = record {
    single = let few = is.single in omega arith;
    there = λ some. let t = is.there (let s = members in omega arith) in omega arith;
    each = λ slot. ap (is_in slot) list ∙ is_in-append slot m xs ∙ each slot (cases_Bool (slot == m));
    rising = subst (AreRising (number_in new)) (sym list)
        (rising_append (number_in new) m xs (rising_same (number_in out) (number_in new) xs (λ y on. number_same y on) is.rising) below);
  }
    where
      xs : List ℕ
      xs = list_at order 0

      or_true : (b : Bool) → (b || true) ≡ true
      or_true true = refl
      or_true false = refl

      or_false : (b : Bool) → (b || false) ≡ b
      or_false true = refl
      or_false false = refl

      each : (slot : ℕ) → ((slot == m) ≡ true) ⊎ ((slot == m) ≡ false) → (is_in slot xs || (slot == m)) ≡ is_some (entry_at new slot)
      each slot (inl here) =
          ap (λ b. is_in slot xs || b) here ∙ or_true (is_in slot xs) ∙ sym (ap is_some (ap (entry_at new) (eqb-true slot m here) ∙ changes.changed))
      each slot (inr other) = ap (λ b. is_in slot xs || b) other ∙ or_false (is_in slot xs) ∙ is.each slot ∙
          sym (ap is_some (changes.others slot (λ same. both_ways (slot == m) other (eq-eqb slot m same))))

      -- one that was there is no new one
      apart : (y : ℕ) → is_in y xs ≡ true → y ≢ m
      apart y on same = false≢true (sym (ap is_some (ap (entry_at out) same ∙ free)) ∙ sym (is.each y) ∙ on)

      number_same : (y : ℕ) → is_in y xs ≡ true → number_in new y ≡ number_in out y
      number_same y on = ap (λ (o : Option (Entry ResKey)). option_map_or (λ x. x.number) o 0) (changes.others y (apart y on))

      below : (y : ℕ) → is_in y xs ≡ true → number_in new y < number_in new m
      below y on =
          let e = on_list y on in
          let key : Key = record { slot = y; number = e.0.number } in
          let found = ap (λ (o : Option (Entry ResKey)). option_map_or (λ x. x.number) o 0) e.1 in
          let less = past key (finds key e.0 e.1 refl) in
          let now = ap (λ (o : Option (Entry ResKey)). option_map_or (λ x. x.number) o 0) changes.changed in
          let same = number_same y on in omega arith where
            finds : (key : Key) (e : Entry ResKey) → entry_at out key.slot ≡ Some e → e.number ≡ key.number → IsSome (find out key)
            finds key e at same = ap is_some (ap (Rattle.rx_slots.specs.Slots.with_number key.number) at ∙ with_number-same key.number e same)

  -- and one leaves from anywhere
  pub order_left : (new : Slots ResKey) (order' : Lists) (m : ℕ) → Changes out new m None → list_at order' 0 ≡ take_out m (list_at order 0) →
      length order'.lists ≡ length order.lists → order'.members ≡ order.members → IsInOrder new order'
  order_left new order' m changes list lists members = search (rules, is_in-out, cases_Bool, rising_same, rising_out, not, is_some, eqb-true, both_ways, eq-eqb, false≢true, and_parts, option_map_or)
