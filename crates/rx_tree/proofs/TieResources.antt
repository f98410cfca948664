-- How a tree stays tied when a resource is removed from its node or taken out.
use Rattle.rx_tree.proofs.Common.{◌≡◌, ◌≢◌, ℕ, cond, Bool, true, false, [], ◌∷◌, ◌++◌, Option, Some, None, is_some, IsSome, refl, sym, ap, ◌∙◌, inl, inr, Key}
use Rattle.rx_tree.proofs.Common.{true≢false, ◌==◌, cases_eq, false≢true, Entry, option_and_then, Slots, entry_of, entry_at, find, with_number, Place}
use Rattle.rx_tree.proofs.Common.{Changes, entry_found, Due, Stored, Node, Stowed, is_lent, without, Steps, AreRings, Joins, Leaves}
use Rattle.rx_tree.proofs.Common.{is_place, is_end, places, tells, place_apart, put_ring, by_ring, some_same, rings_joined, rings_left, Takes_out, Rises}
use Rattle.rx_tree.proofs.Common.{resource_ring, is_by_age, home_of, IsTiedAt, AreApart, cases_key}
use Rattle.rx_tree.proofs.TieRecords.{home_by}
use Rattle.rx_tree.proofs.TieSteps.{rises_without}
use Rattle.std.proofs.Common.{rules}

module _ {T : Type 0} (nodes : Slots Node) (resources resources' : Slots (Stowed T)) where
  -- as it was, but for one place that has no home
  abbrev pub without_home : (Place → Option Place) → Place → Place → Option Place
  without_home home item q = cond (is_place item q) None (home q)

  pub homeless_here : (home : Place → Option Place) (item : Place) → without_home home item item ≡ None
  homeless_here home item = ap (λ b. cond b None (home item)) (tells.self item)

  pub homeless_others : (home : Place → Option Place) (item q : Place) → item ≢ q → without_home home item q ≡ home q
  homeless_others home item q apart = ap (λ b. cond b None (home q)) (place_apart tells item q apart)

  pub stored_others : (noted : ℕ → Bool) (slot : ℕ) (entry : Option (Entry (Stowed T))) → Changes resources resources' slot entry → (q : Place) →
      Stored slot ≢ q → home_of nodes resources' noted q ≡ home_of nodes resources noted q
  stored_others noted slot entry change q apart = search (rules, home_by, resource_ring)

  -- a resource belongs at the end of a ring, which is none of those by age
  pub ring_ends : (stowed : Stowed T) (e : Place) → resource_ring nodes stowed ≡ Some e → (is_end e ≡ true) × (is_by_age e ≡ false) × (is_place e Due ≡ false)
  ring_ends stowed e at = search (rules, is_lent, true≢false, some_same)

  -- a resource leaves its ring, another stands in its place, and that joins the ring where it belongs, if it belongs on one
  module _ (n p n1 p1 : Steps Place) (tied : IsTiedAt n p nodes resources) (key : Key) (stowed after : Stowed T) (found : find resources key ≡ Some stowed)
      (change : Changes resources resources' key.slot (Some (entry_of key.number after))) (leaves : Leaves places n p n1 p1 (Stored key.slot)) where
    pub between : Place → Option Place
    between = without_home (home_of nodes resources tied.noted) (Stored key.slot)

    pub home_now : home_of nodes resources' tied.noted (Stored key.slot) ≡ resource_ring nodes after
    home_now = ap (option_and_then (λ e. resource_ring nodes e.value)) change.changed

    pub some_still : (k : Key) → is_some (find resources' k) ≡ is_some (find resources k)
    some_still k = elim (cases_eq k.slot key.slot) [
      | inl same ↦ ap (λ o. is_some (with_number k.number o)) (ap (entry_at resources') same ∙ change.changed) ∙ either (key.number == k.number) ∙
          sym (ap (λ o. is_some (with_number k.number o)) (ap (entry_at resources) same ∙ entry_found resources key stowed found))
      | inr other ↦ ap (λ o. is_some (with_number k.number o)) (change.others k.slot other)
    ] where
      either : (b : Bool) → is_some (cond b (Some after) None) ≡ is_some (cond b (Some stowed) None)
      either true = refl
      either false = refl

    pub now_apart : AreApart resources'
    now_apart = λ a b found_a found_b numbers. tied.resources_apart a b (sym (some_still a) ∙ found_a) (sym (some_still b) ∙ found_b) numbers

    abbrev pub tied_off : resource_ring nodes after ≡ None → IsTiedAt n1 p1 nodes resources'
    tied_off none = record {
      rings = λ q. without places (Stored key.slot) (tied.rings q);
      noted = tied.noted;
      ringed = rings_left tells n p n1 p1 (home_of nodes resources tied.noted) (home_of nodes resources' tied.noted) tied.rings tied.ringed
          (Stored key.slot) leaves refl (home_now ∙ none) (stored_others tied.noted key.slot (Some (entry_of key.number after)) change);
      rises = λ e age. rises_without nodes (Stored key.slot) (tied.rings e) (tied.rises e age);
      sound = tied.sound;
      resources_apart = now_apart;
    }

    module _ (n2 p2 : Steps Place) (e : Place) (ring : resource_ring nodes after ≡ Some e) (joins : Joins places n1 p1 n2 p2 e (Stored key.slot)) where
      pub rings_on : AreRings places n2 p2 (home_of nodes resources' tied.noted)
          (put_ring places e (without places (Stored key.slot) (tied.rings e) ++ Stored key.slot ∷ []) (λ q. without places (Stored key.slot) (tied.rings q)))
      unfolding between
      rings_on =
          let left : AreRings places n1 p1 between (λ q. without places (Stored key.slot) (tied.rings q)) =
          rings_left tells n p n1 p1 (home_of nodes resources tied.noted) between tied.rings tied.ringed (Stored key.slot) leaves refl
          (homeless_here (home_of nodes resources tied.noted) (Stored key.slot))
          (λ q apart. homeless_others (home_of nodes resources tied.noted) (Stored key.slot) q apart) in
          rings_joined tells n1 p1 n2 p2 between (home_of nodes resources' tied.noted)
          (λ q. without places (Stored key.slot) (tied.rings q)) left e (Stored key.slot)
          joins (ring_ends after e ring).0 refl (homeless_here (home_of nodes resources tied.noted) (Stored key.slot)) (home_now ∙ ring)
          (λ q apart. stored_others tied.noted key.slot (Some (entry_of key.number after)) change q apart ∙
          sym (homeless_others (home_of nodes resources tied.noted) (Stored key.slot) q apart))

      abbrev pub tied_on : IsTiedAt n2 p2 nodes resources'
      tied_on = record {
        rings = put_ring places e (without places (Stored key.slot) (tied.rings e) ++ Stored key.slot ∷ [])
            (λ q. without places (Stored key.slot) (tied.rings q));
        noted = tied.noted;
        ringed = rings_on;
        rises = λ q. by_ring tells (λ q ps. is_by_age q ≡ true → Rises nodes ps) e (without places (Stored key.slot) (tied.rings e) ++ Stored key.slot ∷ [])
            (λ q. without places (Stored key.slot) (tied.rings q)) (λ age. absurd (false≢true (sym (ring_ends after e ring).1 ∙ age)))
            (λ q apart age. rises_without nodes (Stored key.slot) (tied.rings q) (tied.rises q age)) q;
        sound = tied.sound;
        resources_apart = now_apart;
      }

  -- a resource is taken out
  module _ (n p n1 p1 : Steps Place) (tied : IsTiedAt n p nodes resources) (key : Key) (taken : Takes_out resources resources' key)
      (leaves : Leaves places n p n1 p1 (Stored key.slot)) where
    pub none_now : home_of nodes resources' tied.noted (Stored key.slot) ≡ None
    none_now = ap (option_and_then (λ e. resource_ring nodes e.value)) taken.changes.changed

    pub was_there : (k : Key) → IsSome (find resources' k) → IsSome (find resources k)
    was_there k there = elim (cases_key k key) [
      | inl same ↦ absurd (true≢false (sym there ∙ ap is_some (ap (find resources') same ∙ taken.gone)))
      | inr other ↦ ap is_some (sym (taken.kept k other)) ∙ there
    ]

    abbrev pub tied_taken : IsTiedAt n1 p1 nodes resources'
    tied_taken = record {
      rings = λ q. without places (Stored key.slot) (tied.rings q);
      noted = tied.noted;
      ringed = rings_left tells n p n1 p1 (home_of nodes resources tied.noted) (home_of nodes resources' tied.noted) tied.rings tied.ringed
          (Stored key.slot) leaves refl none_now (stored_others tied.noted key.slot None taken.changes);
      rises = λ e age. rises_without nodes (Stored key.slot) (tied.rings e) (tied.rises e age);
      sound = tied.sound;
      resources_apart = λ a b found_a found_b numbers. tied.resources_apart a b (was_there a found_a) (was_there b found_b) numbers;
    }
