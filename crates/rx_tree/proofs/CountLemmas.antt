-- How many resources of those that pass a test no node owns, and how many each node owns, as records come, change and go.
use Rattle.rx_tree.proofs.Common.{◌≡◌, ◌≢◌, ℕ, suc, ◌+◌, ◌<◌, ◌==◌, ◌&&◌, cond, Bool, true, false, List, [], ◌∷◌, length, get_or, set, Option, Some, None, ap}
use Rattle.rx_tree.proofs.Common.{is_some, count_by, refl, sym, subst, ◌∙◌, inl, inr, arith, ◌⊎◌, sum_by, not, cases_eq, nat_tests, get_or-set_same, Entry}
use Rattle.rx_tree.proofs.Common.{get_or-set_other, sum_by-cons, sum_by-set, Key, Slots, entry_at, find, with_number, Changes, Node, Stowed, is_owned}
use Rattle.rx_tree.proofs.Common.{unowned_in, owned_at, AreCounted, found_entry, slot_within}
use Rattle.std.proofs.Common.{rules}

-- one for what passes a test, none for what does not
abbrev pub bit : Bool → ℕ
bit b = cond b 1 0

module _ {X : Type 0} where
  pub sum_none : (f : Option X → ℕ) (xs : List (Option X)) → ((j : ℕ) → f (get_or xs j None) ≡ 0) → sum_by f xs ≡ 0
  sum_none f [] none = refl
  sum_none f (x ∷ xs) none = let first : f x ≡ 0 = none 0 in let rest = sum_none f xs (λ j. none (suc j)) in sum_by-cons f x xs ∙ omega (arith, first, rest)

  -- sums over the same values, of which one list may have more that count for nothing
  sum_same : (f g : Option X → ℕ) (xs ys : List (Option X)) → f None ≡ 0 → g None ≡ 0 →
      ((j : ℕ) → f (get_or xs j None) ≡ g (get_or ys j None)) → sum_by f xs ≡ sum_by g ys
  sum_same f g [] ys f0 g0 same = sym (sum_none g ys (λ j. sym (same j) ∙ f0))
  sum_same f g (x ∷ xs) [] f0 g0 same = sum_none f (x ∷ xs) (λ j. same j ∙ g0)
  sum_same f g (x ∷ xs) (y ∷ ys) f0 g0 same =
      let first : f x ≡ g y = same 0 in
      let rest = sum_same f g xs ys f0 g0 (λ j. same (suc j)) in
      sum_by-cons f x xs ∙ omega (arith, first, rest) ∙ sym (sum_by-cons g y ys)

  sum_both : (f g h : Option X → ℕ) (xs : List (Option X)) →
      ((j : ℕ) → f (get_or xs j None) ≡ g (get_or xs j None) + h (get_or xs j None)) → sum_by f xs ≡ sum_by g xs + sum_by h xs
  sum_both f g h [] both = refl
  sum_both f g h (x ∷ xs) both = let first : f x ≡ g x + h x = both 0 in let rest = sum_both f g h xs (λ j. both (suc j)) in search (rules, sum_by-cons)

  -- one entry changed
  pub sum_changed : (f : Option X → ℕ) (xs ys : List (Option X)) (slot : ℕ) → f None ≡ 0 → slot < length xs →
      ((j : ℕ) → j ≢ slot → get_or ys j None ≡ get_or xs j None) → sum_by f ys + f (get_or xs slot None) ≡ sum_by f xs + f (get_or ys slot None)
  sum_changed f xs ys slot f0 within others =
      let now = get_or ys slot None in
      let same : sum_by f ys ≡ sum_by f (set xs slot now) = sum_same f f ys (set xs slot now) f0 f0 (λ j. elim (cases_eq j slot) [
        | inl here ↦ subst (λ k. f (get_or ys k None) ≡ f (get_or (set xs slot now) k None)) (sym here) (ap f (sym (get_or-set_same xs slot now None within)))
        | inr apart ↦ ap f (others j apart ∙ sym (get_or-set_other xs slot j now None apart))
      ]) in
      ap (λ n. n + f (get_or xs slot None)) same ∙ sum_by-set f xs slot now None within

-- how a node that is taken out changes what is owned and what is not
waits_shape : (g s c here : Bool) → bit (g && not ((s && not here) && c)) ≡ bit (g && not (s && c)) + bit (g && ((s && c) && here))
waits_shape x0 s c here = search rules

none_shape : (g s c : Bool) → bit (g && (((s && false) && c) && true)) ≡ 0
none_shape x0 s c = search rules

false_last : (g b : Bool) → bit (g && (b && false)) ≡ 0
false_last x0 x1 = search rules

and_true : (a : Bool) → a ≡ (a && true)
and_true x0 = search rules

and_false : (a : Bool) → (a && false) ≡ false
and_false x0 = search rules

pub same_apart : (a b : ℕ) → a ≢ b → (a == b) ≡ false
same_apart a b apart = grind (arith, nat_tests, apart)

pub same_here : (a b : ℕ) → a ≡ b → (a == b) ≡ true
same_here a b same = grind (arith, nat_tests, same)

module _ {T : Type 0} where
  pub count_changed : (p : Option (Entry (Stowed T)) → Bool) (old new : Slots (Stowed T)) {slot : ℕ}
      (before : Option (Entry (Stowed T))) {after : Option (Entry (Stowed T))} →
      p None ≡ false → slot < length old.entries → entry_at old slot ≡ before → Changes old new slot after →
      count_by p new.entries + bit (p before) ≡ count_by p old.entries + bit (p after)
  count_changed p old new {slot} before none within at change = search (rules, sum_changed)

  -- counts of those that pass a test
  module _ (test : Stowed T → Bool) where
    -- one entry changed
    pub counted_changed : {nodes : Slots Node} {old new : Slots (Stowed T)} {slot : ℕ} {before after : Option (Entry (Stowed T))} {u : ℕ} (v : ℕ) {f : ℕ → ℕ}
        (g : ℕ → ℕ) → AreCounted test nodes old u f → slot < length old.entries → entry_at old slot ≡ before → Changes old new slot after →
        v + bit (unowned_in test nodes before) ≡ u + bit (unowned_in test nodes after) →
        ((j : ℕ) → g j + bit (owned_at test nodes j before) ≡ f j + bit (owned_at test nodes j after)) → AreCounted test nodes new v g
    counted_changed {nodes} {old} {new} {before} {after} v g c within at change none each = record {
      by_none =
          let was = c.by_none in
          let e : count_by (unowned_in test nodes) new.entries + bit (unowned_in test nodes before) ≡ count_by (unowned_in test nodes) old.entries + bit
          (unowned_in test nodes after) = count_changed (unowned_in test nodes) old new before refl within at change in
          omega (arith, was, e, none);
      by_each = λ j.
          let was = c.by_each j in
          let e : count_by (owned_at test nodes j) new.entries + bit (owned_at test nodes j before) ≡ count_by (owned_at test nodes j) old.entries + bit
          (owned_at test nodes j after) = count_changed (owned_at test nodes j) old new before refl within at change in
          let here = each j in
          omega (arith, was, e, here);
    }

    -- one came to a slot that was free
    pub counted_placed : {nodes : Slots Node} {old new : Slots (Stowed T)} {slot : ℕ} (after : Entry (Stowed T)) {u : ℕ} (v : ℕ) {f : ℕ → ℕ} (g : ℕ → ℕ) →
        AreCounted test nodes old u f → entry_at old slot ≡ None → Changes old new slot (Some after) →
        v ≡ u + bit (unowned_in test nodes (Some after)) → ((j : ℕ) → g j ≡ f j + bit (owned_at test nodes j (Some after))) → AreCounted test nodes new v g
    counted_placed {nodes} {old} {new} {slot} after v g c free change none each = record {
      by_none =
          let was = c.by_none in
          let e : count_by (unowned_in test nodes) old.entries + bit (unowned_in test nodes (Some after)) ≡ count_by (unowned_in test nodes) new.entries + 0 =
          count_changed (unowned_in test nodes) new old (Some after) refl within change.changed back in
          omega (arith, was, e, none);
      by_each = λ j.
          let was = c.by_each j in
          let e : count_by (owned_at test nodes j) old.entries + bit (owned_at test nodes j (Some after)) ≡ count_by (owned_at test nodes j) new.entries + 0 =
          count_changed (owned_at test nodes j) new old (Some after) refl within change.changed back in
          let here = each j in
          omega (arith, was, e, here);
    } where
      within : slot < length new.entries
      within = slot_within new slot after change.changed

      back : Changes new old slot None
      back = record { changed = free; others = λ j other. sym (change.others j other) }

    -- a node is taken out: what it owned no node owns
    module _ (nodes rest : Slots Node) (resources : Slots (Stowed T)) (slot : ℕ) (change : Changes nodes rest slot None) where
      still_found : (key : Key) → is_some (find rest key) ≡ (is_some (find nodes key) && not (key.slot == slot))
      still_found key = elim (cases_eq key.slot slot) [
        | inl here ↦
            let off : is_some (find rest key) ≡ false = ap (λ o. is_some (with_number key.number o)) (ap (entry_at rest) here ∙ change.changed) in
            off ∙ sym (and_false (is_some (find nodes key))) ∙ ap (λ b. is_some (find nodes key) && not b) (sym (same_here key.slot slot here))
        | inr apart ↦
            let on : is_some (find rest key) ≡ is_some (find nodes key) = ap (λ o. is_some (with_number key.number o)) (change.others key.slot apart) in
            on ∙ and_true (is_some (find nodes key)) ∙ ap (λ b. is_some (find nodes key) && not b) (sym (same_apart key.slot slot apart))
      ]

      out_none : count_by (unowned_in test rest) resources.entries ≡
          count_by (unowned_in test nodes) resources.entries + count_by (owned_at test nodes slot) resources.entries
      out_none = sum_both (λ e. bit (unowned_in test rest e)) (λ e. bit (unowned_in test nodes e)) (λ e. bit (owned_at test nodes slot e)) resources.entries
          (λ j. of (entry_at resources j)) where
            of : (o : Option (Entry (Stowed T))) → bit (unowned_in test rest o) ≡ bit (unowned_in test nodes o) + bit (owned_at test nodes slot o)
            of None = refl
            of (Some e) = ap (λ b. bit (test e.value && not (b && not e.value.removed))) (still_found e.value.node) ∙
                waits_shape (test e.value) (is_some (find nodes e.value.node)) (not e.value.removed) (e.value.node.slot == slot)

      out_here : count_by (owned_at test rest slot) resources.entries ≡ 0
      out_here = sum_none (λ e. bit (owned_at test rest slot e)) resources.entries (λ j. of (entry_at resources j)) where
        of : (o : Option (Entry (Stowed T))) → bit (owned_at test rest slot o) ≡ 0
        of None = refl
        of (Some e) = elim (cases_eq e.value.node.slot slot) [
          | inl here ↦
              let at = same_here e.value.node.slot slot here in
              let off : is_some (find rest e.value.node) ≡ (is_some (find nodes e.value.node) && false) =
              still_found e.value.node ∙ ap (λ b. is_some (find nodes e.value.node) && not b) at in
              (λ i. bit (test e.value && ((off i && not e.value.removed) && at i))) ∙ none_shape (test e.value) (is_some (find nodes e.value.node))
              (not e.value.removed)
          | inr apart ↦ ap (λ b. bit (test e.value && (is_owned rest e.value && b))) (same_apart e.value.node.slot slot apart) ∙ false_last (test e.value)
              (is_owned rest e.value)
        ]

      out_elsewhere : (home : ℕ) → home ≢ slot → count_by (owned_at test rest home) resources.entries ≡ count_by (owned_at test nodes home) resources.entries
      out_elsewhere home other = sum_same (λ e. bit (owned_at test rest home e)) (λ e. bit (owned_at test nodes home e)) resources.entries resources.entries
          refl refl (λ j. of (entry_at resources j)) where
            of : (o : Option (Entry (Stowed T))) → bit (owned_at test rest home o) ≡ bit (owned_at test nodes home o)
            of None = refl
            of (Some e) = elim (cases_eq e.value.node.slot home) [
              | inl at ↦
                  let apart = same_apart e.value.node.slot slot (λ same. other (sym at ∙ same)) in
                  let on : is_some (find rest e.value.node) ≡ is_some (find nodes e.value.node) =
                  still_found e.value.node ∙ ap (λ b. is_some (find nodes e.value.node) && not b) apart ∙
                  sym (and_true (is_some (find nodes e.value.node))) in
                  ap (λ b. bit (test e.value && ((b && not e.value.removed) && (e.value.node.slot == home)))) on
              | inr apart ↦
                  let off = same_apart e.value.node.slot home apart in
                  ap (λ b. bit (test e.value && (is_owned rest e.value && b))) off ∙ false_last (test e.value) (is_owned rest e.value) ∙
                  sym (false_last (test e.value) (is_owned nodes e.value)) ∙ ap (λ b. bit (test e.value && (is_owned nodes e.value && b))) (sym off)
            ]

      pub counted_out : (u : ℕ) (f g : ℕ → ℕ) → AreCounted test nodes resources u f → g slot ≡ 0 → ((j : ℕ) → j ≢ slot → g j ≡ f j) →
          AreCounted test rest resources (u + f slot) g
      counted_out u f g c here others = record {
        by_none = let was = c.by_none in let at = c.by_each slot in let more = out_none in omega (arith, was, at, more);
        by_each = λ j. of j (cases_eq j slot);
      } where
        of : (j : ℕ) → (j ≡ slot) ⊎ (j ≢ slot) → g j ≡ count_by (owned_at test rest j) resources.entries
        of j (inl at) = subst (λ k. g k ≡ count_by (owned_at test rest k) resources.entries) (sym at) (here ∙ sym out_here)
        of j (inr apart) = others j apart ∙ c.by_each j ∙ sym (out_elsewhere j apart)

    -- other nodes, of which those stand where resources came to be held
    module _ (nodes now : Slots Node) (old new : Slots (Stowed T)) (entries : new.entries ≡ old.entries)
        (same : (key : Key) (stowed : Stowed T) → find old key ≡ Some stowed → is_some (find now stowed.node) ≡ is_some (find nodes stowed.node)) where
      stays : (j : ℕ) (e : Entry (Stowed T)) → entry_at old j ≡ Some e → is_owned now e.value ≡ is_owned nodes e.value
      stays j e read =
          let key : Key = record { slot = j; number = e.number } in
          ap (λ b. b && not e.value.removed) (same key e.value (found_entry old key e.value read))

      kept_none : count_by (unowned_in test now) new.entries ≡ count_by (unowned_in test nodes) old.entries
      kept_none = ap (count_by (unowned_in test now)) entries ∙ sum_same (λ e. bit (unowned_in test now e)) (λ e. bit (unowned_in test nodes e)) old.entries
          old.entries refl refl (λ j. of j (entry_at old j) refl) where
            of : (j : ℕ) (o : Option (Entry (Stowed T))) → entry_at old j ≡ o → bit (unowned_in test now o) ≡ bit (unowned_in test nodes o)
            of j None read = refl
            of j (Some e) read = ap (λ b. bit (test e.value && not b)) (stays j e read)

      kept_each : (home : ℕ) → count_by (owned_at test now home) new.entries ≡ count_by (owned_at test nodes home) old.entries
      kept_each home = ap (count_by (owned_at test now home)) entries ∙ sum_same (λ e. bit (owned_at test now home e)) (λ e. bit (owned_at test nodes home e))
          old.entries old.entries refl refl (λ j. of j (entry_at old j) refl) where
            of : (j : ℕ) (o : Option (Entry (Stowed T))) → entry_at old j ≡ o → bit (owned_at test now home o) ≡ bit (owned_at test nodes home o)
            of j None read = refl
            of j (Some e) read = ap (λ b. bit (test e.value && (b && (e.value.node.slot == home)))) (stays j e read)

      pub are_counted_still : (u : ℕ) (f : ℕ → ℕ) → AreCounted test nodes old u f → AreCounted test now new u f
      are_counted_still u f c = record { by_none = c.by_none ∙ sym kept_none; by_each = λ j. c.by_each j ∙ sym (kept_each j) }
