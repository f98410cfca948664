-- The lists of what stands in slots.
use Rattle.rx_ground.proofs.Common.{◌≡◌, ℕ, zero, suc, ◌+◌, Bool, true, false, cond, List, [], ◌∷◌, get_or, Option, Some, None, refl, sym, ap, subst, ◌∙◌}
use Rattle.rx_ground.proofs.Common.{inl, inr, ◌⊎◌, arith, Contains, filter, none-some, same_Some, Entry, Key, Slots, entry_of, find, entry_found, found_entry}
use Rattle.rx_ground.specs.Shown.{Kept, kept_from, kept_in}
use Rattle.rx_ground.proofs.Laws.Members.{Contains-head, Contains-later, Contains-none, Contains-cases}
use Rattle.std.proofs.Common.{rules}

module _ {X : Type 0} where
  -- lists that are filtered or mapped ---------------------------------------------------------------

  pub filter_member : (p : X → Bool) (xs : List X) (y : X) → Contains (filter p xs) y → Contains xs y × (p y ≡ true)
  filter_member p [] y c = absurd (Contains-none y c)
  filter_member p (x ∷ xs) y c = by_test (filter_member p xs y) (p x) refl c where
    by_test : (Contains (filter p xs) y → Contains xs y × (p y ≡ true)) → (b : Bool) → p x ≡ b → Contains (cond b (x ∷ filter p xs) (filter p xs)) y →
        Contains (x ∷ xs) y × (p y ≡ true)
    by_test rest false e c = let r = rest c in (Contains-later x xs y r.0, r.1)
    by_test rest true e c = by_place (Contains-cases x (filter p xs) y c) where
      by_place : (x ≡ y) ⊎ Contains (filter p xs) y → Contains (x ∷ xs) y × (p y ≡ true)
      by_place (inl same) = (subst (λ (z : X). Contains (x ∷ xs) z) same (Contains-head x xs), ap p (sym same) ∙ e)
      by_place (inr later) = let r = rest later in (Contains-later x xs y r.0, r.1)

  pub filter_has : (p : X → Bool) (xs : List X) (y : X) → Contains xs y → p y ≡ true → Contains (filter p xs) y
  filter_has p [] y c passes = absurd (Contains-none y c)
  filter_has p (x ∷ xs) y c passes = by_place (λ later. filter_has p xs y later passes) (Contains-cases x xs y c) where
    by_test : (Contains xs y → Contains (filter p xs) y) → Contains xs y → (b : Bool) → Contains (cond b (x ∷ filter p xs) (filter p xs)) y
    by_test rest later true = Contains-later x (filter p xs) y (rest later)
    by_test rest later false = rest later

    by_place : (Contains xs y → Contains (filter p xs) y) → (x ≡ y) ⊎ Contains xs y → Contains (cond (p x) (x ∷ filter p xs) (filter p xs)) y
    by_place rest (inl same) = rw (ap p same ∙ passes) (subst (λ (z : X). Contains (x ∷ filter p xs) z) same (Contains-head x (filter p xs)))
    by_place rest (inr later) = by_test rest later (p x)

  -- the list of some slots --------------------------------------------------------------------------

  pub stands_from : (first : ℕ) (es : List (Option (Entry X))) (k : Kept X) → Contains (kept_from first es) k →
      (i : ℕ) × (k.key.slot ≡ first + i) × (get_or es i None ≡ Some (entry_of k.key.number k.value))
  stands_from first [] k c = absurd (Contains-none k c)
  stands_from first (None ∷ es) k c = let r = stands_from (suc first) es k c in (suc r.0, (let e = r.1 in omega arith), r.2)
  stands_from first (Some e ∷ es) k c = by_place (stands_from (suc first) es k)
      (Contains-cases (record { key = record { slot = first; number = e.number }; value = e.value }) (kept_from (suc first) es) k c)
    where
      by_place : (Contains (kept_from (suc first) es) k → (i : ℕ) × (k.key.slot ≡ suc first + i) ×
          (get_or es i None ≡ Some (entry_of k.key.number k.value))) →
          ((let here : Kept X = record { key = record { slot = first; number = e.number }; value = e.value } in here) ≡ k) ⊎
          Contains (kept_from (suc first) es) k → (i : ℕ) × (k.key.slot ≡ first + i) × (get_or (Some e ∷ es) i None ≡ Some (entry_of k.key.number k.value))
      by_place rest (inl same) =
          (0, (let s = ap (λ (j : Kept X). j.key.slot) same in omega arith), ap (λ (j : Kept X). Some (entry_of j.key.number j.value)) same)
      by_place rest (inr later) = let r = rest later in (suc r.0, (let s = r.1 in omega arith), r.2)

  listed_from : (first : ℕ) (es : List (Option (Entry X))) (i : ℕ) (e : Entry X) → get_or es i None ≡ Some e →
      Contains (kept_from first es) (record { key = record { slot = first + i; number = e.number }; value = e.value })
  listed_from first [] i e at = absurd (none-some e at)
  listed_from first (None ∷ es) zero e at = absurd (none-some e at)
  listed_from first (None ∷ es) (suc i) e at = search (rules, listed_from (suc first) es i e at)
  listed_from first (Some d ∷ es) zero e at = search (rules, same_Some)
  listed_from first (Some d ∷ es) (suc i) e at = Contains-later _ (kept_from (suc first) es) _
      (subst (λ (s : ℕ). Contains (kept_from (suc first) es) (record { key = record { slot = s; number = e.number }; value = e.value })) (omega arith)
      (listed_from (suc first) es i e at))

  module _ (slots : Slots X) where
    -- what is listed is found, and what is found is listed
    pub kept_found : (k : Kept X) → Contains (kept_in slots) k → find slots k.key ≡ Some k.value
    kept_found k c =
        let r = stands_from 0 slots.entries k c in
        let slot : r.0 ≡ k.key.slot = let s = r.1 in omega arith in
        found_entry slots k.key k.value (subst (λ (i : ℕ). get_or slots.entries i None ≡ Some (entry_of k.key.number k.value)) slot r.2)

    pub kept_listed : (key : Key) (x : X) → find slots key ≡ Some x → Contains (kept_in slots) (record { key = key; value = x })
    kept_listed key x found = subst (λ (s : ℕ). Contains (kept_in slots) (record { key = record { slot = s; number = key.number }; value = x }))
        (none_before key.slot) (listed_from 0 slots.entries key.slot (entry_of key.number x) (entry_found slots key x found))
      where
        none_before : (n : ℕ) → 0 + n ≡ n
        none_before n = omega arith
