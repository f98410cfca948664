-- What the nodes of a tree owe together, as they come, change and go.
use Rattle.rx_tree.proofs.Common.{◌≡◌, ◌≢◌, ℕ, zero, suc, ◌+◌, ◌<◌, ◌≤◌, ◌==◌, ◌||◌, cond, Bool, true, false, List, [], ◌∷◌, length, get_or, Option, Some, ap}
use Rattle.rx_tree.proofs.Common.{None, is_some, IsSome, option_map, add-zero, refl, sym, ◌∙◌, inl, inr, ◌⊎◌, arith, true≢false, sum_by, range_with_len, Key}
use Rattle.rx_tree.proofs.Common.{option_map_or, cases_eq, cases_lt, false≢true, nat_tests, sum_by-cons, Entry, Slots, entry_of, entry_at, find, Changes}
use Rattle.rx_tree.proofs.Common.{Node, owed_by, owed_in, AreApart, Rewrites, some_of, entry_found, found_entry, slot_within}
use Rattle.rx_event.proofs.Laws.Sums.{sum_by-same, sum_by-plus, sum_by_one, sum_by_none}
use Rattle.rx_tree.proofs.CountLemmas.{sum_none, sum_changed}
use Rattle.std.proofs.Common.{rules}

-- sums over slots ---------------------------------------------------------------------------------

module _ {X : Type 0} (f : Option X → ℕ) (f0 : f None ≡ 0) where
  -- each part is within the sum
  pub part_in_sum : (xs : List (Option X)) (j : ℕ) → f (get_or xs j None) ≤ sum_by f xs
  part_in_sum [] j = let none = f0 in omega (arith, none)
  part_in_sum (x ∷ xs) zero = let all = sum_by-cons f x xs in omega (arith, all)
  part_in_sum (x ∷ xs) (suc j) = let all = sum_by-cons f x xs in let rest = part_in_sum xs j in omega (arith, all, rest)

  -- no part rises
  pub sum_no_rise : (xs ys : List (Option X)) → ((j : ℕ) → f (get_or ys j None) ≤ f (get_or xs j None)) → sum_by f ys ≤ sum_by f xs
  sum_no_rise xs [] each = omega arith
  sum_no_rise [] (y ∷ ys) each =
      let none : sum_by f (y ∷ ys) ≡ 0 = sum_none f (y ∷ ys) (λ j. let e = each j in let z = f0 in omega (arith, e, z)) in omega (arith, none)
  sum_no_rise (x ∷ xs) (y ∷ ys) each = let first : f y ≤ f x = each 0 in let rest = sum_no_rise xs ys (λ j. each (suc j)) in search (rules, sum_by-cons)

-- what a node owes is within what all owe
pub owed_part : (nodes : Slots Node) (key : Key) (node : Node) → find nodes key ≡ Some node → node.marks.owed ≤ owed_in nodes
owed_part nodes key node found = search (rules, part_in_sum, entry_found)

-- and where no slot was used, none is owed
pub owed_empty : (nodes : Slots Node) → nodes.entries ≡ [] → owed_in nodes ≡ 0
owed_empty nodes none = ap (sum_by owed_by) none

-- as records come, change and go ------------------------------------------------------------------

module _ (old new : Slots Node) where
  owed_changed : (slot : ℕ) (before after : Option (Entry Node)) → slot < length old.entries → entry_at old slot ≡ before → Changes old new slot after →
      owed_in new + owed_by before ≡ owed_in old + owed_by after
  owed_changed slot before after within at change = search (rules, sum_changed)

  -- another record in the place of one
  pub owed_written : (key : Key) (node other : Node) → find old key ≡ Some node → Changes old new key.slot (Some (entry_of key.number other)) →
      owed_in new + node.marks.owed ≡ owed_in old + other.marks.owed
  owed_written key node other found change =
      let at = entry_found old key node found in
      owed_changed key.slot (Some (entry_of key.number node)) (Some (entry_of key.number other)) (slot_within old key.slot (entry_of key.number node) at) at
      change

  -- a record that is taken out
  pub owed_taken : (key : Key) (node : Node) → find old key ≡ Some node → Changes old new key.slot None → owed_in new + node.marks.owed ≡ owed_in old
  owed_taken key node found change =
      let at = entry_found old key node found in
      let all : owed_in new + node.marks.owed ≡ owed_in old + 0 =
      owed_changed key.slot (Some (entry_of key.number node)) None (slot_within old key.slot (entry_of key.number node) at) at change in omega (arith, all)

  -- no record comes
  pub owed_fewer : ((key : Key) → IsSome (find new key) → find new key ≡ find old key) → owed_in new ≤ owed_in old
  owed_fewer kept = sum_no_rise owed_by refl old.entries new.entries (λ j. of j (entry_at new j) refl) where
    of : (j : ℕ) (o : Option (Entry Node)) → entry_at new j ≡ o → owed_by (entry_at new j) ≤ owed_by (entry_at old j)
    of j None at = let none : owed_by (entry_at new j) ≡ 0 = ap owed_by at in omega (arith, none)
    of j (Some e) at =
        let key : Key = record { slot = j; number = e.number } in
        let found : find new key ≡ Some e.value = found_entry new key e.value at in
        let was : find old key ≡ Some e.value = sym (kept key (ap is_some found)) ∙ found in
        let same : owed_by (entry_at new j) ≡ owed_by (entry_at old j) = ap owed_by (at ∙ sym (entry_found old key e.value was)) in omega (arith, same)

-- a record that comes
pub owed_came : (old new : Slots Node) (key : Key) (node : Node) → entry_at old key.slot ≡ None →
    Changes old new key.slot (Some (entry_of key.number node)) → owed_in new ≡ owed_in old + node.marks.owed
owed_came old new key node free change = search (rules, owed_taken, found_entry)

-- a record changes by a function
pub owed_rewritten : (old new : Slots Node) (key : Key) (node : Node) (change : Node → Node) → find old key ≡ Some node → Rewrites old new key change →
    owed_in new + node.marks.owed ≡ owed_in old + (change node).marks.owed
owed_rewritten old new key node change found written = owed_written old new key node (change node) found (record { changed = here; others = others }) where
  now : find new key ≡ Some (change node)
  now = written.changed ∙ ap (option_map change) found

  here : entry_at new key.slot ≡ Some (entry_of key.number (change node))
  here = entry_found new key (change node) now

  others : (j : ℕ) → j ≢ key.slot → entry_at new j ≡ entry_at old j
  others j apart = of (entry_at new j) (entry_at old j) refl refl where
    away : (number : ℕ) → find new (record { slot = j; number = number }) ≡ find old (record { slot = j; number = number })
    away number = written.others (record { slot = j; number = number }) (λ same. apart (ap (λ (k : Key). k.slot) same))

    of : (a b : Option (Entry Node)) → entry_at new j ≡ a → entry_at old j ≡ b → entry_at new j ≡ entry_at old j
    of None None at was = at ∙ sym was
    of (Some e) b at was =
        let key : Key = record { slot = j; number = e.number } in
        at ∙ sym (entry_found old key e.value (sym (away e.number) ∙ found_entry new key e.value at))
    of None (Some e) at was =
        let key : Key = record { slot = j; number = e.number } in
        entry_found new key e.value (away e.number ∙ found_entry old key e.value was) ∙ sym was

-- sums over numbers -------------------------------------------------------------------------------

module _ {X : Type 0} where
  -- a value of this number is among these
  abbrev pub has_number : List (Option (Entry X)) → ℕ → Bool
  has_number [] k = false
  has_number (None ∷ es) k = has_number es k
  has_number (Some e ∷ es) k = (e.number == k) || has_number es k

  -- what the value of an entry weighs
  abbrev pub weight : (X → ℕ) → Option (Entry X) → ℕ
  weight weigh entry = option_map_or (λ e. weigh e.value) entry 0

  number_at_index : (es : List (Option (Entry X))) (k : ℕ) → has_number es k ≡ true → (i : ℕ) × (e : Entry X) × (get_or es i None ≡ Some e) × (e.number ≡ k)
  number_at_index [] k has = absurd (false≢true has)
  number_at_index (None ∷ es) k has = let r = number_at_index es k has in (suc r.0, r.1, r.2, r.3)
  number_at_index (Some e ∷ es) k has = of (number_at_index es k) (cases_eq e.number k) where
    of : (has_number es k ≡ true → (i : ℕ) × (d : Entry X) × (get_or es i None ≡ Some d) × (d.number ≡ k)) → (e.number ≡ k) ⊎ (e.number ≢ k) →
        (i : ℕ) × (d : Entry X) × (get_or (Some e ∷ es) i None ≡ Some d) × (d.number ≡ k)
    of later (inl same) = (0, e, refl, same)
    of later (inr apart) =
        let off : (e.number == k) ≡ false = grind (arith, nat_tests, apart) in
        let r = later (sym (ap (λ b. b || has_number es k) off) ∙ has) in (suc r.0, r.1, r.2, r.3)

  index_has_number : (es : List (Option (Entry X))) (i : ℕ) (e : Entry X) → get_or es i None ≡ Some e → has_number es e.number ≡ true
  index_has_number [] i e at = absurd (true≢false (ap is_some (sym at)))
  index_has_number (None ∷ es) zero e at = absurd (true≢false (ap is_some (sym at)))
  index_has_number (None ∷ es) (suc i) e at = index_has_number es i e at
  index_has_number (Some d ∷ es) zero e at = search (rules, nat_tests)
  index_has_number (Some d ∷ es) (suc i) e at = search (rules, index_has_number es i e at)

  -- no number stands twice among these
  abbrev pub Differ : List (Option (Entry X)) → Type 0
  Differ es = (i j : ℕ) (a b : Entry X) → get_or es i None ≡ Some a → get_or es j None ≡ Some b → a.number ≡ b.number → i ≡ j

  differ_later : (o : Option (Entry X)) (es : List (Option (Entry X))) → Differ (o ∷ es) → Differ es
  differ_later o es differ i j a b at_i at_j same = let e = differ (suc i) (suc j) a b at_i at_j same in omega (arith, e)

  module _ (weigh : X → ℕ) (f : ℕ → ℕ) (n : ℕ) where
    by_numbers : (es : List (Option (Entry X))) → Differ es →
        ((i : ℕ) (e : Entry X) → get_or es i None ≡ Some e → (e.number < n) × (weigh e.value ≡ f e.number)) →
        sum_by (weight weigh) es ≡ sum_by (λ k. cond (has_number es k) (f k) 0) (range_with_len 0 n)
    by_numbers [] differ each = sym (sum_by_none (λ k. 0) n (λ k l. refl))
    by_numbers (None ∷ es) differ each =
        let rest = by_numbers es (differ_later None es differ) (λ i e at. each (suc i) e at) in
        let all : sum_by (weight weigh) (None ∷ es) ≡ 0 + sum_by (weight weigh) es = sum_by-cons (weight weigh) None es in
        let same : sum_by (weight weigh) (None ∷ es) ≡ sum_by (weight weigh) es = omega (arith, all) in same ∙ rest
    by_numbers (Some e ∷ es) differ each =
        let one = each 0 e refl in
        let rest = by_numbers es (differ_later (Some e) es differ) (λ i d at. each (suc i) d at) in
        let g : ℕ → ℕ = λ k. cond (has_number es k) (f k) 0 in
        let h : ℕ → ℕ = λ k. cond (e.number == k) (f k) 0 in
        let both = sum_by-plus h g n in
        let alone = sum_by_one f e.number n one.0 in
        let first : weigh e.value ≡ f e.number = one.1 in
        let parts = sum_by-same (λ k. h k + g k) (λ k. cond (has_number (Some e ∷ es) k) (f k) 0) n (λ k l. shape k (cases_eq e.number k)) in
        let all = sum_by-cons (weight weigh) (Some e) es in
        omega (arith, all, rest, both, alone, first, parts)
      where
        absent : has_number es e.number ≡ false
        absent = of (has_number es e.number) refl where
          of : (b : Bool) → has_number es e.number ≡ b → b ≡ false
          of false has = refl
          of true has = let r = number_at_index es e.number has in let same = differ 0 (suc r.0) e r.1 refl r.2 (sym r.3) in absurd (omega (arith, same))

        none_more : (m : ℕ) → m ≡ 0 + m
        none_more m = omega arith

        shape : (k : ℕ) → (e.number ≡ k) ⊎ (e.number ≢ k) →
            cond ((e.number == k) || has_number es k) (f k) 0 ≡ cond (e.number == k) (f k) 0 + cond (has_number es k) (f k) 0
        shape k (inl same) =
            let on : (e.number == k) ≡ true = grind (arith, nat_tests, same) in
            let off : has_number es k ≡ false = ap (has_number es) (sym same) ∙ absent in rw (on, off) (sym (add-zero (f k)))
        shape k (inr apart) = let off : (e.number == k) ≡ false = grind (arith, nat_tests, apart) in rw off (none_more (cond (has_number es k) (f k) 0))

    -- a sum over slots is one over the numbers of what stands there, where each of another weight than 0 does
    pub sum_by-numbers : (slots : Slots X) → AreApart slots → ((key : Key) (x : X) → find slots key ≡ Some x → (key.number < n) × (weigh x ≡ f key.number)) →
        ((k : ℕ) → k < n → 0 < f k → (key : Key) × (key.number ≡ k) × IsSome (find slots key)) →
        sum_by (weight weigh) slots.entries ≡ sum_by f (range_with_len 0 n)
    sum_by-numbers slots apart each every =
        by_numbers slots.entries differ (λ i e at. each (record { slot = i; number = e.number }) e.value (found_entry slots
        (record { slot = i; number = e.number }) e.value at)) ∙
        sum_by-same f (λ k. cond (has_number slots.entries k) (f k) 0) n (λ k l. of k l (has_number slots.entries k) refl)
      where
        differ : Differ slots.entries
        differ i j a b at_i at_j same =
            let one : Key = record { slot = i; number = a.number } in
            let other : Key = record { slot = j; number = b.number } in
            ap (λ (k : Key). k.slot) (apart one other (ap is_some (found_entry slots one a.value at_i)) (ap is_some (found_entry slots other b.value at_j))
            same)

        of : (k : ℕ) → k < n → (b : Bool) → has_number slots.entries k ≡ b → cond b (f k) 0 ≡ f k
        of k l true has = refl
        of k l false has = by (cases_lt 0 (f k)) where
          by : (0 < f k) ⊎ (f k ≤ 0) → 0 ≡ f k
          by (inr none) = omega (arith, none)
          by (inl some) =
              let r = every k l some in
              let x = some_of (find slots r.0) r.2 in
              let stands = index_has_number slots.entries r.0.slot (entry_of r.0.number x.0) (entry_found slots r.0 x.0 x.1) in
              absurd (true≢false (sym stands ∙ ap (has_number slots.entries) r.1 ∙ has))

-- what all nodes owe is a sum over their numbers
pub owed_in-numbers : (f : ℕ → ℕ) (n : ℕ) (nodes : Slots Node) → AreApart nodes →
    ((key : Key) (node : Node) → find nodes key ≡ Some node → (key.number < n) × (node.marks.owed ≡ f key.number)) →
    ((k : ℕ) → k < n → 0 < f k → (key : Key) × (key.number ≡ k) × IsSome (find nodes key)) → owed_in nodes ≡ sum_by f (range_with_len 0 n)
owed_in-numbers f n nodes apart each every = sum_by-numbers (λ (node : Node). node.marks.owed) f n nodes apart each every
