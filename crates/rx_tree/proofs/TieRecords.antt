-- How a tree stays tied when a record changes or comes.
use Rattle.rx_tree.proofs.Common.{◌≡◌, ◌≢◌, ℕ, ◌<◌, ◌==◌, ◌&&◌, cond, Bool, true, false, [], ◌∷◌, ◌++◌, Option, Some, None, option_map, is_some, IsSome, refl}
use Rattle.rx_tree.proofs.Common.{sym, ap, subst, ◌∙◌, inl, inr, ◌⊎◌, arith, true≢false, option_map_or, option_and_then, not, cases_eq, false≢true, nat_tests}
use Rattle.rx_tree.proofs.Common.{Marks, Entry, Key, Slots, entry_of, entry_at, find, with_number, Changes, KeepsOthers, Place, Roots, Due, Waiting, Held}
use Rattle.rx_tree.proofs.Common.{Sibling, Noted, Stored, Node, Stowed, is_owned, is_lent, Steps, Joins, is_end, slot_of, places, tells, cases_place, by_ring}
use Rattle.rx_tree.proofs.Common.{put_ring, some_same, rings_joined, key_on, stands, Inserts, sibling_ring, Rises, is_by_age, resource_ring, home_of, IsSound}
use Rattle.rx_tree.proofs.Common.{IsTiedAt, IsPlaced, IsPast, AreApart, with_marks, same_key, cases_key, entry_found, found_entry}
use Rattle.rx_tree.proofs.Sound.{same_found, IsSound-at, IsSound-opened}
use Rattle.rx_tree.proofs.TieSteps.{rings_same, rises_last, rises_same, unnoted}
use Rattle.std.proofs.Common.{rules}

-- a place whose home is by age is that of a node
pub record IsNodeAt (nodes : Slots Node) (q : Place) : Type 0 where
  pub slot : ℕ
  pub entry : Entry Node
  pub is : q ≡ Sibling slot
  pub at : entry_at nodes slot ≡ Some entry

module _ {T : Type 0} where
  -- what tells the homes of these places stayed
  pub record HomesStay (C : Place → Type 0) (nodes nodes' : Slots Node) (resources resources' : Slots (Stowed T)) (noted noted' : ℕ → Bool) : Type 0 where
    pub sibling : (j : ℕ) → C (Sibling j) →
        option_and_then (λ e. sibling_ring e.value) (entry_at nodes' j) ≡ option_and_then (λ e. sibling_ring e.value) (entry_at nodes j)
    pub note : (j : ℕ) → C (Noted j) → (noted' j && is_some (entry_at nodes' j)) ≡ (noted j && is_some (entry_at nodes j))
    pub stored : (r : ℕ) → C (Stored r) → home_of nodes' resources' noted' (Stored r) ≡ home_of nodes resources noted (Stored r)

  -- so these places have the homes that they had
  pub home_by : {C : Place → Type 0} {nodes nodes' : Slots Node} {resources resources' : Slots (Stowed T)} {noted noted' : ℕ → Bool} →
      HomesStay C nodes nodes' resources resources' noted noted' → (q : Place) → C q → home_of nodes' resources' noted' q ≡ home_of nodes resources noted q
  home_by stay x1 c = search rules

  -- what has a home stands somewhere
  pub home_stands : (nodes : Slots Node) (resources : Slots (Stowed T)) (noted : ℕ → Bool) (q e : Place) → home_of nodes resources noted q ≡ Some e →
      stands nodes resources q ≡ true
  home_stands nodes resources noted x3 e at = search (rules, true≢false, resource_ring)

  pub aged : (nodes : Slots Node) (resources : Slots (Stowed T)) (noted : ℕ → Bool) (q e : Place) → home_of nodes resources noted q ≡ Some e →
      is_by_age e ≡ true → IsNodeAt nodes q
  aged nodes resources noted (Sibling j) e at age = of (entry_at nodes j) refl at where
    of : (o : Option (Entry Node)) → entry_at nodes j ≡ o → option_and_then (λ e. sibling_ring e.value) o ≡ Some e → IsNodeAt nodes (Sibling j)
    of None read at = absurd (true≢false (ap is_some (sym at)))
    of (Some x) read at = record { slot = j; entry = x; is = refl; at = read }
  aged nodes resources noted (Noted j) e at age = of (noted j && is_some (entry_at nodes j)) at where
    of : (b : Bool) → cond b (Some Due) None ≡ Some e → IsNodeAt nodes (Noted j)
    of true at = absurd (false≢true (ap is_by_age (some_same Due e at) ∙ age))
    of false at = absurd (true≢false (ap is_some (sym at)))
  aged nodes resources noted (Stored r) e at age = of (entry_at resources r) at where
    by : (l b : Bool) (s : ℕ) → cond l None (Some (cond b (Held s) Waiting)) ≡ Some e → is_by_age e ≡ false
    by true b s at = absurd (true≢false (ap is_some (sym at)))
    by false true s at = ap is_by_age (sym (some_same (Held s) e at))
    by false false s at = ap is_by_age (sym (some_same Waiting e at))

    of : (o : Option (Entry (Stowed T))) → option_and_then (λ e. resource_ring nodes e.value) o ≡ Some e → IsNodeAt nodes (Stored r)
    of None at = absurd (true≢false (ap is_some (sym at)))
    of (Some x) at = absurd (true≢false (sym age ∙ by (is_lent x.value) (is_owned nodes x.value) x.value.node.slot at))
  aged nodes resources noted Roots e at age = absurd (true≢false (ap is_some (sym at)))
  aged nodes resources noted _ e at age = absurd (true≢false (ap is_some (sym at)))

  -- the marks of a node change
  module _ (nodes nodes' : Slots Node) (resources : Slots (Stowed T)) (key : Key) (before : Node) (marks : Marks) (found : find nodes key ≡ Some before)
      (change : Changes nodes nodes' key.slot (Some (entry_of key.number (with_marks marks before)))) (kept : KeepsOthers nodes nodes' key) where
    pub now_found : find nodes' key ≡ Some (with_marks marks before)
    now_found = found_entry nodes' key (with_marks marks before) change.changed

    pub by_entry : {Z : Type 0} (f : Option (Entry Node) → Z) → f (Some (entry_of key.number (with_marks marks before))) ≡ f
        (Some (entry_of key.number before)) → (j : ℕ) → f (entry_at nodes' j) ≡ f (entry_at nodes j)
    by_entry f same j = elim (cases_eq key.slot j) [
      | inl here ↦ subst (λ k. f (entry_at nodes' k) ≡ f (entry_at nodes k)) here
          (ap f change.changed ∙ same ∙ sym (ap f (entry_found nodes key before found)))
      | inr apart ↦ ap f (change.others j (λ s. apart (sym s)))
    ]

    pub held_same : (stowed : Stowed T) → is_owned nodes' stowed ≡ is_owned nodes stowed
    held_same stowed = ap (λ b. b && not stowed.removed)
        (same_found nodes nodes' key before (with_marks marks before) found now_found kept refl refl stowed.node)

    pub ring_same : resource_ring {T = T} nodes ≡ resource_ring {T = T} nodes'
    ring_same = λ i stowed. cond (is_lent stowed) None (Some (cond (sym (held_same stowed) i) (Held stowed.node.slot) Waiting))

    pub homes_marked : (noted : ℕ → Bool) → HomesStay (λ _. Unit {0}) nodes nodes' resources resources noted noted
    homes_marked noted = record {
      sibling = λ j c. by_entry (option_and_then (λ e. sibling_ring e.value)) refl j;
      note = λ j c. by_entry (λ o. noted j && is_some o) refl j;
      stored = λ r c. ap (λ f. option_and_then (λ e. f e.value) (entry_at resources r)) (sym ring_same);
    }

    abbrev pub tied_marked : (n p : Steps Place) → IsTiedAt n p nodes resources → IsTiedAt n p nodes' resources
    tied_marked n p tied = record {
      rings = tied.rings;
      noted = tied.noted;
      ringed = rings_same n p (home_of nodes resources tied.noted) (home_of nodes' resources tied.noted) tied.rings tied.ringed
          (λ q. home_by (homes_marked tied.noted) q tt);
      rises = λ e age. rises_same nodes nodes' (tied.rings e)
          (λ q i. by_entry (λ o. option_map_or (λ m. m) (option_map (λ e. e.number) o) 0) refl (slot_of q)) (tied.rises e age);
      sound = IsSound-at nodes nodes' key before (with_marks marks before) found now_found kept refl refl tied.sound;
      resources_apart = tied.resources_apart;
    }

  -- a record came to a slot that was free
  module _ (nodes nodes' : Slots Node) (resources : Slots (Stowed T)) (key : Key) (number : ℕ) (node : Node) (came : Inserts nodes nodes' key number node)
      (past : IsPast nodes number) (homes : (k : Key) (stowed : Stowed T) → find resources k ≡ Some stowed → stowed.node.number < number)
      (placed : IsPlaced nodes number node.made node.above) where
    pub free : find nodes key ≡ None
    free = ap (with_number key.number) came.was_free

    pub opened_sound : IsSound nodes → IsSound nodes'
    opened_sound sound =
        let unused : (k : Key) → k.number ≡ key.number → find nodes k ≡ None =
        λ k same. none_of (find nodes k) (λ there. let l = past k there in let m = came.numbered in omega (arith, l, same, m)) in
        IsSound-opened nodes nodes' key node free came.found came.kept unused (subst (λ m. IsPlaced nodes m node.made node.above) (sym came.numbered) placed)
        sound where
          none_of : (o : Option Node) → (IsSome o → ⊥) → o ≡ None
          none_of None no_way = refl
          none_of (Some x) no_way = absurd (no_way refl)

    pub opened_ring : (r : ℕ) → option_and_then (λ e. resource_ring nodes' e.value) (entry_at resources r) ≡ option_and_then (λ e. resource_ring nodes e.value)
        (entry_at resources r)
    opened_ring r = of (entry_at resources r) refl where
      of : (o : Option (Entry (Stowed T))) → entry_at resources r ≡ o → option_and_then (λ e. resource_ring nodes' e.value) o ≡ option_and_then
          (λ e. resource_ring nodes e.value) o
      of None read = refl
      of (Some e) read =
          let k : Key = record { slot = r; number = e.number } in
          let less = homes k e.value (found_entry resources k e.value read) in
          let other : e.value.node ≢ key =
          λ same. let n : e.value.node.number ≡ key.number = ap (λ z. z.number) same in let m = came.numbered in omega (arith, less, n, m) in
          ap (λ o. cond (is_lent e.value) None (Some (cond (is_some o && not e.value.removed) (Held e.value.node.slot) Waiting))) (came.kept e.value.node other)

    pub elsewhere : {Z : Type 0} (f : Option (Entry Node) → Z) (j : ℕ) → key.slot ≢ j → f (entry_at nodes' j) ≡ f (entry_at nodes j)
    elsewhere f j apart = ap f (came.changes.others j (λ s. apart (sym s)))

    pub opened_note : (noted : ℕ → Bool) (j : ℕ) → (unnoted {T = T} nodes resources noted key.slot j && is_some (entry_at nodes' j)) ≡
        (noted j && is_some (entry_at nodes j))
    opened_note noted j = elim (cases_eq key.slot j) [
      | inl here ↦ of (noted j) (key.slot == j) (is_some (entry_at nodes' j)) (is_some (entry_at nodes j))
          (let h : (key.slot == j) ≡ true = grind (arith, nat_tests, here) in h) (ap is_some (sym (ap (entry_at nodes) here) ∙ came.was_free))
      | inr apart ↦ other (noted j) (key.slot == j) (is_some (entry_at nodes' j)) (is_some (entry_at nodes j))
          (let h : (key.slot == j) ≡ false = grind (arith, nat_tests, apart) in h) (elsewhere is_some j apart)
    ] where
      of : (a b x y : Bool) → b ≡ true → y ≡ false → ((a && not b) && x) ≡ (a && y)
      of true true x false e f = refl
      of false true x false e f = refl
      of a false x y e f = absurd (false≢true e)
      of a true x true e f = absurd (true≢false f)

      other : (a b x y : Bool) → b ≡ false → x ≡ y → ((a && not b) && x) ≡ (a && y)
      other true false x y e f = f
      other false false x y e f = refl
      other a true x y e f = absurd (true≢false e)

    pub sibling_here : option_and_then (λ e. sibling_ring e.value) (entry_at nodes' key.slot) ≡ sibling_ring node
    sibling_here = ap (option_and_then (λ e. sibling_ring e.value)) came.changes.changed

    pub opened_others : (noted : ℕ → Bool) (q : Place) → Sibling key.slot ≢ q → home_of nodes' resources (unnoted {T = T} nodes resources noted key.slot) q ≡
        home_of nodes resources noted q
    opened_others noted q apart = home_by homes_opened q apart where
      homes_opened : HomesStay (λ q. Sibling key.slot ≢ q) nodes nodes' resources resources noted (unnoted {T = T} nodes resources noted key.slot)
      homes_opened = record {
        sibling = λ j c. elsewhere (option_and_then (λ e. sibling_ring e.value)) j (λ s. c (ap (λ k. Sibling k) s));
        note = λ j c. opened_note noted j;
        stored = λ r c. opened_ring r;
      }

    pub older : (noted : ℕ → Bool) (q e : Place) → home_of nodes resources noted q ≡ Some e → is_by_age e ≡ true →
        ((key_on nodes' q).number ≡ (key_on nodes q).number) × ((key_on nodes q).number < number)
    older noted q e at age =
        let a = aged nodes resources noted q e at age in
        let apart : key.slot ≢ slot_of q = λ s. true≢false (ap is_some (sym (ap (entry_at nodes) (s ∙ ap slot_of a.is) ∙ a.at) ∙ came.was_free)) in
        let k : Key = record { slot = a.slot; number = a.entry.number } in
        let here : (key_on nodes q).number ≡ a.entry.number =
        ap (λ z. (key_on nodes z).number) a.is ∙ ap (λ o. option_map_or (λ m. m) (option_map (λ e. e.number) o) 0) a.at in
        let less = past k (ap is_some (found_entry nodes k a.entry.value a.at)) in
        (elsewhere (λ o. option_map_or (λ m. m) (option_map (λ e. e.number) o) 0) (slot_of q) apart, rw here less)

    abbrev pub tied_opened_alone : (n p : Steps Place) → IsTiedAt n p nodes resources → sibling_ring node ≡ None → IsTiedAt n p nodes' resources
    tied_opened_alone n p tied none = record {
      rings = tied.rings;
      noted = unnoted {T = T} nodes resources tied.noted key.slot;
      ringed = rings_same n p (home_of nodes resources tied.noted) (home_of nodes' resources (unnoted {T = T} nodes resources tied.noted key.slot)) tied.rings
          tied.ringed (λ q. elim (cases_place tells (Sibling key.slot) q) [
            | inl same ↦
                subst (λ z. home_of nodes' resources (unnoted {T = T} nodes resources tied.noted key.slot) z ≡ home_of nodes resources tied.noted z) same
                (sibling_here ∙ none ∙ sym (ap (option_and_then (λ e. sibling_ring e.value)) came.was_free))
            | inr apart ↦ opened_others tied.noted q apart
          ]);
      rises = λ e age. rises_same nodes nodes' (tied.rings e) (λ q i. (older tied.noted q e (tied.ringed.members e q i) age).0) (tied.rises e age);
      sound = opened_sound tied.sound;
      resources_apart = tied.resources_apart;
    }

    pub new_number : (key_on nodes' (Sibling key.slot)).number ≡ number
    new_number = ap (λ o. option_map_or (λ m. m) (option_map (λ e. e.number) o) 0) came.changes.changed

    pub less_than : (x : Place) → ((key_on nodes' x).number ≡ (key_on nodes x).number) × ((key_on nodes x).number < number) →
        (key_on nodes' x).number < (key_on nodes' (Sibling key.slot)).number
    less_than x h = let a = h.0 in let b = h.1 in rw (a, new_number) b

    -- what stood somewhere keeps its key
    pub opened_key : (x : Place) → is_some (entry_at nodes (slot_of x)) ≡ true → key_on nodes' x ≡ key_on nodes x
    opened_key x there = same_key (key_on nodes' x) (key_on nodes x) refl
        (elsewhere (λ o. option_map_or (λ m. m) (option_map (λ e. e.number) o) 0) (slot_of x)
        (λ s. true≢false (sym there ∙ ap is_some (sym (ap (entry_at nodes) s) ∙ came.was_free))))

    abbrev pub tied_opened : {n : Steps Place} (p n' p' : Steps Place) (tied : IsTiedAt n p nodes resources) (e : Place) → sibling_ring node ≡ Some e →
        is_end e ≡ true → Joins places n p n' p' e (Sibling key.slot) → IsTiedAt n' p' nodes' resources
    tied_opened {n} p n' p' tied e some ends joins = record {
      rings = put_ring places e (tied.rings e ++ Sibling key.slot ∷ []) tied.rings;
      noted = unnoted {T = T} nodes resources tied.noted key.slot;
      ringed = rings_joined tells n p n' p' (home_of nodes resources tied.noted)
          (home_of nodes' resources (unnoted {T = T} nodes resources tied.noted key.slot))
          tied.rings tied.ringed e (Sibling key.slot) joins ends refl (ap (option_and_then (λ e. sibling_ring e.value)) came.was_free) (sibling_here ∙ some)
          (opened_others tied.noted);
      rises = λ q. by_ring tells (λ q ps. is_by_age q ≡ true → Rises nodes' ps) e (tied.rings e ++ Sibling key.slot ∷ []) tied.rings
          (λ age. rises_last nodes' (Sibling key.slot) (tied.rings e)
          (rises_same nodes nodes' (tied.rings e) (λ x i. (older tied.noted x e (tied.ringed.members e x i) age).0) (tied.rises e age))
          (λ x i. less_than x (older tied.noted x e (tied.ringed.members e x i) age)))
          (λ q apart age. rises_same nodes nodes' (tied.rings q) (λ x i. (older tied.noted x q (tied.ringed.members q x i) age).0) (tied.rises q age)) q;
      sound = opened_sound tied.sound;
      resources_apart = tied.resources_apart;
    }

  -- a resource came to a slot that was free
  module _ (nodes : Slots Node) (resources resources' : Slots (Stowed T)) (key : Key) (number : ℕ) (stowed : Stowed T)
      (came : Inserts resources resources' key number stowed) (past : IsPast resources number) (owned : is_owned nodes stowed ≡ true)
      (free : is_lent stowed ≡ false) where
    pub held_others : (noted : ℕ → Bool) (q : Place) → Stored key.slot ≢ q → home_of nodes resources' noted q ≡ home_of nodes resources noted q
    held_others noted q apart = home_by homes_held q apart where
      homes_held : HomesStay (λ q. Stored key.slot ≢ q) nodes nodes resources resources' noted noted
      homes_held = record {
        sibling = λ j c. refl;
        note = λ j c. refl;
        stored = λ r c. ap (option_and_then (λ e. resource_ring nodes e.value)) (came.changes.others r (λ s. c (ap (λ k. Stored k) (sym s))));
      }

    pub held_apart : AreApart resources → AreApart resources'
    held_apart apart a b found_a found_b numbers = of (cases_key a key) (cases_key b key) where
      old : (k : Key) → k ≢ key → IsSome (find resources' k) → k.number < number
      old k other found = past k (ap is_some (sym (came.kept k other)) ∙ found)

      of : (a ≡ key) ⊎ (a ≢ key) → (b ≡ key) ⊎ (b ≢ key) → a ≡ b
      of (inl at_a) (inl at_b) = at_a ∙ sym at_b
      of (inl at_a) (inr other) = absurd
          (let l = old b other found_b in let n : a.number ≡ key.number = ap (λ k. k.number) at_a in let m = came.numbered in omega (arith, l, n, m, numbers))
      of (inr other) (inl at_b) = absurd
          (let l = old a other found_a in let n : b.number ≡ key.number = ap (λ k. k.number) at_b in let m = came.numbered in omega (arith, l, n, m, numbers))
      of (inr other_a) (inr other_b) = apart a b (ap is_some (sym (came.kept a other_a)) ∙ found_a) (ap is_some (sym (came.kept b other_b)) ∙ found_b) numbers

    abbrev pub tied_held : (n p n' p' : Steps Place) → IsTiedAt n p nodes resources → Joins places n p n' p' (Held stowed.node.slot) (Stored key.slot) →
        IsTiedAt n' p' nodes resources'
    tied_held n p n' p' tied joins = record {
      rings = put_ring places (Held stowed.node.slot) (tied.rings (Held stowed.node.slot) ++ Stored key.slot ∷ []) tied.rings;
      noted = tied.noted;
      ringed = rings_joined tells n p n' p' (home_of nodes resources tied.noted) (home_of nodes resources' tied.noted) tied.rings tied.ringed
          (Held stowed.node.slot) (Stored key.slot) joins refl refl (ap (option_and_then (λ e. resource_ring nodes e.value)) came.was_free)
          (ap (option_and_then (λ e. resource_ring nodes e.value)) came.changes.changed ∙ (λ i. cond (free i) None
          (Some (cond (owned i) (Held stowed.node.slot) Waiting)))) (held_others tied.noted);
      rises = λ q. by_ring tells (λ q ps. is_by_age q ≡ true → Rises nodes ps) (Held stowed.node.slot)
          (tied.rings (Held stowed.node.slot) ++ Stored key.slot ∷ []) tied.rings (λ age. absurd (false≢true age)) (λ q apart age. tied.rises q age) q;
      sound = tied.sound;
      resources_apart = held_apart tied.resources_apart;
    }
