-- What calls on the chain leave of a tree.
use Rattle.rx_tree.proofs.Common.{◌≡◌, ◌≢◌, ℕ, ◌&&◌, cond, map, drop, Bool, true, false, List, [], ◌∷◌, ◌++◌, Option, Some, None, option_map, is_some, IsSome}
use Rattle.rx_tree.proofs.Common.{refl, sym, ap, subst, ◌∙◌, option_map_or, not, false≢true, false_from_ne_true, Marks, Key, Entry, Slots, entry_at, find}
use Rattle.rx_tree.proofs.Common.{key_at, Place, Due, Noted, Node, Stowed, Store, is_among, without, Steps, Leads, AreDifferent, Joins, Leaves, is_place}
use Rattle.rx_tree.proofs.Common.{is_end, slot_of, places, tells, among_here, without_none, no_loop, first_among, some_none, key_on, project, nodes_of, shown}
use Rattle.rx_tree.proofs.Common.{resources_of, next_of, previous_of, Relinks, home_of, IsTiedAt, IsTied, IsKept, IsRemarked, is_on, with_last, with_due}
use Rattle.rx_tree.proofs.Common.{with_marks, first_of, Rewrites, same_key, some_of}
use Rattle.rx_slots.proofs.Laws.Places.{place_differs}
use Rattle.rx_tree.proofs.TieSteps.{tied_links, tied_noted, tied_unnoted}
use Rattle.rx_tree.proofs.TieRecords.{tied_marked, by_entry, home_stands}
use Rattle.rx_tree.proofs.Chain.{chain_is, retie, due_is, on_places, places_on, key_on_found}
use Rattle.rx_tree.proofs.There.{slot_stands}
use Rattle.std.proofs.Common.{rules}

map_append : {X Y : Type 0} (f : X → Y) (xs ys : List X) → map f (xs ++ ys) ≡ map f xs ++ map f ys
map_append f [] ys = refl
map_append f (x ∷ xs) ys = ap (λ zs. f x ∷ zs) (map_append f xs ys)

map_same : {X Y : Type 0} (f g : X → Y) (xs : List X) → ((x : X) → f x ≡ g x) → map f xs ≡ map g xs
map_same f g [] same = refl
map_same f g (x ∷ xs) same = (λ i. same x i ∷ map_same f g xs same i)

module _ {T : Type 0} where
  -- a node that its link shows on the chain is on it, and another is not
  pub off_chain : (n p : Steps Place) (nodes : Slots Node) (resources : Slots (Stowed T)) (tied : IsTiedAt n p nodes resources) (slot : ℕ) →
      is_place (n (Noted slot)) (Noted slot) ≡ true → home_of nodes resources tied.noted (Noted slot) ≡ None
  off_chain n p nodes resources tied slot loop = of (tied.noted slot && is_some (entry_at nodes slot)) refl where
    of : (b : Bool) → (tied.noted slot && is_some (entry_at nodes slot)) ≡ b → cond b (Some Due) None ≡ None
    of false e = refl
    of true e =
        let home : home_of nodes resources tied.noted (Noted slot) ≡ Some Due = ap (λ b. cond b (Some Due) None) e in
        absurd (no_loop tells n p Due (tied.rings Due) Due (Noted slot) (tied.ringed.leads Due refl) (tied.ringed.differ Due) (λ s. false≢true (ap is_end s))
        (tied.ringed.listed Due (Noted slot) home) (tells.same (n (Noted slot)) (Noted slot) loop))

  pub on_chain : (n p : Steps Place) (nodes : Slots Node) (resources : Slots (Stowed T)) (tied : IsTiedAt n p nodes resources) (slot : ℕ) →
      is_place (n (Noted slot)) (Noted slot) ≡ false → is_among places (Noted slot) (tied.rings Due) ≡ true
  on_chain n p nodes resources tied slot other = search (rules, home_of, place_differs, tells)

  -- marks are set
  module _ (s m : Store T) (key : Key) (node : Node) (marks : Marks) (kept : IsKept s) (found : find (nodes_of s) key ≡ Some node)
      (written : IsRemarked s m key node marks) where
    abbrev marked : IsTiedAt (next_of m) (previous_of m) (nodes_of m) (resources_of s)
    marked = tied_links (previous_of s) (next_of m) (previous_of m) (nodes_of m) (resources_of s) (λ q. ap (λ l. l.next) (written.links q))
        (λ q. ap (λ l. l.previous) (written.links q))
        (tied_marked (nodes_of s) (nodes_of m) (resources_of s) key node marks found written.changes written.rewrites.others (next_of s) (previous_of s)
        kept.tied)

    pub marked_resources : resources_of m ≡ resources_of s
    marked_resources = ap (project (λ r. r.stowed)) written.resources

    pub marked_kept : IsKept m
    marked_kept = record { tied = retie m (nodes_of m) (resources_of s) refl marked_resources marked; counted = written.counted }

    pub marked_open : IsSome (find (nodes_of m) key)
    marked_open = ap is_some (written.rewrites.changed ∙ ap (option_map (with_marks marks)) found)

    -- the chain is the one before
    pub marked_chain : (shown m).chain ≡ (shown s).chain
    marked_chain = chain_is m (nodes_of m) (resources_of s) refl marked ∙ map_same (key_on (nodes_of m)) (key_on (nodes_of s)) (kept.tied.rings Due)
        (λ q. same_key (key_on (nodes_of m) q) (key_on (nodes_of s) q) refl
        (by_entry {T = T} (nodes_of s) (nodes_of m) (resources_of s) key node marks found written.changes written.rewrites.others
        (λ o. option_map_or (λ n. n) (option_map (λ e. e.number) o) 0) refl (slot_of q))) ∙ sym (chain_is s (nodes_of s) (resources_of s) refl kept.tied)

    -- and stays one with the nodes and the resources of before where links alone change after that
    pub marked_nodes : (t : Store T) → Relinks m t → Rewrites (nodes_of s) (nodes_of t) key (with_marks marks)
    marked_nodes t rest = subst (λ (n : Slots Node). Rewrites (nodes_of s) n key (with_marks marks)) (sym rest.nodes) written.rewrites

    pub marked_due : (t : Store T) → Relinks m t → (shown t).chain ≡ with_due (nodes_of m) key (shown m).chain →
        (shown t).chain ≡ with_due (nodes_of t) key (shown s).chain
    marked_due t rest chain = chain ∙ (λ i. with_due (sym rest.nodes i) key (marked_chain i))

  -- a node is put on the chain
  module _ (m : Store T) (key : Key) (tied : IsTied m) («open» : IsSome (find (nodes_of m) key)) where
    chain_before : (shown m).chain ≡ map (key_on (nodes_of m)) (tied.rings Due)
    chain_before = chain_is m (nodes_of m) (resources_of m) refl tied

    last_key : key_on (nodes_of m) (Noted key.slot) ≡ key
    last_key = let h = some_of (find (nodes_of m) key) «open» in key_on_found (nodes_of m) key h.0 (Noted key.slot) refl h.1

    -- it was there
    pub noted_already : is_place (next_of m (Noted key.slot)) (Noted key.slot) ≡ false → (shown m).chain ≡ with_last key (shown m).chain
    noted_already other =
        let among = on_chain (next_of m) (previous_of m) (nodes_of m) (resources_of m) tied key.slot other in
        let on : is_on key (shown m).chain ≡ true =
        ap (is_on key) chain_before ∙ subst (λ k. is_on k (map (key_on (nodes_of m)) (tied.rings Due)) ≡ true) last_key
        (places_on (nodes_of m) (tied.rings Due) (Noted key.slot) among) in
        sym (ap (λ b. cond b (shown m).chain ((shown m).chain ++ key ∷ [])) on)

    -- it was not
    module _ (t : Store T) (off : is_place (next_of m (Noted key.slot)) (Noted key.slot) ≡ true)
        (joins : Joins places (next_of m) (previous_of m) (next_of t) (previous_of t) Due (Noted key.slot)) (relinks : Relinks m t) where
      home_none : home_of (nodes_of m) (resources_of m) tied.noted (Noted key.slot) ≡ None
      home_none = off_chain (next_of m) (previous_of m) (nodes_of m) (resources_of m) tied key.slot off

      abbrev joined : IsTiedAt (next_of t) (previous_of t) (nodes_of m) (resources_of m)
      joined = tied_noted (nodes_of m) (resources_of m) (previous_of m) (next_of t) (previous_of t) key.slot tied home_none
          (slot_stands (nodes_of m) key «open») joins

      pub noted_tied : IsTied t
      noted_tied = retie t (nodes_of m) (resources_of m) relinks.nodes relinks.resources joined

      pub noted_chain : (shown t).chain ≡ with_last key (shown m).chain
      noted_chain =
          let off_it : is_on key (shown m).chain ≡ false = false_from_ne_true (is_on key (shown m).chain)
          (λ on. let h = on_places (nodes_of m) (tied.rings Due) key (subst (λ c. is_on key c ≡ true) chain_before on) in let home =
          tied.ringed.members Due h.place h.among in let is : h.place ≡ Noted key.slot = due_is (nodes_of m) (resources_of m) tied.noted h.place home ∙
          ap (λ j. Noted j) (sym h.slot) in some_none (home_of (nodes_of m) (resources_of m) tied.noted (Noted key.slot)) Due
          (tied.ringed.members Due (Noted key.slot) (subst (λ z. is_among places z (tied.rings Due) ≡ true) is h.among)) home_none) in
          chain_is t (nodes_of m) (resources_of m) relinks.nodes joined ∙ map_append (key_on (nodes_of m)) (tied.rings Due) (Noted key.slot ∷ []) ∙
          (λ i. sym chain_before i ++ last_key i ∷ []) ∙ sym (ap (λ b. cond b (shown m).chain ((shown m).chain ++ key ∷ [])) off_it)

  -- the first of the chain
  module _ (s : Store T) (tied : IsTied s) where
    chain_now : (shown s).chain ≡ map (key_on (nodes_of s)) (tied.rings Due)
    chain_now = chain_is s (nodes_of s) (resources_of s) refl tied

    first_is : (ps : List Place) → Leads (next_of s) (previous_of s) Due ps Due → AreDifferent places ps →
        ((q : Place) → is_among places q ps ≡ true → q ≡ Noted (slot_of q)) → (slot : ℕ) → next_of s Due ≡ Noted slot →
        (map (key_on (nodes_of s)) (without places (Noted slot) ps) ≡ drop 1 (map (key_on (nodes_of s)) ps)) ×
        (first_of (map (key_on (nodes_of s)) ps) ≡ Some (key_on (nodes_of s) (Noted slot)))
    first_is [] h d all slot at = absurd (false≢true (ap is_end (sym at ∙ h.to)))
    first_is (x ∷ ps) h d all slot at =
        let same : Noted slot ≡ x = sym at ∙ h.0.to in (
          ap (map (key_on (nodes_of s)))
              (ap (λ b. cond (not b) (x ∷ without places (Noted slot) ps) (without places (Noted slot) ps))
              (subst (λ z. is_place (Noted slot) z ≡ true) same (tells.self (Noted slot))) ∙
              without_none tells (Noted slot) ps (subst (λ z. is_among places z ps ≡ false) (sym same) d.0)),
          ap (λ z. Some (key_on (nodes_of s) z)) (sym same),
        )

    noted_all : (q : Place) → is_among places q (tied.rings Due) ≡ true → q ≡ Noted (slot_of q)
    noted_all q i = due_is (nodes_of s) (resources_of s) tied.noted q (tied.ringed.members Due q i)

    none_is : (ps : List Place) → Leads (next_of s) (previous_of s) Due ps Due → ((q : Place) → is_among places q ps ≡ true → q ≡ Noted (slot_of q)) →
        ((slot : ℕ) → next_of s Due ≢ Noted slot) → ps ≡ []
    none_is [] h all no_note = refl
    none_is (x ∷ ps) h all no_note = absurd (no_note (slot_of x) (h.0.to ∙ all x (among_here tells x ps)))

    -- where the links show no node, the chain is empty
    pub chain_none : ((slot : ℕ) → next_of s Due ≢ Noted slot) → (shown s).chain ≡ []
    chain_none no_note = chain_now ∙ ap (map (key_on (nodes_of s))) (none_is (tied.rings Due) (tied.ringed.leads Due refl) noted_all no_note)

    module _ (slot : ℕ) (at : next_of s Due ≡ Noted slot) where
      among_first : is_among places (Noted slot) (tied.rings Due) ≡ true
      among_first = subst (λ z. is_among places z (tied.rings Due) ≡ true) at
          (first_among tells (next_of s) (previous_of s) Due (tied.rings Due) Due (tied.ringed.leads Due refl) (λ e. false≢true (ap is_end (sym at ∙ e))))

      pub first_stands : is_some (entry_at (nodes_of s) slot) ≡ true
      first_stands = home_stands (nodes_of s) (resources_of s) tied.noted (Noted slot) Due (tied.ringed.members Due (Noted slot) among_first)

      pub chain_first : key_at (nodes_of s) slot ≡ first_of (shown s).chain
      chain_first = at_key (entry_at (nodes_of s) slot) refl first_stands ∙ sym
          (ap first_of chain_now ∙ (first_is (tied.rings Due) (tied.ringed.leads Due refl) (tied.ringed.differ Due) noted_all slot at).1) where
            at_key : (o : Option (Entry Node)) → entry_at (nodes_of s) slot ≡ o → is_some o ≡ true →
                option_map (λ e. record { slot = slot; number = e.number }) (entry_at (nodes_of s) slot) ≡ Some (key_on (nodes_of s) (Noted slot))
            at_key None read there = absurd (false≢true there)
            at_key (Some e) read _ = ap (option_map (λ e. record { slot = slot; number = e.number })) read ∙
                ap (λ o. Some (record { slot = slot; number = option_map_or (λ n. n) (option_map (λ e. e.number) o) 0 })) (sym read)

      module _ (t : Store T) (leaves : Leaves places (next_of s) (previous_of s) (next_of t) (previous_of t) (Noted slot)) (relinks : Relinks s t) where
        abbrev dropped : IsTiedAt (next_of t) (previous_of t) (nodes_of s) (resources_of s)
        dropped = tied_unnoted (nodes_of s) (resources_of s) (next_of s) (previous_of s) (next_of t) (previous_of t) slot tied leaves

        pub dropped_tied : IsTied t
        dropped_tied = retie t (nodes_of s) (resources_of s) relinks.nodes relinks.resources dropped

        pub dropped_chain : (shown t).chain ≡ drop 1 (shown s).chain
        dropped_chain = chain_is t (nodes_of s) (resources_of s) relinks.nodes dropped ∙
            (first_is (tied.rings Due) (tied.ringed.leads Due refl) (tied.ringed.differ Due) noted_all slot at).0 ∙ sym (ap (drop 1) chain_now)

        pub dropped_shown : shown t ≡ record (shown s) { chain = drop 1 (shown s).chain }
        dropped_shown = λ i. record { nodes = relinks.nodes i; resources = relinks.resources i; chain = dropped_chain i }
