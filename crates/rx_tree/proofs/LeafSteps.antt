-- What the removal of a childless node leaves of a tree.
use Rattle.rx_tree.proofs.Common.{◌≡◌, ◌≢◌, ℕ, ◌&&◌, cond, map, Bool, true, false, List, [], ◌∷◌, ◌++◌, Option, Some, None, option_map, is_some, IsSome, refl}
use Rattle.rx_tree.proofs.Common.{sym, ap, subst, ◌∙◌, inl, inr, ◌⊎◌, true≢false, filter, option_map_or, option_and_then, not, false≢true, false_from_ne_true}
use Rattle.rx_tree.proofs.Common.{Entry, Key, Slots, entry_at, with_number, find, Place, Due, Waiting, Children, Held, Sibling, Noted, Stored, Node, Stowed}
use Rattle.rx_tree.proofs.Common.{Store, still_open, waiting_home, LetsWait, is_owned, is_lent, is_among, without, Steps, set_step, AreRings, PassesBy, tells}
use Rattle.rx_tree.proofs.Common.{Leaves, Merges, is_place, is_end, slot_of, places, cases_place, place_apart, among_here, among_there, among_without, alone}
use Rattle.rx_tree.proofs.Common.{without_none, no_loop, merged_rings, rings_merged, rings_left, some_same, leaves_of, key_on, nodes_of, resources_of, stands}
use Rattle.rx_tree.proofs.Common.{link_at, set_link_at, next_of, previous_of, is_there, Relinks, Takes_out, shown, sibling_ring, resource_ring, Rises, IsTied}
use Rattle.rx_tree.proofs.Common.{is_by_age, home_of, IsTiedAt, IsSound, cases_key, some_of, none_not_some, same_key, one_key, with_number-same}
use Rattle.rx_tree.proofs.Chain.{chain_is, retie, due_is}
use Rattle.rx_tree.proofs.LeafRings.{lone, lone_here, lone_other, lone_some, next_there, previous_there, empty_ring, nothing_on, held_is, no_above, none_held}
use Rattle.rx_tree.proofs.Sound.{IfSome-same}
use Rattle.rx_tree.proofs.TieRecords.{HomesStay, home_by, home_stands, aged}
use Rattle.rx_tree.proofs.TieLemmas.{wrote_next, wrote_previous}
use Rattle.rx_tree.proofs.TieSteps.{rings_same, rises_without, rises_same, tied_links}
use Rattle.rx_tree.proofs.There.{end_stands, slot_stands}

module _ {T : Type 0} where
  -- what stood on a ring of resources waits
  module _ (s t : Store T) (tied : IsTied s) (slot : ℕ) where
    abbrev old_home : Place → Option Place
    old_home = home_of (nodes_of s) (resources_of s) tied.noted

    abbrev waits : Place → Option Place
    waits = waiting_home (tied.rings (Held slot)) old_home

    two : Held slot ≢ Waiting
    two e = true≢false (sym (tells.self (Held slot)) ∙ ap (is_place (Held slot)) e)

    pub waits_merged : (j : ℕ) → next_of s (Held slot) ≡ Stored j → Merges places (next_of s) (previous_of s) (next_of t) (previous_of t) (Held slot) Waiting →
        LetsWait s t slot
    waits_merged j at merges =
        let other : next_of s (Held slot) ≢ Held slot = λ same. true≢false (sym (tells.self (Stored j)) ∙ ap (is_place (Stored j)) (sym at ∙ same)) in
        record {
          tied = tied;
          rings = merged_rings tells (next_of s) (previous_of s) (next_of t) (previous_of t) old_home waits tied.rings tied.ringed
              (Held slot) Waiting merges refl
              refl two other (λ q i. ap (λ b. cond b (Some Waiting) (old_home q)) i) (λ q i. ap (λ b. cond b (Some Waiting) (old_home q)) i);
          ringed = rings_merged tells (next_of s) (previous_of s) (next_of t) (previous_of t) old_home waits tied.rings tied.ringed
              (Held slot) Waiting merges refl
              refl two other (λ q i. ap (λ b. cond b (Some Waiting) (old_home q)) i) (λ q i. ap (λ b. cond b (Some Waiting) (old_home q)) i);
          others = λ e a b. (ap (λ c. cond c [] (cond (is_place Waiting e) (tied.rings Waiting ++ tied.rings (Held slot)) (tied.rings e)))
              (place_apart tells (Held slot) e a)) ∙ ap (λ c. cond c (tied.rings Waiting ++ tied.rings (Held slot)) (tied.rings e))
              (place_apart tells Waiting e b);
        }

    pub waits_already : ((j : ℕ) → next_of s (Held slot) ≢ Stored j) → next_of t ≡ next_of s → previous_of t ≡ previous_of s → LetsWait s t slot
    waits_already none next previous =
        let loop = none_held (nodes_of s) (resources_of s) (next_of s) (previous_of s) tied slot none in
        let empty : (q : Place) → is_among places q (tied.rings (Held slot)) ≡ false = λ q. false_from_ne_true (is_among places q (tied.rings (Held slot)))
        (λ i. nothing_on (next_of s) (previous_of s) old_home tied.rings tied.ringed (Held slot) refl loop q (tied.ringed.members (Held slot) q i)) in
        record {
          tied = tied;
          rings = tied.rings;
          ringed = subst (λ m. AreRings places m (previous_of t) waits tied.rings) (sym next)
              (subst (λ m. AreRings places (next_of s) m waits tied.rings) (sym previous)
              (rings_same (next_of s) (previous_of s) old_home waits tied.rings tied.ringed (λ q. ap (λ b. cond b (Some Waiting) (old_home q)) (empty q))));
          others = λ e a b. refl;
        }

  -- a childless node is taken out
  module _ (s0 s1 : Store T) (key : Key) (node : Node) (found : find (nodes_of s0) key ≡ Some node) (W : LetsWait s0 s1 key.slot) (r1 : Relinks s0 s1)
      (childless : next_of s0 (Children key.slot) ≡ Children key.slot) where
    abbrev N0 : Slots Node
    N0 = nodes_of s0

    abbrev K0 : Slots (Stowed T)
    K0 = resources_of s0

    abbrev h0 : Place → Option Place
    h0 = home_of N0 K0 W.tied.noted

    abbrev h1 : Place → Option Place
    h1 = waiting_home (W.tied.rings (Held key.slot)) h0

    abbrev stays : Place → Type 0
    stays q = stands N0 K0 q ≡ true

    here : is_some (entry_at N0 key.slot) ≡ true
    here = slot_stands N0 key (ap is_some found)

    stood1 : (q e : Place) → h1 q ≡ Some e → stays q × stays e
    stood1 q e at = of (is_among places q (W.tied.rings (Held key.slot))) refl at where
      of : (b : Bool) → is_among places q (W.tied.rings (Held key.slot)) ≡ b → cond b (Some Waiting) (h0 q) ≡ Some e → stays q × stays e
      of true i at = (
        home_stands N0 K0 W.tied.noted q (Held key.slot) (W.tied.ringed.members (Held key.slot) q i),
        subst (λ z. stands N0 K0 z ≡ true) (some_same Waiting e at) refl,
      )
      of false i at = (home_stands N0 K0 W.tied.noted q e at, end_stands N0 K0 W.tied.noted q e W.tied.sound at)

    there1 : (q : Place) → stays q → is_there s1 q ≡ true
    there1 q at = (λ i. stands (r1.nodes i) (r1.resources i) q) ∙ at

    pub noted_before : is_there s1 (previous_of s1 (Noted key.slot)) ≡ true
    noted_before = there1 _ (previous_there (next_of s1) (previous_of s1) h1 W.rings W.ringed stays stood1 (Noted key.slot) here)

    pub noted_after : is_there s1 (next_of s1 (Noted key.slot)) ≡ true
    noted_after = there1 _ (next_there (next_of s1) (previous_of s1) h1 W.rings W.ringed stays stood1 (Noted key.slot) here)

    -- where its link shows the node on no chain, it is on none
    pub noted_loop : next_of s1 (Noted key.slot) ≡ Noted key.slot → previous_of s1 (Noted key.slot) ≡ Noted key.slot
    noted_loop loop = of (h1 (Noted key.slot)) refl where
      of : (o : Option Place) → h1 (Noted key.slot) ≡ o → previous_of s1 (Noted key.slot) ≡ Noted key.slot
      of None home = (W.ringed.loose (Noted key.slot) refl home).back
      of (Some e) home =
          let ends = W.ringed.ends e (Noted key.slot) home in
          absurd (no_loop tells (next_of s1) (previous_of s1) e (W.rings e) e (Noted key.slot) (W.ringed.leads e ends.0) (W.ringed.differ e)
          (λ s. false≢true (ap is_end s ∙ ends.0)) (W.ringed.listed e (Noted key.slot) home) loop)

    module _ (s2 : Store T) (L2 : Leaves places (next_of s1) (previous_of s1) (next_of s2) (previous_of s2) (Noted key.slot)) (r2 : Relinks s1 s2) where
      abbrev h2 : Place → Option Place
      h2 = lone h1 (Noted key.slot)

      abbrev rings2 : Place → List Place
      rings2 q = without places (Noted key.slot) (W.rings q)

      ringed2 : AreRings places (next_of s2) (previous_of s2) h2 rings2
      ringed2 = rings_left tells (next_of s1) (previous_of s1) (next_of s2) (previous_of s2) h1 h2 W.rings W.ringed (Noted key.slot) L2 refl
          (lone_here h1 (Noted key.slot)) (λ q a. lone_other h1 (Noted key.slot) q a)

      stood2 : (q e : Place) → h2 q ≡ Some e → stays q × stays e
      stood2 q e at = stood1 q e (lone_some h1 (Noted key.slot) q e at)

      there2 : (q : Place) → stays q → is_there s2 q ≡ true
      there2 q at = (λ i. stands (r2.nodes i) (r2.resources i) q) ∙ there1 q at

      pub sibling_before : is_there s2 (previous_of s2 (Sibling key.slot)) ≡ true
      sibling_before = there2 _ (previous_there (next_of s2) (previous_of s2) h2 rings2 ringed2 stays stood2 (Sibling key.slot) here)

      pub sibling_after : is_there s2 (next_of s2 (Sibling key.slot)) ≡ true
      sibling_after = there2 _ (next_there (next_of s2) (previous_of s2) h2 rings2 ringed2 stays stood2 (Sibling key.slot) here)

      -- its siblings pass it by, and its own link goes with it
      module _ (s3 : Store T) (P3 : PassesBy places (next_of s2) (previous_of s2) (next_of s3) (previous_of s3) (Sibling key.slot)) (r3 : Relinks s2 s3) where
        abbrev n3 : Steps Place
        n3 = set_step places (Sibling key.slot) (Sibling key.slot) (next_of s3)

        abbrev p3 : Steps Place
        p3 = set_step places (Sibling key.slot) (Sibling key.slot) (previous_of s3)

        abbrev h3 : Place → Option Place
        h3 = lone h2 (Sibling key.slot)

        abbrev rings3 : Place → List Place
        rings3 q = without places (Sibling key.slot) (rings2 q)

        ringed3 : AreRings places n3 p3 h3 rings3
        ringed3 = rings_left tells (next_of s2) (previous_of s2) n3 p3 h2 h3 rings2 ringed2 (Sibling key.slot)
            (leaves_of places P3 (record { to = λ q. refl; back = λ q. refl })) refl
            (lone_here h2 (Sibling key.slot)) (λ q a. lone_other h2 (Sibling key.slot) q a)

        link_alone : (q : Place) → next_of s3 q ≡ q → previous_of s3 q ≡ q → link_at s3 q ≡ alone q
        link_alone q to back = λ i. record { next = to i; previous = back i }

        noted_home : h3 (Noted key.slot) ≡ None
        noted_home = lone_other h2 (Sibling key.slot) (Noted key.slot)
            (λ e. true≢false (sym (tells.self (Sibling key.slot)) ∙ ap (is_place (Sibling key.slot)) e)) ∙ lone_here h1 (Noted key.slot)

        pub noted_alone : link_at s3 (Noted key.slot) ≡ alone (Noted key.slot)
        noted_alone = let h = ringed3.loose (Noted key.slot) refl noted_home in link_alone (Noted key.slot) h.to h.back

        none_at : (e : Place) → (Waiting ≡ e → ⊥) → ((q : Place) → is_among places q (W.tied.rings (Held key.slot)) ≡ false → h0 q ≡ Some e → ⊥) → (q : Place) →
            h3 q ≢ Some e
        none_at e apart none q at = of (is_among places q (W.tied.rings (Held key.slot))) refl
            (lone_some h1 (Noted key.slot) q e (lone_some h2 (Sibling key.slot) q e at)) where
              of : (b : Bool) → is_among places q (W.tied.rings (Held key.slot)) ≡ b → cond b (Some Waiting) (h0 q) ≡ Some e → ⊥
              of true i at = apart (some_same Waiting e at)
              of false i at = none q i at

        pub children_alone : link_at s3 (Children key.slot) ≡ alone (Children key.slot)
        children_alone =
            let h = empty_ring n3 p3 h3 rings3 ringed3 (Children key.slot) refl
            (none_at (Children key.slot) (λ e. true≢false (sym (tells.self Waiting) ∙ ap (is_place Waiting) e))
            (λ q i at. nothing_on (next_of s0) (previous_of s0) h0 W.tied.rings W.tied.ringed (Children key.slot) refl childless q at)) in
            link_alone (Children key.slot) h.to h.back

        pub held_alone : link_at s3 (Held key.slot) ≡ alone (Held key.slot)
        held_alone =
            let h = empty_ring n3 p3 h3 rings3 ringed3 (Held key.slot) refl
            (none_at (Held key.slot) (λ e. true≢false (sym (tells.self Waiting) ∙ ap (is_place Waiting) e))
            (λ q i at. true≢false (sym (W.tied.ringed.listed (Held key.slot) q at) ∙ i))) in link_alone (Held key.slot) h.to h.back

        module _ (s4 : Store T) (took : Takes_out (nodes_of s3) (nodes_of s4) key) (links : (q : Place) → link_at s4 q ≡
            set_link_at (Sibling key.slot) (alone (Sibling key.slot)) s3 q) (rest : resources_of s4 ≡ resources_of s3) where
          abbrev N4 : Slots Node
          N4 = nodes_of s4

          pub taken : Takes_out N0 N4 key
          taken = subst (λ m. Takes_out m N4 key) (r3.nodes ∙ r2.nodes ∙ r1.nodes) took

          pub resources_kept : resources_of s4 ≡ K0
          resources_kept = rest ∙ r3.resources ∙ r2.resources ∙ r1.resources

          gone_node : (k : Key) → k ≡ key → find N4 k ≡ None
          gone_node k same = ap (find N4) same ∙ taken.gone

          -- a resource that was held at the node waits, and each other is as it was
          waits_now : (stowed : Stowed T) → resource_ring N0 stowed ≡ Some (Held key.slot) → resource_ring N4 stowed ≡ Some Waiting
          waits_now stowed at = lent (is_lent stowed) refl at where
            of : (a b : Bool) → is_some (find N0 stowed.node) ≡ a → cond (a && b) (Held stowed.node.slot) Waiting ≡ Held key.slot →
                cond (is_owned N4 stowed) (Held stowed.node.slot) Waiting ≡ Waiting
            of true true some e =
                let x = some_of (find N0 stowed.node) some in
                let same = (one_key N0 stowed.node key x.0 node (ap slot_of e) x.1 found).0 in
                ap (λ o. cond (is_some o && not stowed.removed) (Held stowed.node.slot) Waiting) (gone_node stowed.node same)
            of true false some e = absurd (true≢false (sym (tells.self Waiting) ∙ ap (is_place Waiting) e))
            of false b some e = absurd (true≢false (sym (tells.self Waiting) ∙ ap (is_place Waiting) e))

            lent : (l : Bool) → is_lent stowed ≡ l → cond l None (Some (cond (is_owned N0 stowed) (Held stowed.node.slot) Waiting)) ≡ Some (Held key.slot) →
                resource_ring N4 stowed ≡ Some Waiting
            lent true is e = absurd (true≢false (ap is_some (sym e)))
            lent false is e = ap (λ l. cond l None (Some (cond (is_owned N4 stowed) (Held stowed.node.slot) Waiting))) is ∙
                ap (λ q. Some q) (of (is_some (find N0 stowed.node)) (not stowed.removed) refl
                (some_same (cond (is_owned N0 stowed) (Held stowed.node.slot) Waiting) (Held key.slot) e))

          ring_kept : (stowed : Stowed T) → resource_ring N0 stowed ≢ Some (Held key.slot) → resource_ring N4 stowed ≡ resource_ring N0 stowed
          ring_kept stowed other = elim (cases_key stowed.node key) [
            | inl same ↦ ap (λ o. cond (is_lent stowed) None (Some (cond (is_some o && not stowed.removed) (Held stowed.node.slot) Waiting)))
                (gone_node stowed.node same) ∙ of (is_lent stowed) refl (is_owned N0 stowed) refl (ap (λ k. Held k.slot) same)
            | inr apart ↦ ap (λ o. cond (is_lent stowed) None (Some (cond (is_some o && not stowed.removed) (Held stowed.node.slot) Waiting)))
                (taken.kept stowed.node apart)
          ] where
            of : (l : Bool) → is_lent stowed ≡ l → (b : Bool) → is_owned N0 stowed ≡ b → Held stowed.node.slot ≡ Held key.slot →
                cond (is_lent stowed) None (Some Waiting) ≡ cond (is_lent stowed) None (Some (cond (is_owned N0 stowed) (Held stowed.node.slot) Waiting))
            of true is b e same = (λ i. cond (is i) None (Some Waiting)) ∙ sym (λ i. cond (is i) None
                (Some (cond (is_owned N0 stowed) (Held stowed.node.slot) Waiting)))
            of false is true e same = absurd (other ((λ i. cond (is i) None (Some (cond (e i) (Held stowed.node.slot) Waiting))) ∙ ap (λ q. Some q) same))
            of false is false e same = sym (ap (λ b. cond (is_lent stowed) None (Some (cond b (Held stowed.node.slot) Waiting))) e)

          abbrev h4 : Place → Option Place
          h4 = home_of N4 K0 W.tied.noted

          stored_waits : (r : ℕ) → h0 (Stored r) ≡ Some (Held key.slot) → h4 (Stored r) ≡ Some Waiting
          stored_waits r at = of (entry_at K0 r) at where
            of : (o : Option (Entry (Stowed T))) → option_and_then (λ e. resource_ring N0 e.value) o ≡ Some (Held key.slot) →
                option_and_then (λ e. resource_ring N4 e.value) o ≡ Some Waiting
            of None at = absurd (true≢false (ap is_some (sym at)))
            of (Some e) at = waits_now e.value at

          stored_stays : (r : ℕ) → h0 (Stored r) ≢ Some (Held key.slot) → h4 (Stored r) ≡ h0 (Stored r)
          stored_stays r other = of (entry_at K0 r) other where
            of : (o : Option (Entry (Stowed T))) → (option_and_then (λ e. resource_ring N0 e.value) o ≢ Some (Held key.slot)) →
                option_and_then (λ e. resource_ring N4 e.value) o ≡ option_and_then (λ e. resource_ring N0 e.value) o
            of None other = refl
            of (Some e) other = ring_kept e.value other

          elsewhere : {Z : Type 0} (f : Option (Entry Node) → Z) (j : ℕ) → key.slot ≢ j → f (entry_at N4 j) ≡ f (entry_at N0 j)
          elsewhere f j apart = ap f (taken.changes.others j (λ e. apart (sym e)))

          homes_stay : HomesStay (λ q. (Sibling key.slot ≢ q) × (Noted key.slot ≢ q) × (is_among places q (W.tied.rings (Held key.slot)) ≡ false)) N0 N4 K0 K0
              W.tied.noted W.tied.noted
          homes_stay = record {
            sibling = λ j c. elsewhere (option_and_then (λ e. sibling_ring e.value)) j (λ s. c.0 (ap (λ k. Sibling k) s));
            note = λ j c. elsewhere (λ o. W.tied.noted j && is_some o) j (λ s. c.1 (ap (λ k. Noted k) s));
            stored = λ r c. stored_stays r (λ at. true≢false (sym (W.tied.ringed.listed (Held key.slot) (Stored r) at) ∙ c.2));
          }

          homes_rest : (q : Place) → Sibling key.slot ≢ q → Noted key.slot ≢ q → h4 q ≡ h1 q
          homes_rest q a b = of (is_among places q (W.tied.rings (Held key.slot))) refl where
            of : (t : Bool) → is_among places q (W.tied.rings (Held key.slot)) ≡ t → h4 q ≡ cond t (Some Waiting) (h0 q)
            of true i =
                let at = W.tied.ringed.members (Held key.slot) q i in
                let is = held_is N0 K0 W.tied.noted key.slot q at in ap h4 is ∙ stored_waits (slot_of q) (ap h0 (sym is) ∙ at)
            of false i = home_by homes_stay q (a, b, i)

          and_none : (b : Bool) → cond (b && false) (Some Due) None ≡ None
          and_none true = refl
          and_none false = refl

          homes : (q : Place) → h4 q ≡ h3 q
          homes q = elim (cases_place tells (Sibling key.slot) q) [
            | inl same ↦ subst (λ z. h4 z ≡ h3 z) same
                (ap (option_and_then (λ e. sibling_ring e.value)) taken.changes.changed ∙ sym (lone_here h2 (Sibling key.slot)))
            | inr a ↦ elim (cases_place tells (Noted key.slot) q) [
              | inl same ↦ subst (λ z. h4 z ≡ h3 z) same
                  (ap (λ o. cond (W.tied.noted key.slot && is_some o) (Some Due) None) taken.changes.changed ∙ and_none (W.tied.noted key.slot) ∙
                  sym noted_home)
              | inr b ↦ homes_rest q a b ∙ sym (lone_other h2 (Sibling key.slot) q a ∙ lone_other h1 (Noted key.slot) q b)
            ]
          ]

          was_found : (k : Key) (n : Node) → find N4 k ≡ Some n → find N0 k ≡ Some n
          was_found k n at = elim (cases_key k key) [
            | inl same ↦ absurd (none_not_some (find N4 k) (gone_node k same) (ap is_some at))
            | inr apart ↦ sym (taken.kept k apart) ∙ at
          ]

          was_some : (k : Key) → IsSome (find N4 k) → IsSome (find N0 k)
          was_some k some = let x = some_of (find N4 k) some in ap is_some (was_found k x.0 x.1)

          sound4 : IsSound N4
          sound4 = record {
            apart = λ a b found_a found_b numbers. W.tied.sound.apart a b (was_some a found_a) (was_some b found_b) numbers;
            placed = λ k n at.
                let was = was_found k n at in
                let placed = W.tied.sound.placed k n was in
                record {
                  makes = placed.makes;
                  named = placed.named;
                  lower = placed.lower;
                  there = IfSome-same (λ p. IsSome (find N0 p)) (λ p. IsSome (find N4 p)) n.above (λ p above some. ap is_some (taken.kept p
                      (λ same. no_above N0 K0 (next_of s0) (previous_of s0) W.tied key childless k n was (above ∙ ap (λ z. Some z) same))) ∙ some) placed.there;
                };
          }

          rises4 : (e : Place) → is_by_age e ≡ true → Rises N4 (rings3 e)
          rises4 e age =
              let a : Held key.slot ≢ e = λ s. false≢true (ap is_by_age s ∙ age) in
              let b : Waiting ≢ e = λ s. false≢true (ap is_by_age s ∙ age) in
              subst (λ ps. Rises N4 (without places (Sibling key.slot) (without places (Noted key.slot) ps))) (sym (W.others e a b))
              (rises_same N0 N4 (without places (Sibling key.slot) (without places (Noted key.slot) (W.tied.rings e))) (λ q i. number q i)
              (rises_without N0 (Sibling key.slot) (without places (Noted key.slot) (W.tied.rings e))
              (rises_without N0 (Noted key.slot) (W.tied.rings e) (W.tied.rises e age)))) where
                number : (q : Place) → is_among places q (without places (Sibling key.slot) (without places (Noted key.slot) (W.tied.rings e))) ≡ true →
                    (key_on N4 q).number ≡ (key_on N0 q).number
                number q i =
                    let outer = among_without tells (Sibling key.slot) q (without places (Noted key.slot) (W.tied.rings e)) i in
                    let inner = among_without tells (Noted key.slot) q (W.tied.rings e) outer.0 in
                    let at = aged N0 K0 W.tied.noted q e (W.tied.ringed.members e q inner.0) age in
                    elsewhere (λ o. option_map_or (λ m. m) (option_map (λ x. x.number) o) 0) (slot_of q)
                    (λ s. outer.1 (ap (λ k. Sibling k) (s ∙ ap slot_of at.is) ∙ sym at.is))

          abbrev tied4 : IsTiedAt (next_of s4) (previous_of s4) N4 K0
          tied4 = tied_links p3 (next_of s4) (previous_of s4) N4 K0
              (wrote_next (link_at s3) (link_at s4) (Sibling key.slot) (alone (Sibling key.slot)) links (Sibling key.slot) refl)
              (wrote_previous (link_at s3) (link_at s4) (Sibling key.slot) (alone (Sibling key.slot)) links (Sibling key.slot) refl) (record {
                rings = rings3;
                noted = W.tied.noted;
                ringed = rings_same n3 p3 h3 h4 rings3 ringed3 homes;
                rises = rises4;
                sound = sound4;
                resources_apart = W.tied.resources_apart;
              })

          pub leaf_tied : IsTied s4
          leaf_tied = retie s4 N4 K0 refl resources_kept tied4

          -- the keys of the chain that find a node
          noted_key : (x : Place) → is_some (entry_at N4 (slot_of x)) ≡ true → is_some (find N4 (key_on N4 x)) ≡ true
          noted_key x there = of (entry_at N4 (slot_of x)) there where
            of : (o : Option (Entry Node)) → is_some o ≡ true → is_some (with_number (option_map_or (λ n. n) (option_map (λ e. e.number) o) 0) o) ≡ true
            of None there = absurd (false≢true there)
            of (Some e) there = ap is_some (with_number-same e.number e refl)

          chain_of : (ps : List Place) → ((q : Place) → is_among places q ps ≡ true → (q ≡ Noted (slot_of q)) × (is_some (entry_at N0 (slot_of q)) ≡ true)) →
              map (key_on N4) (without places (Noted key.slot) ps) ≡ filter (λ k. is_some (find N4 k)) (map (key_on N0) ps)
          chain_of [] all = refl
          chain_of (x ∷ ps) all = of (chain_of ps (λ q i. all q (among_there tells q x ps i))) (cases_place tells (Noted key.slot) x) where
            of : map (key_on N4) (without places (Noted key.slot) ps) ≡ filter (λ k. is_some (find N4 k)) (map (key_on N0) ps) →
                (Noted key.slot ≡ x) ⊎ (Noted key.slot ≢ x) → map (key_on N4)
                (cond (not (is_place (Noted key.slot) x)) (x ∷ without places (Noted key.slot) ps) (without places (Noted key.slot) ps)) ≡ cond
                (is_some (find N4 (key_on N0 x))) (key_on N0 x ∷ filter (λ k. is_some (find N4 k)) (map (key_on N0) ps))
                (filter (λ k. is_some (find N4 k)) (map (key_on N0) ps))
            of again (inl same) =
                let none : is_some (find N4 (key_on N0 x)) ≡ false =
                ap (λ o. is_some (with_number (key_on N0 x).number o)) (ap (entry_at N4) (sym (ap slot_of same)) ∙ taken.changes.changed) in
                ap (λ b. map (key_on N4) (cond (not b) (x ∷ without places (Noted key.slot) ps) (without places (Noted key.slot) ps)))
                (subst (λ z. is_place (Noted key.slot) z ≡ true) same (tells.self (Noted key.slot))) ∙ again ∙
                sym (ap (λ b. cond b (key_on N0 x ∷ filter (λ k. is_some (find N4 k)) (map (key_on N0) ps))
                (filter (λ k. is_some (find N4 k)) (map (key_on N0) ps))) none)
            of again (inr apart) =
                let at = all x (among_here tells x ps) in
                let slots : key.slot ≢ slot_of x = λ s. apart (ap (λ k. Noted k) s ∙ sym at.0) in
                let keys : key_on N4 x ≡ key_on N0 x =
                same_key (key_on N4 x) (key_on N0 x) refl (elsewhere (λ o. option_map_or (λ m. m) (option_map (λ e. e.number) o) 0) (slot_of x) slots) in
                let there : is_some (find N4 (key_on N0 x)) ≡ true =
                ap (λ k. is_some (find N4 k)) (sym keys) ∙ noted_key x (elsewhere is_some (slot_of x) slots ∙ at.1) in
                ap (λ b. map (key_on N4) (cond (not b) (x ∷ without places (Noted key.slot) ps) (without places (Noted key.slot) ps)))
                (place_apart tells (Noted key.slot) x apart) ∙ (λ i. keys i ∷ again i) ∙
                sym (ap (λ b. cond b (key_on N0 x ∷ filter (λ k. is_some (find N4 k)) (map (key_on N0) ps))
                (filter (λ k. is_some (find N4 k)) (map (key_on N0) ps))) there)

          noted_all : (q : Place) → is_among places q (W.tied.rings Due) ≡ true → (q ≡ Noted (slot_of q)) × (is_some (entry_at N0 (slot_of q)) ≡ true)
          noted_all q i =
              let home = W.tied.ringed.members Due q i in
              let is = due_is N0 K0 W.tied.noted q home in
              (is, subst (λ z. stands N0 K0 z ≡ true) is (home_stands N0 K0 W.tied.noted q Due home))

          no_sibling : is_among places (Sibling key.slot) (without places (Noted key.slot) (W.tied.rings Due)) ≡ false
          no_sibling = false_from_ne_true (is_among places (Sibling key.slot) (without places (Noted key.slot) (W.tied.rings Due)))
              (λ i. true≢false (sym (tells.self (Sibling key.slot)) ∙ ap (is_place (Sibling key.slot))
              (noted_all (Sibling key.slot) (among_without tells (Noted key.slot) (Sibling key.slot) (W.tied.rings Due) i).0).0))

          due4 : rings3 Due ≡ without places (Noted key.slot) (W.tied.rings Due)
          due4 =
              let a : Held key.slot ≢ Due = λ s. true≢false (sym (tells.self (Held key.slot)) ∙ ap (is_place (Held key.slot)) s) in
              let b : Waiting ≢ Due = λ s. true≢false (sym (tells.self Waiting) ∙ ap (is_place Waiting) s) in
              ap (λ ps. without places (Sibling key.slot) (without places (Noted key.slot) ps)) (W.others Due a b) ∙
              without_none tells (Sibling key.slot) (without places (Noted key.slot) (W.tied.rings Due)) no_sibling

          pub leaf_chain : (shown s4).chain ≡ still_open N4 (shown s0).chain
          leaf_chain = chain_is s4 N4 K0 refl tied4 ∙ ap (map (key_on N4)) due4 ∙ chain_of (W.tied.rings Due) noted_all ∙
              ap (still_open N4) (sym (chain_is s0 N0 K0 refl W.tied))
