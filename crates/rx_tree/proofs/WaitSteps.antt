-- What the ring of those that wait tells, and what a taking leaves of a tree.
use Rattle.rx_tree.proofs.Common.{◌≡◌, ◌≢◌, ℕ, cond, map, Bool, true, false, List, [], ◌∷◌, Option, Some, None, option_map, is_some, IsTrue, refl, sym}
use Rattle.rx_tree.proofs.Common.{ap, subst, ◌∙◌, true≢false, option_map_or, option_and_then, false≢true, false_from_ne_true, Entry, Key, Slots, Due}
use Rattle.rx_tree.proofs.Common.{entry_at, key_at, find, Place, Waiting, Held, Stored, Node, Stowed, Store, is_owned, Takes}
use Rattle.rx_tree.proofs.Common.{is_lent, is_held, is_among, set_step, Leads, Leaves, is_place, is_end, slot_of, places, tells, among_here, without_none}
use Rattle.rx_tree.proofs.Common.{set_same, first_among, some_same, alone, link_at, key_on, nodes_of, resources_of, next_of, previous_of, KeepsLinks, Relinks}
use Rattle.rx_tree.proofs.Common.{Takes_out, shown, home_of, resource_ring, IsTiedAt, IsTied, entry_found, found_entry}
use Rattle.std.proofs.Math.Bool.{◌||◌}
use Rattle.rx_tree.proofs.Chain.{chain_is, retie}
use Rattle.rx_tree.proofs.TieRecords.{home_stands}
use Rattle.rx_tree.proofs.TieResources.{tied_taken}
use Rattle.rx_tree.proofs.TieSteps.{tied_links}
use Rattle.std.proofs.Common.{rules}

module _ {T : Type 0} where
  -- a place that waits is that of a resource
  pub waits_is : (nodes : Slots Node) (resources : Slots (Stowed T)) (noted : ℕ → Bool) (q : Place) →
      home_of nodes resources noted q ≡ Some Waiting → q ≡ Stored (slot_of q)
  waits_is nodes resources noted x3 at = search (rules, true≢false, some_same)

-- the key of a place that waits, and what it finds
pub record IsWaiting {T : Type 0} (s : Store T) (slot : ℕ) (key : Key) : Type 0 where
  pub stowed : Stowed T
  pub found : find (resources_of s) key ≡ Some stowed
  pub slot_is : key.slot ≡ slot
  pub waits : is_held (nodes_of s) stowed ≡ false

module _ {T : Type 0} (s : Store T) (tied : IsTied s) where
  wait_home : (key : Key) (stowed : Stowed T) → find (resources_of s) key ≡ Some stowed → is_held (nodes_of s) stowed ≡ false → home_of (nodes_of s)
      (resources_of s) tied.noted (Stored key.slot) ≡ Some Waiting
  wait_home key stowed found off = search (rules, resource_ring, nodes_of, entry_found, resources_of, stowed, found, is_lent, true≢false)

  waiting_all : (q : Place) → is_among places q (tied.rings Waiting) ≡ true → q ≡ Stored (slot_of q)
  waiting_all q i = waits_is (nodes_of s) (resources_of s) tied.noted q (tied.ringed.members Waiting q i)

  none_is : (ps : List Place) → Leads (next_of s) (previous_of s) Waiting ps Waiting → ((q : Place) → is_among places q ps ≡ true → q ≡ Stored
      (slot_of q)) → ((slot : ℕ) → next_of s Waiting ≢ Stored slot) → ps ≡ []
  none_is [] h all none = refl
  none_is (x ∷ ps) h all none = absurd (none (slot_of x) (h.0.to ∙ all x (among_here tells x ps)))

  -- where the links show no resource that waits, each is held
  pub all_held : ((slot : ℕ) → next_of s Waiting ≢ Stored slot) → (key : Key) (stowed : Stowed T) → find (resources_of s) key ≡ Some stowed → IsTrue
      (is_held (nodes_of s) stowed)
  all_held none key stowed found = of (is_held (nodes_of s) stowed) refl where
    of : (b : Bool) → is_held (nodes_of s) stowed ≡ b → b ≡ true
    of true e = refl
    of false e = absurd (false≢true (sym (ap (is_among places (Stored key.slot)) (none_is (tied.rings Waiting)
        (tied.ringed.leads Waiting refl) waiting_all none)) ∙ tied.ringed.listed Waiting (Stored key.slot) (wait_home key stowed found e)))

  module _ (slot : ℕ) (at : next_of s Waiting ≡ Stored slot) where
    first_home : home_of (nodes_of s) (resources_of s) tied.noted (Stored slot) ≡ Some Waiting
    first_home = tied.ringed.members Waiting (Stored slot) (subst (λ z. is_among places z (tied.rings Waiting) ≡ true) at (first_among tells (next_of s)
        (previous_of s) Waiting (tied.rings Waiting) Waiting (tied.ringed.leads Waiting refl) (λ e. false≢true (ap is_end (sym at ∙ e)))))

    -- a resource stands where the links show one that waits
    pub first_there : is_some (entry_at (resources_of s) slot) ≡ true
    first_there = home_stands (nodes_of s) (resources_of s) tied.noted (Stored slot) Waiting first_home

    pub first_waits : (key : Key) → key_at (resources_of s) slot ≡ Some key → IsWaiting s slot key
    first_waits key key_is = of (entry_at (resources_of s) slot) refl first_home key_is where
      waits : (l b : Bool) (j : ℕ) → cond l None (Some (cond b (Held j) Waiting)) ≡ Some Waiting → (b || l) ≡ false
      waits true b j e = absurd (true≢false (ap is_some (sym e)))
      waits false true j e = absurd (true≢false (sym (tells.self (Held j)) ∙ ap (is_place (Held j)) (some_same (Held j) Waiting e)))
      waits false false j e = refl

      of : (o : Option (Entry (Stowed T))) → entry_at (resources_of s) slot ≡ o → option_and_then (λ e. resource_ring
          (nodes_of s) e.value) o ≡ Some Waiting → option_map (λ e. record { slot = slot; number = e.number }) o ≡ Some key → IsWaiting s slot key
      of None read home k = absurd (true≢false (ap is_some (sym home)))
      of (Some e) read home k =
          let here : Key = record { slot = slot; number = e.number } in
          let same : here ≡ key = cc in
          record {
            stowed = e.value;
            found = subst (λ z. find (resources_of s) z ≡ Some e.value) same (found_entry (resources_of s) here e.value read);
            slot_is = ap (λ z. z.slot) (sym same);
            waits = waits (is_lent e.value) (is_owned (nodes_of s) e.value) e.value.node.slot home;
          }

  pub waits_of : (slot : ℕ) (key : Key) → IsWaiting s slot key → (stowed : Stowed T) → find (resources_of s) key ≡ Some stowed → is_held
      (nodes_of s) stowed ≡ false
  waits_of slot key w stowed found = ap (λ o. option_map_or (is_held (nodes_of s)) o false) (sym found ∙ w.found) ∙ w.waits

  -- a resource that waits left its ring and is taken out
  module _ (key : Key) (stowed : Stowed T) (found : find (resources_of s) key ≡ Some stowed) (waits : is_held (nodes_of s) stowed ≡ false)
      (l : Store T) (leaves : Leaves places (next_of s) (previous_of s) (next_of l) (previous_of l) (Stored key.slot)) (relinks : Relinks s l) where
    pub left_alone : link_at l (Stored key.slot) ≡ alone (Stored key.slot)
    left_alone =
        let next : next_of l (Stored key.slot) ≡ Stored key.slot = leaves.to (Stored key.slot) ∙ set_same tells (Stored key.slot) (Stored key.slot)
        (set_step places (previous_of s (Stored key.slot)) (next_of s (Stored key.slot)) (next_of s)) in
        let previous : previous_of l (Stored key.slot) ≡ Stored key.slot = leaves.back (Stored key.slot) ∙ set_same tells (Stored key.slot)
        (Stored key.slot) (set_step places (next_of s (Stored key.slot)) (previous_of s (Stored key.slot)) (previous_of s)) in
        λ i. record { next = next i; previous = previous i }

    module _ (t : Store T) (taken : Takes_out (resources_of l) (resources_of t) key) (links : KeepsLinks l t) (rest : nodes_of t ≡ nodes_of l) where
      pub taken_s : Takes_out (resources_of s) (resources_of t) key
      taken_s = subst (λ r. Takes_out r (resources_of t) key) relinks.resources taken

      abbrev now_taken : IsTiedAt (next_of t) (previous_of t) (nodes_of s) (resources_of t)
      now_taken = tied_links (previous_of l) (next_of t) (previous_of t) (nodes_of s) (resources_of t) (λ q. ap (λ k. k.next) (links q))
          (λ q. ap (λ k. k.previous) (links q)) (tied_taken (nodes_of s) (resources_of s) (resources_of t) (next_of s) (previous_of s) (next_of l)
          (previous_of l) tied key taken_s leaves)

      pub taken_tied : IsTied t
      taken_tied = retie t (nodes_of s) (resources_of t) (rest ∙ relinks.nodes) refl now_taken

      not_due : is_among places (Stored key.slot) (tied.rings Due) ≡ false
      not_due = false_from_ne_true (is_among places (Stored key.slot) (tied.rings Due)) (λ i. true≢false (sym (tells.self Waiting) ∙ ap (is_place Waiting)
          (some_same Waiting Due (sym (wait_home key stowed found waits) ∙ tied.ringed.members Due (Stored key.slot) i))))

      pub taken_chain : (shown t).chain ≡ (shown s).chain
      taken_chain = chain_is t (nodes_of s) (resources_of t) (rest ∙ relinks.nodes) now_taken ∙ ap (map (key_on (nodes_of s))) (without_none tells
          (Stored key.slot) (tied.rings Due) not_due) ∙ sym (chain_is s (nodes_of s) (resources_of s) refl tied)

      pub takes : Takes (shown s) (shown t) key.number stowed.resource
      takes = record {
        key = key;
        stowed = stowed;
        found = found;
        numbered = refl;
        handed = refl;
        waited = waits;
        gone = taken_s.gone;
        others = taken_s.kept;
        count = taken_s.count;
        room = taken_s.room;
      }
