-- What is left of a tree when a resource leaves its ring, is written anew, and joins the ring where it then belongs.
use Rattle.rx_tree.proofs.Common.{◌≡◌, ◌∷◌, [], ◌++◌, cond, map, Bool, true, false, Option, Some, None, is_some, refl, sym, ap, subst, ◌∙◌, inl, inr, Key}
use Rattle.rx_tree.proofs.Common.{true≢false, option_map_or, option_and_then, cases_eq, false≢true, false_from_ne_true, entry_of, entry_at, find, Changes}
use Rattle.rx_tree.proofs.Common.{Place, Roots, Due, Waiting, Children, Held, Sibling, Noted, Stored, Stowed, Store, is_among, without, Joins, Leaves, places}
use Rattle.rx_tree.proofs.Common.{is_place, tells, without_none, leaves_nothing, is_owned, is_lent, key_on, nodes_of, resources_of, next_of, previous_of}
use Rattle.rx_tree.proofs.Common.{stands, is_there, KeepsLinks, Relinks, shown, resource_ring, IsTiedAt, IsTied, entry_found, found_entry}
use Rattle.rx_tree.proofs.Chain.{chain_is, retie}
use Rattle.rx_tree.proofs.There.{previous_stands, next_stands, ring_stands}
use Rattle.rx_tree.proofs.TieResources.{ring_ends, tied_off, tied_on}
use Rattle.rx_tree.proofs.TieSteps.{tied_links}
use Rattle.std.proofs.Common.{rules}

-- a store has the records and the counts that it has
pub relinks_same : {T : Type 0} (s : Store T) → Relinks s s
relinks_same s = search rules

module _ {T : Type 0} (s : Store T) (key : Key) (tied : IsTied s) (stowed : Stowed T) (found : find (resources_of s) key ≡ Some stowed) where
  pub stored_stands : stands (nodes_of s) (resources_of s) (Stored key.slot) ≡ true
  stored_stands = ap is_some (entry_found (resources_of s) key stowed found)

  pub stored_before : stands (nodes_of s) (resources_of s) (previous_of s (Stored key.slot)) ≡ true
  stored_before = previous_stands (nodes_of s) (resources_of s) (next_of s) (previous_of s) tied (Stored key.slot) stored_stands

  pub stored_after : stands (nodes_of s) (resources_of s) (next_of s (Stored key.slot)) ≡ true
  stored_after = next_stands (nodes_of s) (resources_of s) (next_of s) (previous_of s) tied (Stored key.slot) stored_stands

  -- one of which a lease is out is on no ring that it could leave
  pub lent_stays : is_lent stowed ≡ true → Leaves places (next_of s) (previous_of s) (next_of s) (previous_of s) (Stored key.slot)
  lent_stays lent =
      let none : option_and_then (λ e. resource_ring (nodes_of s) e.value) (entry_at (resources_of s) key.slot) ≡ None =
      ap (option_and_then (λ e. resource_ring (nodes_of s) e.value)) (entry_found (resources_of s) key stowed found) ∙
      ap (λ l. cond l None (Some (cond (is_owned (nodes_of s) stowed) (Held stowed.node.slot) Waiting))) lent in
      let alone = tied.ringed.loose (Stored key.slot) refl none in
      leaves_nothing tells (next_of s) (previous_of s) (Stored key.slot) alone.to alone.back

  -- it is not on the chain of what may be due
  not_due : is_among places (Stored key.slot) (tied.rings Due) ≡ false
  not_due = search (rules, false_from_ne_true, true≢false, ring_ends, nodes_of, resources_of, resource_ring, entry_found)

-- what passes a test is there
pub found_where : {T : Type 0} (test : Stowed T → Bool) (o : Option (Stowed T)) → option_map_or test o false ≡ true →
    (stowed : Stowed T) × (o ≡ Some stowed) × (test stowed ≡ true)
found_where test None passes = absurd (false≢true passes)
found_where test (Some stowed) passes = (stowed, refl, passes)

-- a resource is written anew, and is on no ring: it left its own between the two stores
pub record Moved {T : Type 0} (s m : Store T) (key : Key) (write : Stowed T → Stowed T) : Type 0 where
  pub tied : IsTied s
  pub stowed : Stowed T
  pub at : find (resources_of s) key ≡ Some stowed
  pub between : Store T
  pub leaves : Leaves places (next_of s) (previous_of s) (next_of between) (previous_of between) (Stored key.slot)
  pub change : Changes (resources_of s) (resources_of m) key.slot (Some (entry_of key.number (write stowed)))
  pub links : KeepsLinks between m
  pub nodes : nodes_of m ≡ nodes_of s

-- so is one that passes a test
pub moved_where : {T : Type 0} (s l m : Store T) (key : Key) (write : Stowed T → Stowed T) (test : Stowed T → Bool) →
    option_map_or test (find (resources_of s) key) false ≡ true → IsTied s → ((stowed : Stowed T) → find (resources_of s) key ≡ Some stowed →
    test stowed ≡ true → Leaves places (next_of s) (previous_of s) (next_of l) (previous_of l) (Stored key.slot)) → Relinks s l →
    ((stowed : Stowed T) → find (resources_of l) key ≡ Some stowed → Changes (resources_of l) (resources_of m) key.slot
    (Some (entry_of key.number (write stowed)))) → KeepsLinks l m → nodes_of m ≡ nodes_of l → Moved s m key write
moved_where s l m key write test passes tied leaves relinks changes links rest =
    let h = found_where test (find (resources_of s) key) passes in
    record {
      tied = tied;
      stowed = h.0;
      at = h.1;
      between = l;
      leaves = leaves h.0 h.1 h.2;
      change = subst (λ r. Changes r (resources_of m) key.slot (Some (entry_of key.number (write h.0)))) relinks.resources
          (changes h.0 (subst (λ r. find r key ≡ Some h.0) (sym relinks.resources) h.1));
      links = links;
      nodes = rest ∙ relinks.nodes;
    }

module _ {T : Type 0} {s m : Store T} {key : Key} {write : Stowed T → Stowed T} (w : Moved s m key write) where
  -- the ring that the store tells for it is its own
  pub belongs : {o : Option Place} → option_and_then (resource_ring (nodes_of m)) (find (resources_of m) key) ≡ o →
      resource_ring (nodes_of s) (write w.stowed) ≡ o
  belongs told = ap (λ n. resource_ring n (write w.stowed)) (sym w.nodes) ∙
      sym (ap (option_and_then (resource_ring (nodes_of m))) (found_entry (resources_of m) key (write w.stowed) w.change.changed)) ∙ told

  stands_still : (q : Place) → stands (nodes_of s) (resources_of s) q ≡ true → is_there m q ≡ true
  stands_still q at = ap (λ n. stands n (resources_of m) q) w.nodes ∙ by q at where
    by : (q : Place) → stands (nodes_of s) (resources_of s) q ≡ true → stands (nodes_of s) (resources_of m) q ≡ true
    by Roots at = refl
    by Due at = refl
    by Waiting at = refl
    by (Children j) at = at
    by (Held j) at = at
    by (Sibling j) at = at
    by (Noted j) at = at
    by (Stored r) at = elim (cases_eq key.slot r) [
      | inl here ↦ subst (λ k. is_some (entry_at (resources_of m) k) ≡ true) here (ap is_some w.change.changed)
      | inr apart ↦ ap is_some (w.change.others r (λ e. apart (sym e))) ∙ at
    ]

  -- where it stood something still stands
  pub stored_there : is_there m (Stored key.slot) ≡ true
  stored_there = stands_still (Stored key.slot) (stored_stands s key w.tied w.stowed w.at)

  -- it belongs on no ring
  module _ (none : resource_ring (nodes_of s) (write w.stowed) ≡ None) where
    abbrev now_off : IsTiedAt (next_of m) (previous_of m) (nodes_of s) (resources_of m)
    now_off = tied_links (previous_of w.between) (next_of m) (previous_of m) (nodes_of s) (resources_of m) (λ q. ap (λ k. k.next) (w.links q))
        (λ q. ap (λ k. k.previous) (w.links q)) (tied_off (nodes_of s) (resources_of s) (resources_of m) (next_of s) (previous_of s) (next_of w.between)
        (previous_of w.between) w.tied key w.stowed (write w.stowed) w.at w.change w.leaves none)

    pub off_tied : IsTied m
    off_tied = retie m (nodes_of s) (resources_of m) w.nodes refl now_off

    pub off_chain : (shown m).chain ≡ (shown s).chain
    off_chain = chain_is m (nodes_of s) (resources_of m) w.nodes now_off ∙ ap (map (key_on (nodes_of s)))
        (without_none tells (Stored key.slot) (w.tied.rings Due) (not_due s key w.tied w.stowed w.at)) ∙
        sym (chain_is s (nodes_of s) (resources_of s) refl w.tied)

  -- it belongs on this one
  module _ (e : Place) (ring : resource_ring (nodes_of s) (write w.stowed) ≡ Some e) where
    on_stands : stands (nodes_of s) (resources_of s) e ≡ true
    on_stands = ring_stands (nodes_of s) (resources_of s) (write w.stowed) e ring

    pub ring_there : is_there m e ≡ true
    ring_there = stands_still e on_stands

    -- what was last on it still stands somewhere
    pub last_there : is_there m (previous_of m e) ≡ true
    last_there = ap (is_there m) (ap (λ k. k.previous) (w.links e) ∙ w.leaves.back e) ∙
        of (is_place (Stored key.slot) e) (is_place (next_of s (Stored key.slot)) e)
      where
        of : (a b : Bool) → is_there m (cond a (Stored key.slot) (cond b (previous_of s (Stored key.slot)) (previous_of s e))) ≡ true
        of true b = stored_there
        of false true = stands_still (previous_of s (Stored key.slot)) (stored_before s key w.tied w.stowed w.at)
        of false false = stands_still (previous_of s e) (previous_stands (nodes_of s) (resources_of s) (next_of s) (previous_of s) w.tied e on_stands)

    -- and joins it
    module _ (t : Store T) (joins : Joins places (next_of m) (previous_of m) (next_of t) (previous_of t) e (Stored key.slot)) (relinked : Relinks m t) where
      joins_l : Joins places (next_of w.between) (previous_of w.between) (next_of t) (previous_of t) e (Stored key.slot)
      joins_l =
          let n : next_of m ≡ next_of w.between = (λ i q. (w.links q i).next) in
          let p : previous_of m ≡ previous_of w.between = (λ i q. (w.links q i).previous) in
          subst (λ f. Joins places f (previous_of w.between) (next_of t) (previous_of t) e (Stored key.slot)) n
          (subst (λ f. Joins places (next_of m) f (next_of t) (previous_of t) e (Stored key.slot)) p joins)

      abbrev now_on : IsTiedAt (next_of t) (previous_of t) (nodes_of s) (resources_of m)
      now_on = tied_on (nodes_of s) (resources_of s) (resources_of m) (next_of s) (previous_of s) (next_of w.between) (previous_of w.between) w.tied
          key w.stowed (write w.stowed) w.at w.change w.leaves (next_of t) (previous_of t) e ring joins_l

      pub on_tied : IsTied t
      on_tied = retie t (nodes_of s) (resources_of m) (relinked.nodes ∙ w.nodes) relinked.resources now_on

      pub on_chain : (shown t).chain ≡ (shown s).chain
      on_chain = chain_is t (nodes_of s) (resources_of m) (relinked.nodes ∙ w.nodes) now_on ∙
          ap (map (key_on (nodes_of s))) (ap (λ b. cond b (without places (Stored key.slot) (w.tied.rings e) ++ Stored key.slot ∷ [])
          (without places (Stored key.slot) (w.tied.rings Due))) (ring_ends (nodes_of s) (resources_of s) (resources_of m) (write w.stowed) e ring).2 ∙
          without_none tells (Stored key.slot) (w.tied.rings Due) (not_due s key w.tied w.stowed w.at)) ∙
          sym (chain_is s (nodes_of s) (resources_of s) refl w.tied)
