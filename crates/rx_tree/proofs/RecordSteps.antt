-- What calls that add records leave of a tree.
use Rattle.rx_tree.proofs.Common.{◌≡◌, ℕ, ◌<◌, cond, map, true, false, List, [], ◌∷◌, ◌++◌, get_or, Some, None, option_map, is_some, ap}
use Rattle.rx_tree.proofs.Common.{refl, sym, subst, ◌∙◌, true≢false, option_map_or, option_and_then, false≢true, cases_eq, Key}
use Rattle.rx_tree.proofs.Common.{is_among, Joins, is_place, is_end, slot_of, places, tells, among_here, among_there, some_same, some_none, Slots, entry_at}
use Rattle.rx_tree.proofs.Common.{with_number, find, Place, Roots, Due, Waiting, Children, Held, Sibling, Noted, Stored, Node, Stowed, Record, Store, is_lent}
use Rattle.rx_tree.proofs.Common.{is_owned, on_entry, key_on, alone, is_there, nodes_of, resources_of, next_of, previous_of, link_at, stands, Inserts, shown}
use Rattle.rx_tree.proofs.Common.{KeepsLinks, Relinks, home_of, sibling_ring, resource_ring, IsTiedAt, IsTied, IsPast, IsPlaced, none_not_some}
use Rattle.rx_tree.specs.declared.store.Stored.{Stored as Kept}
use Rattle.rx_tree.proofs.Chain.{chain_is, retie, due_is}
use Rattle.rx_tree.proofs.StoreLemmas.{entry_at-project}
use Rattle.rx_tree.proofs.There.{slot_stands, previous_stands}
use Rattle.rx_tree.proofs.Sound.{IsSound-same}
use Rattle.rx_tree.proofs.TieRecords.{home_stands, opened_key, tied_opened_alone, tied_opened, tied_held}
use Rattle.rx_tree.proofs.TieSteps.{tied_links}
use Rattle.std.proofs.Common.{rules}

map_among : {Y : Type 0} (f g : Place → Y) (ps : List Place) → ((x : Place) → is_among places x ps ≡ true → f x ≡ g x) → map f ps ≡ map g ps
map_among f g [] same = refl
map_among f g (x ∷ ps) same = (λ i. same x (among_here tells x ps) i ∷ map_among f g ps (λ y j. same y (among_there tells y x ps j)) i)

pub ends_by_ring : (node : Node) (e : Place) → sibling_ring node ≡ Some e → (is_end e ≡ true) × (is_place e Due ≡ false)
ends_by_ring node e at = search (rules, some_same, true≢false)

module _ {T : Type 0} where
  chain_kept : (s t : Store T) (tied : IsTied s) {nodes : Slots Node} (resources : Slots (Stowed T)) (seen : nodes_of t ≡ nodes)
      (now : IsTiedAt (next_of t) (previous_of t) nodes resources) → now.rings Due ≡ tied.rings Due →
      ((x : Place) → is_some (entry_at (nodes_of s) (slot_of x)) ≡ true → key_on nodes x ≡ key_on (nodes_of s) x) → (shown t).chain ≡ (shown s).chain
  chain_kept s t tied {nodes} resources seen now same keys =
      chain_is t nodes resources seen now ∙ ap (map (key_on nodes)) same ∙ map_among (key_on nodes) (key_on (nodes_of s)) (tied.rings Due)
      (λ x i. let home = tied.ringed.members Due x i in keys x
      (subst (λ z. stands (nodes_of s) (resources_of s) z ≡ true) (due_is (nodes_of s) (resources_of s) tied.noted x home)
      (home_stands (nodes_of s) (resources_of s) tied.noted x Due home))) ∙ sym (chain_is s (nodes_of s) (resources_of s) refl tied)

  -- a node is opened
  module _ (s m : Store T) (key : Key) (number : ℕ) (node : Node) (tied : IsTied s) (came : Inserts (nodes_of s) (nodes_of m) key number node)
      (past : IsPast (nodes_of s) number) (homes : (k : Key) (stowed : Stowed T) → find (resources_of s) k ≡ Some stowed → stowed.node.number < number)
      (placed : IsPlaced (nodes_of s) number node.made node.above) (links : KeepsLinks s m) (rest : resources_of m ≡ resources_of s) where
    abbrev pub start : IsTiedAt (next_of m) (previous_of m) (nodes_of s) (resources_of s)
    start = tied_links (previous_of s) (next_of m) (previous_of m) (nodes_of s) (resources_of s) (λ q. ap (λ l. l.next) (links q))
        (λ q. ap (λ l. l.previous) (links q)) tied

    keys : (x : Place) → is_some (entry_at (nodes_of s) (slot_of x)) ≡ true → key_on (nodes_of m) x ≡ key_on (nodes_of s) x
    keys = opened_key (nodes_of s) (nodes_of m) (resources_of s) key number node came past homes placed

    module _ (none : sibling_ring node ≡ None) where
      abbrev pub opened_off : IsTiedAt (next_of m) (previous_of m) (nodes_of m) (resources_of s)
      opened_off = tied_opened_alone (nodes_of s) (nodes_of m) (resources_of s) key number node came past homes placed (next_of m) (previous_of m) start none

      pub opened_off_tied : IsTied m
      opened_off_tied = retie m (nodes_of m) (resources_of s) refl rest opened_off

      pub opened_off_chain : (shown m).chain ≡ (shown s).chain
      opened_off_chain = chain_kept s m tied (resources_of s) refl opened_off refl keys

    module _ (t : Store T) (e : Place) (ring : sibling_ring node ≡ Some e)
        (joins : Joins places (next_of m) (previous_of m) (next_of t) (previous_of t) e (Sibling key.slot)) (relinks : Relinks m t) where
      abbrev pub opened_on : IsTiedAt (next_of t) (previous_of t) (nodes_of m) (resources_of s)
      opened_on = tied_opened (nodes_of s) (nodes_of m) (resources_of s) key number node came past homes placed (previous_of m) (next_of t)
          (previous_of t) start e ring (ends_by_ring node e ring).0 joins

      pub opened_on_tied : IsTied t
      opened_on_tied = retie t (nodes_of m) (resources_of s) relinks.nodes (relinks.resources ∙ rest) opened_on

      pub opened_on_chain : (shown t).chain ≡ (shown s).chain
      opened_on_chain = chain_kept s t tied (resources_of s) relinks.nodes opened_on
          (ap (λ b. cond b (tied.rings e ++ Sibling key.slot ∷ []) (tied.rings Due)) (ends_by_ring node e ring).1) keys

  -- a resource comes to be held
  module _ (s m t : Store T) (key : Key) (number : ℕ) (stowed : Stowed T) (tied : IsTied s)
      (came : Inserts (resources_of s) (resources_of m) key number stowed) (past : IsPast (resources_of s) number)
      (owned : is_owned (nodes_of s) stowed ≡ true) (free : is_lent stowed ≡ false)
      (links : KeepsLinks s m) (rest : nodes_of m ≡ nodes_of s)
      (joins : Joins places (next_of m) (previous_of m) (next_of t) (previous_of t) (Held stowed.node.slot) (Stored key.slot)) (relinks : Relinks m t) where
    abbrev pub before : IsTiedAt (next_of m) (previous_of m) (nodes_of s) (resources_of s)
    before = tied_links (previous_of s) (next_of m) (previous_of m) (nodes_of s) (resources_of s) (λ q. ap (λ l. l.next) (links q))
        (λ q. ap (λ l. l.previous) (links q)) tied

    abbrev now_held : IsTiedAt (next_of t) (previous_of t) (nodes_of s) (resources_of m)
    now_held = tied_held (nodes_of s) (resources_of s) (resources_of m) key number stowed came past owned free (next_of m) (previous_of m) (next_of t)
        (previous_of t) before joins

    pub held_tied : IsTied t
    held_tied = retie t (nodes_of s) (resources_of m) (relinks.nodes ∙ rest) relinks.resources now_held

    pub held_chain : (shown t).chain ≡ (shown s).chain
    held_chain = chain_kept s t tied (resources_of m) (relinks.nodes ∙ rest) now_held refl (λ x there. refl)

  -- room changes nothing else
  pub room_nodes : (s : Store T) (m : Slots Record) → m ≡ record s.nodes { room = m.room } → IsTied s → IsTied (record s { nodes = m })
  room_nodes s m same tied = subst (λ (n : Slots Record). IsTied (record s { nodes = n })) (sym same) wider where
    other : Store T
    other = record s { nodes = record s.nodes { room = m.room } }

    wider : IsTied (record s { nodes = record s.nodes { room = m.room } })
    wider = record {
      rings = tied.rings;
      noted = tied.noted;
      ringed = tied.ringed;
      rises = tied.rises;
      sound = IsSound-same (nodes_of s) (nodes_of (record s { nodes = record s.nodes { room = m.room } })) (λ k. refl) tied.sound;
      resources_apart = tied.resources_apart;
    }

  pub room_resources : (s : Store T) (m : Slots (Kept T)) → m ≡ record s.resources { room = m.room } → IsTied s → IsTied (record s { resources = m })
  room_resources s m same tied = subst (λ (n : Slots (Kept T)). IsTied (record s { resources = n })) (sym same) wider where
    wider : IsTied (record s { resources = record s.resources { room = m.room } })
    wider = record {
      rings = tied.rings;
      noted = tied.noted;
      ringed = tied.ringed;
      rises = tied.rises;
      sound = tied.sound;
      resources_apart = tied.resources_apart;
    }

  -- what stood somewhere still stands there
  pub stands_opened : {nodes : Slots Node} (nodes' : Slots Node) (resources : Slots (Stowed T)) (key : Key) (number : ℕ) (node : Node) →
      Inserts nodes nodes' key number node → (q : Place) → stands nodes resources q ≡ true → stands nodes' resources q ≡ true
  stands_opened {nodes} nodes' resources key number node came q = search (rules, cases_eq, true≢false)

  pub stands_held : (nodes : Slots Node) {resources : Slots (Stowed T)} (resources' : Slots (Stowed T)) (key : Key) (number : ℕ) (stowed : Stowed T) →
      Inserts resources resources' key number stowed → (q : Place) → stands nodes resources q ≡ true → stands nodes resources' q ≡ true
  stands_held nodes {resources} resources' key number stowed came q = search (rules, cases_eq, true≢false)

  pub opened_last : (s m : Store T) {key : Key} {number : ℕ} {node : Node} → IsTied s → Inserts (nodes_of s) (nodes_of m) key number node → KeepsLinks s m →
      resources_of m ≡ resources_of s → (q : Place) → stands (nodes_of s) (resources_of s) q ≡ true → is_there m (previous_of m q) ≡ true
  opened_last s m {key} {number} {node} tied came links rest q there =
      let start = tied_links (previous_of s) (next_of m) (previous_of m) (nodes_of s) (resources_of s) (λ q. ap (λ l. l.next) (links q))
      (λ q. ap (λ l. l.previous) (links q)) tied in
      ap (λ r. stands (nodes_of m) r (previous_of m q)) rest ∙ stands_opened (nodes_of m) (resources_of s) key number node came (previous_of m q)
      (previous_stands (nodes_of s) (resources_of s) (next_of m) (previous_of m) start q there)

  pub held_last : (s m : Store T) {key : Key} {number : ℕ} {stowed : Stowed T} → IsTied s → Inserts (resources_of s) (resources_of m) key number stowed →
      KeepsLinks s m → nodes_of m ≡ nodes_of s → (q : Place) → stands (nodes_of s) (resources_of s) q ≡ true → is_there m (previous_of m q) ≡ true
  held_last s m {key} {number} {stowed} tied came links rest q there =
      let start = tied_links (previous_of s) (next_of m) (previous_of m) (nodes_of s) (resources_of s) (λ q. ap (λ l. l.next) (links q))
      (λ q. ap (λ l. l.previous) (links q)) tied in
      ap (λ n. stands n (resources_of m) (previous_of m q)) rest ∙ stands_held (nodes_of s) (resources_of m) key number stowed came
      (previous_of m q) (previous_stands (nodes_of s) (resources_of s) (next_of m) (previous_of m) start q there)

  -- the ring of a new node begins where something stands
  pub ring_stands : (nodes : Slots Node) (resources : Slots (Stowed T)) (number : ℕ) (node : Node) (e : Place) → IsPlaced nodes number node.made node.above →
      sibling_ring node ≡ Some e → stands nodes resources e ≡ true
  ring_stands nodes resources number node e placed at = search (rules, some_same, true≢false, slot_stands)

  -- a store with nothing in it
  module _ (s : Store T) (nodes : s.nodes.entries ≡ []) (resources : s.resources.entries ≡ []) (roots : s.roots ≡ alone Roots) (due : s.due ≡ alone Due)
      (waiting : s.waiting ≡ alone Waiting) where
    no_node : (j : ℕ) → entry_at (nodes_of s) j ≡ None
    no_node j = entry_at-project (λ l. l.node) s.nodes j ∙ ap (λ es. option_map (on_entry (λ l. l.node)) (get_or es j None)) nodes

    no_resource : (j : ℕ) → entry_at (resources_of s) j ≡ None
    no_resource j = entry_at-project (λ r. r.stowed) s.resources j ∙ ap (λ es. option_map (on_entry (λ r. r.stowed)) (get_or es j None)) resources

    empty_link : (q : Place) → link_at s q ≡ alone q
    empty_link Roots = roots
    empty_link Due = due
    empty_link Waiting = waiting
    empty_link (Children j) = ap (λ es. option_map_or (λ l. l.children) (option_map (λ e. e.value) (get_or es j None)) (alone (Children j))) nodes
    empty_link (Held j) = ap (λ es. option_map_or (λ l. l.held) (option_map (λ e. e.value) (get_or es j None)) (alone (Held j))) nodes
    empty_link (Sibling j) = ap (λ es. option_map_or (λ l. l.sibling) (option_map (λ e. e.value) (get_or es j None)) (alone (Sibling j))) nodes
    empty_link (Noted j) = ap (λ es. option_map_or (λ l. l.noted) (option_map (λ e. e.value) (get_or es j None)) (alone (Noted j))) nodes
    empty_link (Stored j) = ap (λ es. option_map_or (λ r. r.link) (option_map (λ e. e.value) (get_or es j None)) (alone (Stored j))) resources

    empty_home : (q : Place) → home_of (nodes_of s) (resources_of s) (λ _. false) q ≡ None
    empty_home (Sibling j) = ap (option_and_then (λ e. sibling_ring e.value)) (no_node j)
    empty_home (Stored j) = ap (option_and_then (λ e. resource_ring (nodes_of s) e.value)) (no_resource j)
    empty_home _ = refl

    pub empty_tied : IsTied s
    empty_tied = record {
      rings = λ _. [];
      noted = λ _. false;
      ringed = record {
        leads = λ e ends. record { to = ap (λ l. l.next) (empty_link e); back = ap (λ l. l.previous) (empty_link e) };
        differ = λ e. tt;
        members = λ e q i. absurd (false≢true i);
        listed = λ e q at. absurd (some_none (home_of (nodes_of s) (resources_of s) (λ _. false) q) e at (empty_home q));
        ends = λ e q at. absurd (some_none (home_of (nodes_of s) (resources_of s) (λ _. false) q) e at (empty_home q));
        loose = λ q single at. record { to = ap (λ l. l.next) (empty_link q); back = ap (λ l. l.previous) (empty_link q) };
      };
      rises = λ e age. tt;
      sound = record {
        apart = λ a b found_a found_b numbers. absurd (none_not_some (find (nodes_of s) a) (ap (with_number a.number) (no_node a.slot)) found_a);
        placed = λ k node found. absurd (true≢false (ap is_some (sym found ∙ ap (with_number k.number) (no_node k.slot))));
      };
      resources_apart = λ a b found_a found_b numbers. absurd
          (none_not_some (find (resources_of s) a) (ap (with_number a.number) (no_resource a.slot)) found_a);
    }
