-- The chain that callers see, and the ring that it is kept in.
use Rattle.rx_tree.proofs.Common.{◌≡◌, ℕ, ◌<◌, ◌||◌, map, Bool, true, false, List, [], ◌∷◌, length, Option, Some, None, is_some, IsSome, ap, refl, sym, subst}
use Rattle.rx_tree.proofs.Common.{◌∙◌, inl, inr, arith, true≢false, option_map_or, cases_lt, false≢true, Entry, false_from_ne_true, nat_tests, get_or_past}
use Rattle.rx_tree.proofs.Common.{length-map, Key, Slots, entry_at, find, Place, Due, Noted, Node, Stowed, Store, is_among, AreDifferent, walk, slot_of, places}
use Rattle.rx_tree.proofs.Common.{tells, or_true, few_places, among_here, among_there, among_cons, walk_leads, some_same, on_entry, key_on, nodes_of}
use Rattle.rx_tree.proofs.Common.{resources_of, next_of, previous_of, stands, shown, home_of, resource_ring, IsTiedAt, IsTied, IsPromised, AreDistinct, is_key}
use Rattle.rx_tree.proofs.Common.{is_on, same_key, entry_found, found_entry, is_lent}
use Rattle.std.specs.Option.{option_map}
use Rattle.rx_tree.proofs.TieRecords.{home_stands}
use Rattle.std.proofs.Common.{rules}

module _ {T : Type 0} where
  -- a place that may be due is that of a node
  pub due_is : (nodes : Slots Node) (resources : Slots (Stowed T)) (noted : ℕ → Bool) (q : Place) → home_of nodes resources noted q ≡ Some Due →
      q ≡ Noted (slot_of q)
  due_is nodes resources noted x3 at = search (rules, true≢false, some_same, resource_ring, is_lent)

  -- the ring of those that may be due is what a walk meets
  pub walk_due : (s : Store T) (nodes : Slots Node) (resources : Slots (Stowed T)) → nodes_of s ≡ nodes →
      (tied : IsTiedAt (next_of s) (previous_of s) nodes resources) → walk places (length s.nodes.entries) (next_of s) Due ≡ tied.rings Due
  walk_due s nodes resources seen tied =
      let R = tied.ringed in
      let at : (q : Place) → is_among places q (tied.rings Due) ≡ true → home_of nodes resources tied.noted q ≡ Some Due = λ q i. R.members Due q i in
      walk_leads tells (length s.nodes.entries) (next_of s) (previous_of s) Due refl (R.leads Due refl) (λ q i. (R.ends Due q (at q i)).1)
      (few_places tells Noted slot_of (length s.nodes.entries) (tied.rings Due) (R.differ Due)
      (λ q i. let is = due_is nodes resources tied.noted q (at q i) in
      (within (slot_of q) (subst (λ z. stands nodes resources z ≡ true) is (home_stands nodes resources tied.noted q Due (at q i))), is))) where
        within : (j : ℕ) → is_some (entry_at nodes j) ≡ true → j < length s.nodes.entries
        within j there = elim (cases_lt j (length s.nodes.entries)) [
          | inl below ↦ below
          | inr past ↦ absurd (true≢false (sym there ∙ ap (λ m. is_some (entry_at m j)) (sym seen) ∙ ap is_some
              (get_or_past (nodes_of s).entries j None (let l = length-map s.nodes.entries (option_map (on_entry (λ l. l.node))) in omega (arith, l, past)))))
        ]

  -- what callers see of the chain
  pub chain_is : (s : Store T) (nodes : Slots Node) (resources : Slots (Stowed T)) → nodes_of s ≡ nodes →
      (tied : IsTiedAt (next_of s) (previous_of s) nodes resources) → (shown s).chain ≡ map (key_on nodes) (tied.rings Due)
  chain_is s nodes resources seen tied = λ i. map (key_on (seen i)) (walk_due s nodes resources seen tied i)

  pub retie : (s : Store T) (nodes : Slots Node) (resources : Slots (Stowed T)) → nodes_of s ≡ nodes → resources_of s ≡ resources →
      IsTiedAt (next_of s) (previous_of s) nodes resources → IsTied s
  retie s nodes resources a b tied = search (rules, resources_of)

key_parts : (k l : Key) → is_key k l ≡ true → (k.slot ≡ l.slot) × (k.number ≡ l.number)
key_parts k l e = search (rules, nat_tests, false≢true)

pub key_self : (k : Key) → is_key k k ≡ true
key_self k = search (rules, nat_tests)

-- a key that stands among those of places is that of one of them
pub record IsKeyOf (nodes : Slots Node) (ps : List Place) (k : Key) : Type 0 where
  pub place : Place
  pub among : is_among places place ps ≡ true
  pub slot : k.slot ≡ slot_of place
  pub number : k.number ≡ (key_on nodes place).number

pub on_places : (nodes : Slots Node) (ps : List Place) (k : Key) → is_on k (map (key_on nodes) ps) ≡ true → IsKeyOf nodes ps k
on_places nodes [] k e = absurd (false≢true e)
on_places nodes (x ∷ ps) k e = of (λ e. on_places nodes ps k e) (is_key k (key_on nodes x)) refl e where
  of : (is_on k (map (key_on nodes) ps) ≡ true → IsKeyOf nodes ps k) → (b : Bool) → is_key k (key_on nodes x) ≡ b →
      (b || is_on k (map (key_on nodes) ps)) ≡ true → IsKeyOf nodes (x ∷ ps) k
  of again true t e = let h = key_parts k (key_on nodes x) t in record { place = x; among = among_here tells x ps; slot = h.0; number = h.1 }
  of again false t e = let h = again e in record { place = h.place; among = among_there tells h.place x ps h.among; slot = h.slot; number = h.number }

pub places_on : (nodes : Slots Node) (ps : List Place) (x : Place) → is_among places x ps ≡ true → is_on (key_on nodes x) (map (key_on nodes) ps) ≡ true
places_on nodes [] x e = absurd (false≢true e)
places_on nodes (y ∷ ps) x e = elim (among_cons tells x y ps e) [
  | inl same ↦ ap (λ b. b || is_on (key_on nodes x) (map (key_on nodes) ps))
      (subst (λ z. is_key (key_on nodes x) (key_on nodes z) ≡ true) same (key_self (key_on nodes x)))
  | inr rest ↦ or_true (is_key (key_on nodes x) (key_on nodes y)) (is_on (key_on nodes x) (map (key_on nodes) ps)) (places_on nodes ps x rest)
]

-- the places of a chain are those of nodes
abbrev AreNoted : List Place → Type 0
AreNoted ps = (q : Place) → is_among places q ps ≡ true → q ≡ Noted (slot_of q)

pub distinct_keys : (nodes : Slots Node) (ps : List Place) → AreDifferent places ps → AreNoted ps → AreDistinct (map (key_on nodes) ps)
distinct_keys nodes [] d all = tt
distinct_keys nodes (x ∷ ps) d all = (
  false_from_ne_true (is_on (key_on nodes x) (map (key_on nodes) ps))
      (λ e. let h = on_places nodes ps (key_on nodes x) e in let same : h.place ≡ x = all h.place (among_there tells h.place x ps h.among) ∙
      ap (λ j. Noted j) (sym h.slot) ∙ sym (all x (among_here tells x ps)) in true≢false (sym h.among ∙ ap (λ z. is_among places z ps) same ∙ d.0)),
  distinct_keys nodes ps d.1 (λ q i. all q (among_there tells q x ps i)),
)

pub key_on_found : (nodes : Slots Node) (k : Key) (node : Node) (x : Place) → slot_of x ≡ k.slot → find nodes k ≡ Some node → key_on nodes x ≡ k
key_on_found nodes k node x slot found = search (rules, same_key, slot, entry_found)

module _ {T : Type 0} where
  -- what holds of every tree
  pub promised : (s : Store T) → IsTied s → IsPromised (shown s)
  promised s tied =
      let nodes = nodes_of s in
      let chain = chain_is s nodes (resources_of s) refl tied in
      let noted : AreNoted (tied.rings Due) = λ q i. due_is nodes (resources_of s) tied.noted q (tied.ringed.members Due q i) in
      record {
        sound = tied.sound;
        resources_apart = tied.resources_apart;
        distinct = subst AreDistinct (sym chain) (distinct_keys nodes (tied.rings Due) (tied.ringed.differ Due) noted);
        linked = λ key on. of key (on_places nodes (tied.rings Due) key (subst (λ c. is_on key c ≡ true) chain on));
      } where
        at_entry : (key : Key) (o : Option (Entry Node)) → entry_at (nodes_of s) key.slot ≡ o → is_some o ≡ true →
            key.number ≡ option_map_or (λ n. n) (option_map (λ e. e.number) o) 0 → IsSome (find (nodes_of s) key)
        at_entry key None read there number = absurd (false≢true there)
        at_entry key (Some e) read there number =
            ap is_some (found_entry (nodes_of s) key e.value (read ∙ (λ i. Some (record { number = sym number i; value = e.value }))))

        of : (key : Key) → IsKeyOf (nodes_of s) (tied.rings Due) key → IsSome (find (nodes_of s) key)
        of key h =
            let home = tied.ringed.members Due h.place h.among in
            let is = due_is (nodes_of s) (resources_of s) tied.noted h.place home in
            let there : is_some (entry_at (nodes_of s) (slot_of h.place)) ≡ true =
            subst (λ z. stands (nodes_of s) (resources_of s) z ≡ true) is (home_stands (nodes_of s) (resources_of s) tied.noted h.place Due home) in
            let slot = h.slot in
            at_entry key (entry_at (nodes_of s) key.slot) refl (ap (λ j. is_some (entry_at (nodes_of s) j)) slot ∙ there)
            (h.number ∙ ap (λ j. option_map_or (λ n. n) (option_map (λ e. e.number) (entry_at (nodes_of s) j)) 0) (sym slot))
