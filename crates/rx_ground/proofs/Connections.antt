-- The open connections of hubs: a hub's own, and which hubs that a caller connects have one.
use Rattle.rx_ground.proofs.Common.{◌≡◌, ℕ, ◌<◌, ◌≤◌, Bool, true, false, List, [], ◌∷◌, length, Option, Some, None, is_some, IsSome, IfSome, option_map, refl}
use Rattle.rx_ground.proofs.Common.{slice_get, sym, ap, subst, ◌∙◌, inl, inr, arith, ◌&&◌, option_and_then, option_map_or, option_to_list, false≢true, Kept}
use Rattle.rx_ground.proofs.Common.{both_ways, and_parts, cases_lt, false_from_ne_true, none-some, same_Some, slice_get_within, Ghosts, Event, makes_hub, at}
use Rattle.rx_ground.proofs.Common.{is_manual_hub, IsLawful, places, open_connections, first_connection, Key, Slots, find, Node, Tree, Published, Hub, Hubs}
use Rattle.rx_ground.proofs.Common.{find_hub, HasHub, AreHubsOf, numbers, found_hub, AreTied, is_connected_manual}
use Rattle.std.specs.List.{find as find_number}
use Rattle.rx_event.specs.declared.event.Event.TheVariants.{Hub as Publish}
use Rattle.rx_hub.specs.Hubs.{IsPromised, published_of}
use Rattle.rx_ground.proofs.HubsBesideTree.{connected_hub}
use Rattle.rx_ground.proofs.HubsAfterEvent.{hub_is_older, found_made, connection_kept}
use Rattle.rx_ground.proofs.Laws.Ranges.{find_first, find_nothing}
use Rattle.std.proofs.Common.{rules}

-- a hub's own -------------------------------------------------------------------------------------

-- no connection is open of what is no hub
unconnected : (base : Kept) → (h : List Event) → IsLawful base h → (n : ℕ) → at makes_hub h n ≡ false → open_connections h n ≡ []
unconnected base h law n unmade = by_list (open_connections h n) refl where
  by_list : (cs : List ℕ) → open_connections h n ≡ cs → cs ≡ []
  by_list [] is = refl
  by_list (c ∷ cs) is = absurd (both_ways (at makes_hub h n) unmade (connected_hub base h law c n (first_connection h n c cs is).0))

numbered : (o : Option Key) → option_to_list (option_map (λ (key : Key). key.number) o) ≡ numbers (option_to_list o)
numbered x0 = search rules

-- the key of the open connection of hub n, if it has one, which is in the tree
pub record IsConnectionOf (h : List Event) (nodes : Slots Node) (n : ℕ) (connection : Option Key) : Type 0 where
  pub number : option_to_list (option_map (λ (key : Key). key.number) connection) ≡ open_connections h n
  pub there : IfSome connection (λ key. IsSome (find nodes key))

abbrev pub connection_in : Option Published → Option Key
connection_in o = option_and_then (λ (p : Published). p.connection) o

-- what is kept of the hub of a number, if there is one, says its connection
pub connection_known : {base : Kept} → {T : Type 0} {g : Ghosts T} (h : List Event) (tree : Tree T) (hubs : Hubs) → IsLawful base h →
    AreTied base g h tree hubs →
    (n : ℕ) (o : Option Published) → o ≡ option_map published_of (find_hub hubs.hubs n) → IsConnectionOf h tree.nodes n (connection_in o)
connection_known {base} h tree hubs law tied n o is =
    subst (λ (x : Option Published). IsConnectionOf h tree.nodes n (connection_in x)) (sym is) (by_hub (find_hub hubs.hubs n) refl)
  where
    by_hub : (x : Option Hub) → find_hub hubs.hubs n ≡ x → IsConnectionOf h tree.nodes n (connection_in (option_map published_of x))
    by_hub None none = record {
      number = sym (unconnected base h law n (sym (found_made h hubs.hubs tied.published n) ∙ ap is_some none));
      there = tt;
    }
    by_hub (Some hub) found =
        let at_i = found_hub hubs.hubs n hub found in
        record {
          number = numbered hub.connection ∙ (tied.published.each at_i.0 hub at_i.1.0).connection ∙ ap (open_connections h) at_i.1.1;
          there = tied.joined.connection at_i.0 hub at_i.1.0;
        }

-- connected by hand -------------------------------------------------------------------------------

manual_made : (o : Option Event) → option_map_or is_manual_hub o false ≡ true → option_map_or makes_hub o false ≡ true
manual_made x0 manual = search (rules, false≢true)

abbrev pub is_up_by_hand : Published → Bool
is_up_by_hand p = is_manual_hub (Publish p.mode) && is_some p.connection

-- no hub before this index is one that a caller connects and that has an open connection
abbrev pub NoneBefore : List Event → List Hub → ℕ → Type 0
NoneBefore h hubs index = (i : ℕ) (hub : Hub) → i < index → slice_get hubs i ≡ Some hub → is_connected_manual h hub.number ≡ false

-- the hub at an index, by what is kept of it
kept_at : (hubs : List Hub) (index : ℕ) (p : Published) → option_map published_of (slice_get hubs index) ≡ Some p →
    (hub : Hub) × (slice_get hubs index ≡ Some hub) × (published_of hub ≡ p)
kept_at hubs index p kept = search (rules, slice_get, option_map, none-some, same_Some)

module _ (h : List Event) (s : Hubs) (published : AreHubsOf h s.hubs) where
  -- what is kept of a hub says whether it is one
  by_hand : (index : ℕ) (hub : Hub) → slice_get s.hubs index ≡ Some hub → is_connected_manual h hub.number ≡ is_up_by_hand (published_of hub)
  by_hand index hub at_index = search (rules, option_map_or, connection_kept)

  kept_by_hand : (index : ℕ) (p : Published) → option_map published_of (slice_get s.hubs index) ≡ Some p → is_connected_manual h p.number ≡ is_up_by_hand p
  kept_by_hand index p kept = search (rules, kept_at, by_hand)

  -- each such number is a hub's
  its_hub : (n : ℕ) → is_connected_manual h n ≡ true → HasHub s.hubs n
  its_hub n is = search (rules, manual_made, slice_get, and_parts)

  -- and stands at this index or behind it, where none before is one
  not_before : (index n : ℕ) → NoneBefore h s.hubs index → (has : HasHub s.hubs n) → is_connected_manual h n ≡ true → index ≤ has.index
  not_before index n before has is = search (rules, cases_lt, both_ways)

  -- where none is, none is found
  pub none_by_hand : (index : ℕ) → length s.hubs ≤ index → NoneBefore h s.hubs index → find_number (is_connected_manual h) (places h) ≡ None
  none_by_hand index past before = search (rules, find_nothing, false_from_ne_true, its_hub, slice_get_within, not_before)

  -- and the first that is one is found
  pub first_by_hand : IsPromised s → (index : ℕ) (p : Published) → option_map published_of (slice_get s.hubs index) ≡ Some p →
      is_up_by_hand p ≡ true → NoneBefore h s.hubs index → find_number (is_connected_manual h) (places h) ≡ Some p.number
  first_by_hand promised index p kept is before =
      let x = kept_at s.hubs index p kept in
      let older : p.number < length h = subst (λ (q : Published). q.number < length h) x.2 (hub_is_older h s.hubs published index x.0 x.1) in
      find_first (is_connected_manual h) 0 (length h) p.number (omega arith) (omega (arith, older)) (kept_by_hand index p kept ∙ is)
      (λ n less. false_from_ne_true (is_connected_manual h n) (not_less x.0 x.1 n (subst (λ (q : Published). n < q.number) (sym x.2) less)))
    where
      not_less : (hub : Hub) → slice_get s.hubs index ≡ Some hub → (n : ℕ) → n < hub.number → is_connected_manual h n ≡ true → ⊥
      not_less hub at_index n less passes =
          let has = its_hub n passes in
          let named = has.numbered in
          let behind = not_before index n before has passes in
          elim (cases_lt index has.index) [
            | inl l ↦ absurd (let more = promised.rising index has.index hub has.hub at_index has.there l in omega (arith, more, less, named))
            | inr most ↦
                let same : has.index ≡ index = omega (arith, behind, most) in
                let own : has.hub ≡ hub = same_Some has.hub hub (sym has.there ∙ ap (slice_get s.hubs) same ∙ at_index) in
                absurd (let e = ap (λ (y : Hub). y.number) own in omega (arith, e, less, named))
          ]
