-- What makes way for a node takes no memory, and leaves a ground that is ready for it.
use Rattle.rx_ground.proofs.Common.{◌≡◌, ◌+◌, ◌<◌, ◌≤◌, ◌++◌, ◌∷◌, [], ℕ, Bool, true, false, List, Option, IfSome, length, sym, subst, arith}
use Rattle.rx_ground.proofs.Common.{inl, inr, ◌⊎◌, cases_Bool, is_open_new, Ghosts, Event, Open, Kind, Place, MayFollow, IsLawful, IsPromised, Key}
use Rattle.rx_ground.proofs.Common.{find, Tree, IsSound, Closes, Gathers, Moves, ◌∙◌}
use Rattle.rx_ground.proofs.Common.{ListsReplaced, Ground, AreTied}
use Rattle.rx_ground.specs.Inners.{IsLeft}
use Rattle.rx_ground.proofs.ReadyToOpen.{IsReadyToOpen, IsOpenedBelow, few_above, none_closed, way_left}
use Rattle.rx_ground.proofs.MovedHaveGone.{gathers_cut}
use Rattle.rx_ground.proofs.Laws.GoneStaysGone.{gathers_none, closes_none, closes_moved}
use Rattle.std.proofs.Common.{rules}

module _ {T : Type 0} where
  -- so it is ready for the node, which may be opened
  pub record IsWayMade (g : Ghosts T) (place : Place) (kind : Kind) (old left : Ground T) (replaces : Bool) : Type 0 where
    pub ready : IsReadyToOpen old.register.base g old.register.history place kind old.tree left.tree old.hubs left.hubs replaces
    pub stays : IsLeft place replaces old left

  -- that is so of the grounds that a call has where it is so of those that it tells
  pub way_made : {g : Ghosts T} {place : Place} {kind : Kind} {old now left after : Ground T} {replaces : Bool} → old ≡ now → left ≡ after →
      IsLawful old.register.base old.register.history → MayFollow now.register.base now.register.history (Open place kind) →
      AreTied now.register.base g now.register.history now.tree now.hubs → IsSound old.tree.nodes → IsLeft place replaces now after →
      IsWayMade g place kind old left replaces
  way_made {g = g} {place = place} {kind = kind} {old = old} {now = now} {left = left} {replaces = replaces} was is law next tied sound told =
      search (rules, AreTied)

  -- the children of the node above can still be counted
  pub few_children : {g : Ghosts T} {place : Place} {kind : Kind} {old left : Ground T} {replaces : Bool} {mid : Tree T} {key : Key}
      {above : Option Key} → IsWayMade g place kind old left replaces → IsPromised old.register →
      IsOpenedBelow old.register.history place kind above old.tree left.tree mid key →
      IfSome above (λ k. IfSome (find mid.nodes k) (λ node. node.marks.open_children + 1 < 18446744073709551616))
  few_children w promised below =
      let within = promised.within in
      let limited = promised.limited in
      let placed = promised.placed in few_above w.ready below 18446744073709551615 (omega arith)

  -- the node's slot is among those at which a subscriber may stand
  pub slot_within : {place : Place} {replaces : Bool} {old left : Ground T} → IsLeft place replaces old left →
      left.hubs ≡ record old.hubs { hubs = left.hubs.hubs } →
      (0 < length old.hubs.hubs → old.tree.nodes.count + old.tree.nodes.room ≤ old.hubs.slots) → 0 < length left.hubs.hubs →
      (slot : ℕ) → slot < left.tree.nodes.count + left.tree.nodes.room → slot < left.hubs.slots
  slot_within x rest reserved some slot within = search rules

  -- what was closed for the node has gone after it, and nothing else went
  gathers_opened : {g : Ghosts T} {place : Place} {kind : Kind} {old left : Ground T} {replaces : Bool} → IsWayMade g place kind old left replaces →
      {h : List Event} → h ≡ old.register.history ++ Open place kind ∷ [] → Gathers old.register.history old.closed h left.closed
  gathers_opened {place = place} {kind = kind} {old = old} {left = left} {replaces = replaces} w grown =
      subst (λ (k : List Event). Gathers old.register.history old.closed k left.closed) (sym grown) (by_test (cases_Bool replaces))
    where
      exchanged : ListsReplaced old.register.history place old.tree left.tree old.closed left.closed →
          Gathers old.register.history old.closed (old.register.history ++ Open place kind ∷ []) left.closed
      exchanged x = gathers_cut w.ready.next w.ready.tied.of_tree.records (way_left w.ready) x.cuts.nodes w.ready.sound x.moves

      by_test : (replaces ≡ true) ⊎ (replaces ≡ false) → Gathers old.register.history old.closed (old.register.history ++ Open place kind ∷ []) left.closed
      by_test (inl takes) = exchanged (w.stays.lists.exchanged takes)
      by_test (inr leaves) = subst (Gathers old.register.history old.closed (old.register.history ++ Open place kind ∷ [])) (sym (w.stays.lists.same leaves))
          (gathers_none old.register.history (Open place kind) old.closed (none_closed old.register.history place kind (w.ready.way.none leaves))
          (is_open_new old.register.base old.register.history (Open place kind) w.ready.next))

  pub closes_opened : {g : Ghosts T} {place : Place} {kind : Kind} {old left new : Ground T} {replaces : Bool} → IsWayMade g place kind old left replaces →
      new.register.history ≡ old.register.history ++ Open place kind ∷ [] → new.closed ≡ left.closed → Closes old new
  closes_opened {place = place} {kind = kind} {old = old} {left = left} {new = new} {replaces = replaces} w grown same = by_test (cases_Bool replaces)
    where
      gathered : Gathers old.register.history old.closed new.register.history new.closed
      gathered = subst (Gathers old.register.history old.closed new.register.history) (sym same) (gathers_opened w grown)

      exchanged : ListsReplaced old.register.history place old.tree left.tree old.closed left.closed → Closes old new
      exchanged x = closes_moved {top = x.inner.number} (subst (Moves old.tree.nodes x.inner.number old.closed) (sym same) x.moves) gathered

      by_test : (replaces ≡ true) ⊎ (replaces ≡ false) → Closes old new
      by_test (inl takes) = exchanged (w.stays.lists.exchanged takes)
      by_test (inr leaves) = closes_none (same ∙ w.stays.lists.same leaves) gathered
