-- Where a caller holds nothing open, nothing is open. What keeps a RefCount hub connected is a subscriber, which stands below a
-- connection of a later hub; so were one connected, hubs would be endless.
use Rattle.rx_event.proofs.Laws.Common.{◌≡◌, ℕ, zero, suc, ◌+◌, ◌<◌, ◌≤◌, Bool, true, false, List, [], ◌∷◌, length, Option, Some, cond, refl, sym, ap}
use Rattle.rx_event.proofs.Laws.Common.{◌∙◌, arith, inl, inr, ◌⊎◌, slice_get, ◌&&◌, count_by, range_with_len, option_map_or, cases_Bool, both_ways, false≢true}
use Rattle.rx_event.proofs.Laws.Common.{and_parts, and_from, eq-eqb, false_from_ne_true, slice_get_within, Kept, Root, Source, Inner, Notifier}
use Rattle.rx_event.proofs.Laws.Common.{Event, Open, Connect, makes_node, makes_hub, is_root, is_auto_hub, is_manual_hub, is_connect_of, is_subscriber_of}
use Rattle.rx_event.proofs.Laws.Common.{at, places, parent, is_within, is_open, open_subscribers, open_connections, open_count, IsSettled, IsLawful}
use Rattle.rx_event.proofs.Laws.Hubs.{hub_before, at_connect, connection_hub, unsubscribed_unconnected, hubs_in_order}
use Rattle.rx_event.specs.Claims.Closing.{is_manual_connection, open_root_count, manual_connection_count, IsLetGo}
use Rattle.rx_event.proofs.Laws.Lists.{first_passes, filter_nonempty}
use Rattle.rx_event.proofs.Laws.Places.{at-take}
use Rattle.rx_event.proofs.Laws.Parents.{parent-lt, within_parent}
use Rattle.rx_event.proofs.Laws.Openness.{is_open_within, parent_open}
use Rattle.rx_event.proofs.Laws.Steps.{parent-named}
use Rattle.rx_event.proofs.Laws.Stands.{open_node}
use Rattle.rx_event.proofs.Laws.Sums.{sum_by_none, term_in_sum}
use Rattle.rx_event.proofs.Laws.Totals.{is_within_self}
use Rattle.std.proofs.Common.{rules}

-- the topmost node ---------------------------------------------------------------------------------

-- An open node that n stands below, and which stands below none: a root, or a connection
pub record IsTopOf (h : List Event) (n a : ℕ) : Type 0 where
  pub above : is_within h a n ≡ true
  pub alive : is_open h a ≡ true
  pub sort : (at is_root h a ≡ true) ⊎ ((g : ℕ) × (slice_get h a ≡ Some (Connect g)))

-- each open node has one
topmost_below : (base : Kept) → (h : List Event) → IsLawful base h → (steps n : ℕ) → n < steps → is_open h n ≡ true → (a : ℕ) × IsTopOf h n a
topmost_below base h law zero n l o = absurd (omega arith)
topmost_below base h law (suc steps) n l o = by_event (topmost_below base h law steps) (slice_get h n) refl (open_node h n o) where
  below : ((p : ℕ) → p < steps → is_open h p ≡ true → (a : ℕ) × IsTopOf h p a) → (p : ℕ) → parent h n ≡ Some p → (a : ℕ) × IsTopOf h n a
  below rest p under =
      let s : p < n = parent-lt h n p under in
      let top : (a : ℕ) × IsTopOf h p a = rest p (omega arith) (parent_open h n p o under) in
      (top.0, record { above = within_parent h top.0 n p under top.1.above; alive = top.1.alive; sort = top.1.sort })

  by_event : ((p : ℕ) → p < steps → is_open h p ≡ true → (a : ℕ) × IsTopOf h p a) → (e : Option Event) → slice_get h n ≡ e →
      option_map_or makes_node e false ≡ true → (a : ℕ) × IsTopOf h n a
  by_event rest (Some (Connect g)) at_n node = (n, record { above = is_within_self h n; alive = o; sort = inr (g, at_n) })
  by_event rest (Some (Open Root kind)) at_n node = (n, record { above = is_within_self h n; alive = o; sort = inl (rw at_n refl) })
  by_event rest (Some (Open (Source p) kind)) at_n node = below rest p (parent-named base h law n p (Open (Source p) kind) at_n refl)
  by_event rest (Some (Open (Inner p) kind)) at_n node = below rest p (parent-named base h law n p (Open (Inner p) kind) at_n refl)
  by_event rest (Some (Open (Notifier p) kind)) at_n node = below rest p (parent-named base h law n p (Open (Notifier p) kind) at_n refl)
  by_event rest _ at_n node = absurd (false≢true node)

pub topmost : (base : Kept) → (h : List Event) → IsLawful base h → (n : ℕ) → is_open h n ≡ true → (a : ℕ) × IsTopOf h n a
topmost base h law n o = topmost_below base h law (suc n) n (omega arith) o

-- connections --------------------------------------------------------------------------------------

-- an open connection is one of its hub's
pub connection_listed : (h : List Event) (g c : ℕ) → slice_get h c ≡ Some (Connect g) → is_open h c ≡ true → open_connections h g ≡ [] → ⊥
connection_listed h g c connects alive none =
    let w = is_open_within h c alive in
    filter_nonempty (λ n. at (is_connect_of g) h n && is_open h n) 0 (length h) c (omega arith) (omega arith)
    (and_from _ _ (rw connects (eq-eqb g g refl)) alive) none

-- and what is one of its hub's is an open connection
pub first_connection : (h : List Event) (g c : ℕ) (cs : List ℕ) → open_connections h g ≡ c ∷ cs → (slice_get h c ≡ Some (Connect g)) × (is_open h c ≡ true)
first_connection h g c cs found = search (rules, first_passes, and_parts, at_connect)

-- the hub of a connection is a hub
pub connected_hub : (base : Kept) → (h : List Event) → IsLawful base h → (g c : ℕ) → slice_get h c ≡ Some (Connect g) → at makes_hub h g ≡ true
connected_hub base h law g c connects =
    sym (at-take makes_hub h c g (connection_hub base h law g c connects) (slice_get_within h c (Connect g) connects)) ∙ hub_before base h law c g connects

-- where a caller holds nothing open, no hub is connected: one that were would have a subscriber below a connection of a later hub
let_go_unconnected : {base : Kept} → {h : List Event} → IsLawful base h → IsSettled base h → IsLetGo h → (g c : ℕ) → slice_get h c ≡ Some (Connect g) →
    is_open h c ≡ true → ⊥
let_go_unconnected {base} {h} law settled free g c connects alive = from_hub (length h) g c (omega arith) connects alive where
  from_hub : (steps i d : ℕ) → length h ≤ i + steps → slice_get h d ≡ Some (Connect i) → is_open h d ≡ true → ⊥
  from_hub zero i d l at_d open_d = let s = connection_hub base h law i d at_d in let w = slice_get_within h d (Connect i) at_d in absurd (omega arith)
  from_hub (suc steps) i d l at_d open_d = by_hub (from_hub steps) (slice_get h i) refl (connected_hub base h law i d at_d) where
    by_top : ((k a : ℕ) → length h ≤ k + steps → slice_get h a ≡ Some (Connect k) → is_open h a ≡ true → ⊥) → (s a : ℕ) →
        at (is_subscriber_of i) h s ≡ true → IsTopOf h s a → (at is_root h a ≡ true) ⊎ ((k : ℕ) × (slice_get h a ≡ Some (Connect k))) → ⊥
    by_top rest s a subscribes top (inl root) = both_ways _ (free.unsubscribed a) (and_from _ _ top.alive root)
    by_top rest s a subscribes top (inr (k, at_a)) =
        let later : i < k = hubs_in_order law i s a subscribes top.above at_a in rest k a (omega arith) at_a top.alive

    by_subscribers : ((k a : ℕ) → length h ≤ k + steps → slice_get h a ≡ Some (Connect k) → is_open h a ≡ true → ⊥) →
        at is_auto_hub h i ≡ true → (ss : List ℕ) → open_subscribers h i ≡ ss → ⊥
    by_subscribers rest auto [] none = connection_listed h i d at_d open_d (unsubscribed_unconnected base h i settled auto none)
    by_subscribers rest auto (s ∷ ss) found =
        let first : (at (is_subscriber_of i) h s && is_open h s) ≡ true =
        first_passes (λ n. at (is_subscriber_of i) h n && is_open h n) (places h) s ss found in
        let parts : (at (is_subscriber_of i) h s ≡ true) × (is_open h s ≡ true) = and_parts _ _ first in
        let top : (a : ℕ) × IsTopOf h s a = topmost base h law s parts.1 in by_top rest s top.0 parts.0 top.1 top.1.sort

    by_hub : ((k a : ℕ) → length h ≤ k + steps → slice_get h a ≡ Some (Connect k) → is_open h a ≡ true → ⊥) → (e : Option Event) →
        slice_get h i ≡ e → option_map_or makes_hub e false ≡ true → ⊥
    by_hub rest x1 at_i hub = search (rules, connection_listed, by_subscribers, false≢true)

-- nothing open -------------------------------------------------------------------------------------

-- where a caller holds nothing open, nothing is open
pub nothing_open : (base : Kept) → (h : List Event) → IsLawful base h → IsSettled base h → IsLetGo h → (n : ℕ) → is_open h n ≡ false
nothing_open base h law settled free n =
    false_from_ne_true _ (λ o. let top : (a : ℕ) × IsTopOf h n a = topmost base h law n o in by_top top.0 top.1 top.1.sort)
  where
    by_top : (a : ℕ) → IsTopOf h n a → (at is_root h a ≡ true) ⊎ ((g : ℕ) × (slice_get h a ≡ Some (Connect g))) → ⊥
    by_top a top (inl root) = both_ways _ (free.unsubscribed a) (and_from _ _ top.alive root)
    by_top a top (inr (g, at_a)) = let_go_unconnected law settled free g a at_a top.alive

pub nothing_open_counted : (base : Kept) → (h : List Event) → IsLawful base h → IsSettled base h → IsLetGo h → open_count h ≡ 0
nothing_open_counted base h law settled free =
    sum_by_none (λ n. cond (is_open h n) 1 0) (length h) (λ n l. ap (λ (b : Bool). cond {A = ℕ} b 1 0) (nothing_open base h law settled free n))

-- counts -------------------------------------------------------------------------------------------

-- where none is counted none passes
none_passes : (t : ℕ → Bool) (m : ℕ) → count_by t (range_with_len 0 m) ≡ 0 → (n : ℕ) → n < m → t n ≡ false
none_passes t m none n l = by_test (cases_Bool (t n)) where
  by_test : (t n ≡ true) ⊎ (t n ≡ false) → t n ≡ false
  by_test (inr fails) = fails
  by_test (inl passes) =
      let one : cond {A = ℕ} (t n) 1 0 ≡ 1 = ap (λ (b : Bool). cond {A = ℕ} b 1 0) passes in
      let within = term_in_sum (λ k. cond (t k) 1 0) n m l in absurd (omega arith)

-- what is open is in the history
pub open_passes_within : (h : List Event) (q : Event → Bool) (n : ℕ) → (is_open h n && at q h n) ≡ true → n < length h
open_passes_within h q n passes = is_open_within h n (and_parts _ _ passes).0

none_open_passes : (h : List Event) (q : Event → Bool) → count_by (λ n. is_open h n && at q h n) (places h) ≡ 0 → (n : ℕ) → (is_open h n && at q h n) ≡ false
none_open_passes h q none n = false_from_ne_true _ (λ passes.
    both_ways _ (none_passes (λ k. is_open h k && at q h k) (length h) none n (open_passes_within h q n passes)) passes)

pub let_go_counted : (h : List Event) → open_root_count h ≡ 0 → manual_connection_count h ≡ 0 → IsLetGo h
let_go_counted h no_root no_connection =
    record { unsubscribed = none_open_passes h is_root no_root; disconnected = λ g manual. by_list g manual (open_connections h g) refl }
  where
    by_list : (g : ℕ) → at is_manual_hub h g ≡ true → (cs : List ℕ) → open_connections h g ≡ cs → cs ≡ []
    by_list g manual [] found = refl
    by_list g manual (c ∷ cs) found =
        let first = first_connection h g c cs found in
        absurd (both_ways (is_manual_connection h c) (none_open_passes h _ no_connection c) (and_from _ _ first.1 (rw first.0 manual)))
