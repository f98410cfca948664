-- The bar of a resource: while its node is open and it was not removed it is held, and from its taking on taken.
use Rattle.rx_picture.proofs.Common.{◌≡◌, ℕ, ◌<◌, ◌≤◌, min, max, Bool, true, false, cond, List, length, take, get_or, Option, Some, sym, ap, ◌∙◌}
use Rattle.rx_picture.proofs.Common.{arith, inl, inr, ◌⊎◌, nat_lt, slice_get, not, ◌&&◌, list_any, option_and_then, option_map_or, cases_lt, lt-ltb, le-ltb}
use Rattle.rx_picture.proofs.Common.{and_left, none-some, Event, makes_resource, is_open, is_owned, is_taken, is_open_past}
use Rattle.rx_picture.proofs.Common.{Spans, TurnsAt, AreLines, has_removed, has_taken}
use Rattle.rx_event.specs.Events.{node_of_accept}
use Rattle.rx_event.proofs.Laws.Resources.{is_owned_past, is_taken_past}
use Rattle.rx_picture.specs.Rows.{Begins, IsBar}
use Rattle.rx_picture.specs.Tables.{owned_end, owned_start}
use Rattle.rx_picture.proofs.Prefixes.{past_prefix, get_prefix, at_prefix}
use Rattle.rx_picture.proofs.WhereTestsTurnTrue.{turn_within}
use Rattle.rx_picture.proofs.WhereLinesEnd.{cut_either, cut_alone, neither, and_not}
use Rattle.std.proofs.Common.{rules}

pub accepted_makes : (o : Option Event) (node : ℕ) → option_and_then node_of_accept o ≡ Some node → option_map_or makes_resource o false ≡ true
accepted_makes x0 node named = search (rules, none-some)

-- held from the later of node and acceptance to the earlier of the node's end and the removal
bar_cut : (node u gone r k : ℕ) → r < k →
    ((nat_lt node k && not (nat_lt u k)) && not (nat_lt gone k)) ≡ (nat_lt (max node r) k && not (nat_lt (max (min u gone) (max node r)) k))
bar_cut node u gone r k l = by_place (cases_lt node k) where
  by_place : (node < k) ⊎ (k ≤ node) → ((nat_lt node k && not (nat_lt u k)) && not (nat_lt gone k))
      ≡ (nat_lt (max node r) k && not (nat_lt (max (min u gone) (max node r)) k))
  by_place (inl m) =
      ap (λ (x : Bool). (x && not (nat_lt u k)) && not (nat_lt gone k)) (lt-ltb node k m)
      ∙ neither (nat_lt u k) (nat_lt gone k)
      ∙ sym (ap (λ (x : Bool). x && not (nat_lt (max (min u gone) (max node r)) k))
      (lt-ltb (max node r) k (omega arith))
      ∙ ap (λ (x : Bool). true && not x) (cut_either u gone (max node r) k (omega arith)))
  by_place (inr m) =
      and_left _ _ (and_left _ _ (le-ltb node k m)) ∙ sym (and_left _ _ (le-ltb (max node r) k (omega arith)))

start_after : (ends : List ℕ) (node r : ℕ) → r ≤ owned_start ends node r
start_after ends node r = search (rules, nat_lt, length, Bool, cond, max)

bar_within : (h : List Event) (r node gone : ℕ) (ends : List ℕ) → r < length h → AreLines h (length h) ends → (node < length h) ⊎ (length h ≤ node) →
    max (owned_end ends node gone) (owned_start ends node r) ≤ length h
bar_within h r node gone ends inside lines x7 = search (rules, lt-ltb, length, le-ltb)

module _ (h : List Event) (r node : ℕ) (accepted : option_and_then node_of_accept (slice_get h r) ≡ Some node) where
  owned_prefix : (gone k : ℕ) → TurnsAt h (has_removed r) (length h) (length h) gone → r < k
      → k ≤ length h → is_owned (take k h) r ≡ (is_open (take k h) node && not (nat_lt gone k))
  unfolding is_owned
  owned_prefix gone k removed l m =
      search (rules, Option, Event, option_map_or, take, option_and_then, not, list_any, get_prefix, ℕ, Bool)

  bar_owned : (gone : ℕ) (ends : List ℕ) → TurnsAt h (has_removed r) (length h) (length h) gone → AreLines h (length h) ends →
      Spans h (λ k. is_owned k r) (owned_start ends node r) (max (owned_end ends node gone) (owned_start ends node r))
  bar_owned gone ends removed lines k m = by_place (cases_lt r k) where
    by_node : r < k → (node < length h) ⊎ (length h ≤ node) →
        (is_open (take k h) node && not (nat_lt gone k))
        ≡ (nat_lt (owned_start ends node r) k && not (nat_lt (max (owned_end ends node gone) (owned_start ends node r)) k))
    by_node l (inl inside) =
        let size = lines.size in
        ap (λ (x : Bool). x && not (nat_lt gone k)) (lines.spans node inside k m) ∙ bar_cut node (get_or ends node 0) gone r k l
        ∙ sym (ap (λ (x : Bool). nat_lt (cond x (max node r) r) k && not (nat_lt (max (cond x (min (get_or ends node 0) gone) 0) (cond x (max node r) r)) k))
        (lt-ltb node (length ends) (omega arith)))
    by_node l (inr past) =
        let size = lines.size in
        let none : max 0 r ≡ r = omega arith in
        and_left _ _ (is_open_past (take k h) node (past_prefix h k node (omega arith) m))
        ∙ sym (ap (λ (x : Bool). nat_lt (cond x (max node r) r) k && not (nat_lt (max (cond x (min (get_or ends node 0) gone) 0) (cond x (max node r) r)) k))
        (le-ltb node (length ends) (omega arith))
        ∙ ap (λ (j : ℕ). nat_lt r k && not (nat_lt j k)) none ∙ and_not (nat_lt r k))

    by_place : (r < k) ⊎ (k ≤ r) → is_owned (take k h) r
        ≡ (nat_lt (owned_start ends node r) k && not (nat_lt (max (owned_end ends node gone) (owned_start ends node r)) k))
    by_place (inl l) = owned_prefix gone k removed l m ∙ by_node l (cases_lt node (length h))
    by_place (inr l) = let later =
        start_after ends node r in is_owned_past (take k h) r (past_prefix h k r l m) ∙ sym (and_left _ _ (le-ltb (owned_start ends node r) k (omega arith)))

  taken_prefix : (out k : ℕ) → TurnsAt h (has_taken r) (length h) (length h) out → r < k → k ≤ length h → is_taken (take k h) r ≡ nat_lt out k
  unfolding is_taken
  taken_prefix out k taken l m =
      search (rules, Bool, list_any, take, at_prefix, accepted_makes, slice_get)

  bar_taken : (out : ℕ) → TurnsAt h (has_taken r) (length h) (length h) out → Begins h (λ k. is_taken k r) (max out r)
  bar_taken out taken k m = by_place (cases_lt r k) where
    by_place : (r < k) ⊎ (k ≤ r) → is_taken (take k h) r ≡ nat_lt (max out r) k
    by_place (inl l) = taken_prefix out k taken l m ∙ sym (cut_alone out r k l)
    by_place (inr l) = is_taken_past (take k h) r (past_prefix h k r l m) ∙ sym (le-ltb (max out r) k (omega arith))

  pub bar_is : (gone out : ℕ) (ends : List ℕ) → r < length h → TurnsAt h (has_removed r) (length h) (length h) gone
      → TurnsAt h (has_taken r) (length h) (length h) out → AreLines h (length h) ends →
      IsBar h r (owned_start ends node r) (max (owned_end ends node gone) (owned_start ends node r)) (max out r)
  bar_is gone out ends inside removed taken lines = search (rules, start_after, bar_within, cases_lt, length, bar_owned, turn_within, bar_taken)
