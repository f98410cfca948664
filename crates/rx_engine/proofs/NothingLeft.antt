-- What is found to let go of can be; and where nothing is found nothing is open or held, and no lease is out.
use Rattle.std.proofs.Common.{◌≡◌, ℕ, zero, suc, ◌+◌, ◌<◌, ◌≤◌, ◌⊎◌, ◌&&◌, inl, inr, Bool, true, false, cond, List, [], ◌∷◌, length, Some, None, Ok, Err, Result, IsTrue, refl, sym, ap, ◌∙◌, arith, subst, rules}
use Rattle.std.proofs.lemmas.Bool.{and_parts, both_ways, cases_lt, cases_order, false_from_ne_true, and_from}
use Rattle.std.proofs.lemmas.Option.{same_Some}
use Rattle.std.specs.List.{find, range_with_len}
use Rattle.rx_resource.specs.declared.Resource.{Ghosts}
use Rattle.rx_resource.specs.declared.token.Token.{Token}
use Rattle.rx_event.specs.declared.event.Event.{Event}
use Rattle.rx_event.specs.declared.refusal.Refusal.{Refusal}
use Rattle.rx_event.specs.Causes.{has_connection}
use Rattle.rx_event.specs.Claims.Closing.{is_open_root}
use Rattle.rx_event.specs.Events.{is_manual_hub, is_root}
use Rattle.rx_event.specs.Refusals.{first_cause}
use Rattle.rx_event.specs.Resources.{is_out}
use Rattle.rx_event.specs.Totals.{open_count, lease_count}
use Rattle.rx_event.specs.Tree.{at, places, open_connections}
use Rattle.rx_event.proofs.Laws.Closings.{manual_hub}
use Rattle.rx_event.proofs.Laws.Leases.{is_out_past}
use Rattle.rx_event.proofs.Laws.LetGo.{nothing_open_counted}
use Rattle.rx_event.proofs.Laws.NothingOpenNothingHeld.{held_count_closed}
use Rattle.rx_event.proofs.Laws.Openness.{is_open_past}
use Rattle.rx_event.proofs.Laws.Places.{at_within}
use Rattle.rx_event.proofs.Laws.Sums.{sum_by_none}
use Rattle.rx_register.proofs.Laws.OpeningForcesConnection.{connects_none}
use Rattle.rx_ground.specs.Told.{is_connected_manual}
use Rattle.rx_slots.specs.declared.Key.{Key}
use Rattle.rx_ground.specs.declared.leases.LeaseKey.{LeaseKey}
use Rattle.rx_book.specs.State.{State as BookState, IsPromised as IsBookPromised, has_key, has_lease_key}
use Rattle.rx_book.specs.Requests.{stands, give_back_request, dispose_request, disconnect_request}
use Rattle.rx_engine.specs.Commands.{IsFreeMade}
use Rattle.rx_engine.specs.LettingGo.{next_lease, next_root, next_hub, IsNothingLeft, IsClosingMade}
use Rattle.rx_engine.specs.States.{State}

-- what a search finds ------------------------------------------------------------------------------

find_passes : (test : ℕ → Bool) (ns : List ℕ) (n : ℕ) → find test ns ≡ Some n → test n ≡ true
find_passes test [] n found = absurd (cc)
find_passes test (m ∷ ms) n found = by_test (test m) refl found (λ later. find_passes test ms n later) where
  by_test : (b : Bool) → test m ≡ b → cond b (Some m) (find test ms) ≡ Some n → (find test ms ≡ Some n → test n ≡ true) → test n ≡ true
  by_test true is here rest = subst (λ (k : ℕ). test k ≡ true) (same_Some m n here) is
  by_test false is later rest = rest later

-- and where it finds nothing, nothing of the range passes
none_found : (test : ℕ → Bool) (from count : ℕ) → find test (range_with_len from count) ≡ None → (n : ℕ) → from ≤ n → n < from + count → test n ≡ false
none_found test from zero missing n low high = absurd (omega (arith, low, high))
none_found test from (suc count) missing n low high =
    by_test (test from) refl missing (λ later above. none_found test (from + 1) count later n above (omega (arith, high))) where
      by_test : (b : Bool) → test from ≡ b → cond b (Some from) (find test (range_with_len (from + 1) count)) ≡ None →
          (find test (range_with_len (from + 1) count) ≡ None → from + 1 ≤ n → test n ≡ false) → test n ≡ false
      by_test true is here rest = absurd (cc)
      by_test false is later rest = by_place (cases_order from n) where
        by_place : (from ≡ n) ⊎ ((from < n) ⊎ (n < from)) → test n ≡ false
        by_place (inl same) = ap test (sym same) ∙ is
        by_place (inr (inl above)) = rest later (omega (arith, above))
        by_place (inr (inr below)) = absurd (omega (arith, low, below))

none_passes : (test : ℕ → Bool) (h : List Event) → find test (places h) ≡ None → ((n : ℕ) → length h ≤ n → test n ≡ false) → (n : ℕ) → test n ≡ false
none_passes test h missing past n = by_place (cases_lt n (length h)) where
  by_place : (n < length h) ⊎ (length h ≤ n) → test n ≡ false
  by_place (inl l) = none_found test 0 (length h) missing n (omega arith) (omega (arith, l))
  by_place (inr l) = past n l

-- nothing is left ----------------------------------------------------------------------------------

pub nothing_left : (b : BookState) → IsBookPromised b → None ≡ find (is_out b.history) (places b.history) → None ≡ find (is_open_root b.history) (places b.history) →
    None ≡ find (is_connected_manual b.history) (places b.history) → IsNothingLeft b
nothing_left b kept no_lease no_root no_hub = record {
  none_open = none_open;
  none_held = held_count_closed b.history none_open none_out;
  none_out = none_out;
} where
  back : (l : ℕ) → is_out b.history l ≡ false
  back = none_passes (is_out b.history) b.history (sym no_lease) (is_out_past b.history)

  unconnected : (g : ℕ) → at is_manual_hub b.history g ≡ true → open_connections b.history g ≡ []
  unconnected g manual =
      let none = none_found (is_connected_manual b.history) 0 (length b.history) (sym no_hub) g (omega arith)
      (let w = at_within is_manual_hub b.history g manual in omega (arith, w)) in
      connects_none b.history g (false_from_ne_true (has_connection b.history g) (λ has.
      both_ways (is_connected_manual b.history g) none (and_from (at is_manual_hub b.history g) (has_connection b.history g) manual has)))

  none_out : lease_count b.history ≡ 0
  none_out = sum_by_none (λ l. cond (is_out b.history l) 1 0) (length b.history) (λ l w. ap (λ (x : Bool). cond {A = ℕ} x 1 0) (back l))

  none_open : open_count b.history ≡ 0
  none_open = nothing_open_counted b.base b.history kept.lawful kept.settled (record {
    unsubscribed = none_passes (is_open_root b.history) b.history (sym no_root)
        (λ n past. ap (λ (o : Bool). o && at is_root b.history n) (is_open_past b.history n past));
    disconnected = unconnected;
  })

-- what is found is let go of -----------------------------------------------------------------------

-- no cause stands against it
returnable : (b : BookState) (k : LeaseKey) (why : Refusal) → has_lease_key b.lease_keys k ≡ true → is_out b.history k.number ≡ true →
    first_cause (stands b (give_back_request b k)) ≡ Some why → ⊥
returnable b k why known out cause = search rules

disposable : (b : BookState) (k : Key) (why : Refusal) → has_key b.keys k ≡ true → is_open_root b.history k.number ≡ true →
    first_cause (stands b (dispose_request b k)) ≡ Some why → ⊥
disposable b k why known root cause = search (rules, and_parts)

disconnectable : (b : BookState) (g : ℕ) (why : Refusal) → is_connected_manual b.history g ≡ true → first_cause (stands b (disconnect_request g)) ≡ Some why → ⊥
disconnectable b g why found cause = search (rules, and_parts, manual_hub)

module _ {A : Type 0} {g : Ghosts Token} {by : ℕ} {s t : State} where
  pub lease_let_go : (k : LeaseKey) (answer : Result A Refusal) → Some k.number ≡ find (is_out s.book.history) (places s.book.history) →
      IsTrue (has_lease_key s.book.lease_keys k) → IsFreeMade g (λ x. give_back_request x.book k) by 0 s t answer → IsClosingMade g by s t answer
  lease_let_go k (Ok a) found known made =
      record { done = record { asked = give_back_request s.book k; next = next_lease k (sym found) known; done = made.done }; refused = tt; kept = tt }
  lease_let_go k (Err why) found known made =
      absurd (returnable s.book k why known (find_passes (is_out s.book.history) (places s.book.history) k.number (sym found)) made.refused)

  pub root_let_go : (k : Key) (answer : Result A Refusal) → None ≡ find (is_out s.book.history) (places s.book.history) →
      Some k.number ≡ find (is_open_root s.book.history) (places s.book.history) → IsTrue (has_key s.book.keys k) →
      IsFreeMade g (λ x. dispose_request x.book k) by 0 s t answer → IsClosingMade g by s t answer
  root_let_go k (Ok a) none found known made =
      record { done = record { asked = dispose_request s.book k; next = next_root k (sym none) (sym found) known; done = made.done }; refused = tt; kept = tt }
  root_let_go k (Err why) none found known made =
      absurd (disposable s.book k why known (find_passes (is_open_root s.book.history) (places s.book.history) k.number (sym found)) made.refused)

  pub hub_let_go : (hub : ℕ) (answer : Result A Refusal) → None ≡ find (is_out s.book.history) (places s.book.history) →
      None ≡ find (is_open_root s.book.history) (places s.book.history) → Some hub ≡ find (is_connected_manual s.book.history) (places s.book.history) →
      IsFreeMade g (λ x. disconnect_request hub) by 0 s t answer → IsClosingMade g by s t answer
  hub_let_go hub (Ok a) none no_root found made =
      record { done = record { asked = disconnect_request hub; next = next_hub hub (sym none) (sym no_root) (sym found); done = made.done }; refused = tt; kept = tt }
  hub_let_go hub (Err why) none no_root found made =
      absurd (disconnectable s.book hub why (find_passes (is_connected_manual s.book.history) (places s.book.history) hub (sym found)) made.refused)
